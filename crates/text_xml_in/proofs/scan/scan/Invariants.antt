-- The text before i is right so far, and the levels that an end tag asks for are held.
use Rattle.text_xml_in.specs.Levels.{Scans}
use Rattle.text_xml_in.proofs.scan.scan.Given as goal

abbrev pub invariant-loop-i : goal.invariant-loop-i
invariant-loop-i l = Scans l.s l.i l.q l.v l.d l.low l.row
