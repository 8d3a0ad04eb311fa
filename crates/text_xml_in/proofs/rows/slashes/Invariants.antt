-- The slashes before i are counted.
use Rattle.text_xml_in.proofs.Slashes.{Counted}
use Rattle.text_xml_in.proofs.rows.slashes.Given as goal

abbrev pub invariant-loop-i : goal.invariant-loop-i
invariant-loop-i l = Counted l.s l.i l.k
