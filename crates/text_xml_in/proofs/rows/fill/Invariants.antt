-- The rows of the text before i stand in the table.
use Rattle.text_xml_in.proofs.Filling.{Filled}
use Rattle.text_xml_in.proofs.rows.fill.Given as goal

abbrev pub invariant-loop-i : goal.invariant-loop-i
invariant-loop-i l = Filled l.s l.initial.words l.i l.q l.v l.u l.k l.words
