-- The levels that can be held are noted as they come up again.
use Rattle.text_xml_in.proofs.Recalling.{Recalling}
use Rattle.text_xml_in.proofs.levels.recall.Given as goal

abbrev pub invariant-loop-j : goal.invariant-loop-j
invariant-loop-j l = Recalling l.s l.i l.d l.row l.q l.v l.e l.j
