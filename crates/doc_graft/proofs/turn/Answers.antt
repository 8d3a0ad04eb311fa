-- The branches of the code are those of the definition.
use Rattle.doc_graft.proofs.Turns.{turn_none, turn_one}
use Rattle.doc_graft.proofs.turn.Goals as goal

pub returns-then-b-ne1 : goal.returns-then-b-ne1
returns-then-b-ne1 c = turn_none _ _ _ c.if-b-ne1.true

pub returns : goal.returns
returns c = turn_one _ _ _ c.if-b-ne1.false c.grafted.ensures
