-- The branches of the code are those of the definition.
use Rattle.doc_room.proofs.Branches.{room_none, room_enough}
use Rattle.doc_room.proofs.fitting.Goals as goal

pub returns-then-least-end : goal.returns-then-least-end
returns-then-least-end c = room_none _ _ _ _ c.lesser.ensures c.lesser-most.ensures c.lesser-least.ensures c.if-least-end.true c.refused.ensures

pub returns : goal.returns
returns c = room_enough _ _ _ _ c.lesser.ensures c.lesser-most.ensures c.lesser-least.ensures c.if-least-end.false
