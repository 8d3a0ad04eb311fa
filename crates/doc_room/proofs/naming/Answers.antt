-- The branches of the code are those of the definition.
use Rattle.doc_room.proofs.Branches.{names_none, names_enough}
use Rattle.doc_room.proofs.naming.Goals as goal

pub returns-then-next-gt-IDENTITY_LIMIT : goal.returns-then-next-gt-IDENTITY_LIMIT
returns-then-next-gt-IDENTITY_LIMIT c = names_none _ c.if-next-gt-IDENTITY_LIMIT.true c.refused.ensures

pub returns : goal.returns
returns c = names_enough _ c.if-next-gt-IDENTITY_LIMIT.false
