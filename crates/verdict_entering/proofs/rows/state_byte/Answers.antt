-- The own row is climbed, the root's byte taken, the row handed over.
use mathlib.Core.Path.{◌∙◌}
use native.Mathlib.Omega.{arith}
use Rattle.verdict_entering.proofs.States.{handed_reached, handed_clear}
use Rattle.verdict_entering.proofs.rows.state_byte.Goals as goal

pub hand_over-requires : goal.hand_over-requires
hand_over-requires c = (omega (arith, c.requires.fitting.most, c.requires.reached.room), omega (arith, c.requires.fitting.most, c.climb.ensures.room))

pub returns : goal.returns
returns c = (c.root_byte-b.ensures, handed_reached _ _ c.requires.fitting c.hand_over.ensures _ (c.hand_over.auto.above ∙ c.requires.reached.room) c.climb.ensures, handed_clear _ _ c.requires.fitting c.hand_over.ensures (c.hand_over.auto.own ∙ c.climb.ensures.room))
