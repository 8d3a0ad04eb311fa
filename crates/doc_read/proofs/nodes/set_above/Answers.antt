-- The set in hand is that of the node before.
use native.Mathlib.Omega.{arith}
use Rattle.doc_read.proofs.Branches.{above_less, above_near, above_other}
use Rattle.doc_read.proofs.nodes.set_above.Goals as goal

pub returns-then-u-v : goal.returns-then-u-v
returns-then-u-v c = search above_near

pub set_at-requires : goal.set_at-requires
set_at-requires c = omega (arith, above_less _ _ _ c.requires.0 c.requires.1 c.parent_at-u.ensures)

pub returns : goal.returns
returns c = search above_other
