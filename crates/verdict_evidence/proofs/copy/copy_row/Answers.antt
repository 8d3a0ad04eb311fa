-- The tree is laid out, the copy hung under q, and the whole read.
use mathlib.Core.Path.{refl}
use native.Mathlib.Omega.{arith}
use Rattle.verdict_evidence.proofs.Copying.{laid_room, row_picked}
use Rattle.verdict_evidence.proofs.Unmarked.{blank_of}
use Rattle.verdict_evidence.proofs.copy.copy_row.Goals as goal

pub lay-requires : goal.lay-requires
lay-requires c = laid_room _ _ _ _ c.requires (blank_of _ _ refl)

pub returns : goal.returns
returns c = row_picked _ _ _ _ c.requires (λ i. omega (arith, c.shared_slice_known-2-1.given i)) (λ i. omega (arith, c.shared_slice_known-3-1.given i)) (blank_of _ _ refl) c.lay.ensures (blank_of _ _ refl) c.grafted-used.ensures (blank_of _ _ refl) c.reading.ensures
