use Prim.Native.Nat.{◌+◌, ◌*◌, ◌-◌}
use mathlib.Core.Path.{refl}
use native.Mathlib.Omega.{arith}
use lib.ListN.{length-set}
use borrow.Author.Rules.{rules}
use Rattle.doc_copy.proofs.Copies.{copy_start, copy_more, copy_end}
use Rattle.doc_copy.proofs.copier.Goals as goal

pub loop-k-init : goal.loop-k-init
loop-k-init c = (search rules, refl, copy_start _ _ _ _)

pub hung-requires : goal.hung-requires
hung-requires c = c.requires.limit

pub bounds-free-own : goal.bounds-free-own
bounds-free-own c = omega (arith, c.requires.long)

pub bounds-free-own-in-loop-k : goal.bounds-free-own-in-loop-k
bounds-free-own-in-loop-k c = simp length-set (omega (arith, c.requires.long))

pub loop-k-preserved : goal.loop-k-preserved
loop-k-preserved c = (search rules, simp length-set c.loop-k.invariant.1, copy_more _ _ _ _ _ c.loop-k.invariant.2 (omega (arith, c.requires.long)) c.hung.ensures refl (omega (arith, c.shared_slice_known-1.given (2 * c.loop-k.k + 1))))

pub shape_of-free : goal.shape_of-free
shape_of-free c = c.loop-k.invariant.1

pub returns : goal.returns
returns c = copy_end _ _ _ _ _ c.loop-k.invariant.2 _ c.loop-k.invariant.0 c.loop-k-test.false
