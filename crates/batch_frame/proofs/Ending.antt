-- Where a frame ends.
use Prim.Native.Nat.{ℕ, ◌+◌, ◌*◌, ◌≤◌}
use mathlib.Core.Path.{◌≡◌}
use mathlib.Core.Bool.{Bool, true, false, cond}
use mathlib.Core.List.{List}
use native.Mathlib.Omega.{arith}
use lib.Dec.{eqb}
use Rattle.batch_parts.specs.Parts.{count}
use Rattle.batch_frame.specs.Frames.{kind, tree_at, end_of}

-- every frame ends behind its steps, and so behind its start; an insert behind its nodes
pub steps_end : (b : List ℕ) (at : ℕ) → tree_at at (count b (at + 1)) ≤ end_of b at
unfolding end_of
steps_end b at = go (eqb (kind b at) 2)
  where
    go : (t : Bool) → tree_at at (count b (at + 1)) ≤ cond t (tree_at at (count b (at + 1)) + 1 + 2 * count b (tree_at at (count b (at + 1)))) (tree_at at (count b (at + 1)))
    go true = omega arith
    go false = omega arith

pub end_behind : (b : List ℕ) (at : ℕ) → at + 2 ≤ end_of b at
end_behind b at = omega (arith, steps_end b at)

pub nodes_end : (b : List ℕ) (at : ℕ) → kind b at ≡ 2 → end_of b at ≡ tree_at at (count b (at + 1)) + 1 + 2 * count b (tree_at at (count b (at + 1)))
unfolding end_of
nodes_end b at is = rw is
