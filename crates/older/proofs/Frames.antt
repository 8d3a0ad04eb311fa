-- A frame that one installation accepts: what another answers to it.
use Prim.Native.Nat.{ℕ, ◌+◌, ◌*◌, ◌≤◌}
use mathlib.Core.Path.{◌≡◌, refl, sym, ◌∙◌}
use mathlib.Core.Bool.{Bool, true, false, ◌||◌, cond, not}
use mathlib.Core.List.{List}
use native.Mathlib.Omega.{arith}
use lib.Dec.{eqb, ltb, leb}
use borrow.Author.Tests.{leb-true}
use Rattle.tables.specs.Limits.{frame_limit}
use Rattle.tables.specs.Checks.{◌then◌, test, refuse, Fine}
use Rattle.tables.proofs.Accepted.{held, then_first, then_second}
use Rattle.batch_parts.specs.Parts.{count}
use Rattle.batch_frame.specs.Frames.{kind, kind_right, tree_at, end_of}
use Rattle.older.specs.Installations.{Installation, Within, steps_in, nodes_in, rest_in, frame_in}
use Rattle.older.specs.Answers.{to_frame}
use Rattle.older.proofs.Limits.{test_more, steps-part_other, nodes-part_other}

module _ (i j : Installation) (b : List ℕ) where
  steps_other : (at : ℕ) → steps_in i b at ≡ Fine → steps_in j b at ≡ test (leb (count b at) j.most_steps) (refuse 2 6 at)
  unfolding steps_in
  steps_other at e = steps-part_other b at i.most_steps j.most_steps e

  nodes_other : (at : ℕ) → nodes_in i b at ≡ Fine → nodes_in j b at ≡ test (leb (count b at) j.most_nodes) (refuse 2 6 at)
  unfolding nodes_in
  nodes_other at e = nodes-part_other b at i.most_nodes j.most_nodes e

  tree_other : (is : Bool) (at : ℕ) → cond is (nodes_in i b at) Fine ≡ Fine → cond is (nodes_in j b at) Fine ≡ cond is (test (leb (count b at) j.most_nodes) (refuse 2 6 at)) Fine
  tree_other true at e = nodes_other at e
  tree_other false at e = refl

  rest_other : (k at : ℕ) → rest_in i b k at ≡ Fine → rest_in j b k at ≡ cond (eqb k 2) (test (leb (count b (tree_at at (count b (at + 1)))) j.most_nodes) (refuse 2 6 (tree_at at (count b (at + 1))))) Fine
  unfolding rest_in
  rest_other k at e =
      rw (then_first (test (not (eqb k 3) || ltb 1 (count b (at + 1))) (refuse 6 6 (at + 1))) _ e)
      (tree_other (eqb k 2) (tree_at at (count b (at + 1))) (then_second (test (not (eqb k 3) || ltb 1 (count b (at + 1))) (refuse 6 6 (at + 1))) _ e))

  pub frame_other : (n at : ℕ) → frame_in i b n at ≡ Fine → frame_in j b n at ≡ to_frame j b at
  unfolding frame_in to_frame
  frame_other n at e =
      let kinds : (test (kind_right (kind b at)) (refuse 8 6 at) then steps_in i b (at + 1) then rest_in i b (kind b at) at) ≡ Fine = then_second (test (ltb n frame_limit) (refuse 10 6 at)) _ e in
      let parts : (steps_in i b (at + 1) then rest_in i b (kind b at) at) ≡ Fine = then_second (test (kind_right (kind b at)) (refuse 8 6 at)) _ kinds in
      rw (
        then_first (test (ltb n frame_limit) (refuse 10 6 at)) _ e,
        then_first (test (kind_right (kind b at)) (refuse 8 6 at)) _ kinds,
        steps_other (at + 1) (then_first (steps_in i b (at + 1)) _ parts),
        rest_other (kind b at) at (then_second (steps_in i b (at + 1)) _ parts),
      )

-- a frame is accepted by an installation whose limits are no less
module _ (o i : Installation) (w : Within o i) (b : List ℕ) where
  tree_kept : (is : Bool) (at : ℕ) → cond is (test (leb (count b at) o.most_nodes) (refuse 2 6 at)) Fine ≡ Fine → cond is (test (leb (count b at) i.most_nodes) (refuse 2 6 at)) Fine ≡ Fine
  tree_kept true at e = rw (test_more (count b at) o.most_nodes i.most_nodes _ w.nodes e)
  tree_kept false at e = refl

  pub to_frame_kept : (at : ℕ) → to_frame o b at ≡ Fine → to_frame i b at ≡ Fine
  unfolding to_frame
  to_frame_kept at e =
      rw (test_more (count b (at + 1)) o.most_steps i.most_steps _ w.steps (then_first (test (leb (count b (at + 1)) o.most_steps) (refuse 2 6 (at + 1))) _ e))
      (tree_kept (eqb (kind b at) 2) (tree_at at (count b (at + 1))) (then_second (test (leb (count b (at + 1)) o.most_steps) (refuse 2 6 (at + 1))) _ e))

  pub frame_kept : (n at : ℕ) → frame_in o b n at ≡ Fine → frame_in i b n at ≡ Fine
  frame_kept n at e = frame_other o i b n at e ∙ to_frame_kept at (sym (frame_other o o b n at e) ∙ e)

-- a frame that is accepted has no more words than the longest
pub frame_most : (i : Installation) (b : List ℕ) (at : ℕ) → to_frame i b at ≡ Fine → end_of b at ≤ at + (3 + 2 * i.most_steps + 2 * i.most_nodes)
unfolding to_frame end_of
frame_most i b at e =
    go (eqb (kind b at) 2)
    (leb-true (count b (at + 1)) i.most_steps (held (leb (count b (at + 1)) i.most_steps) _ (then_first (test (leb (count b (at + 1)) i.most_steps) (refuse 2 6 (at + 1))) _ e)))
    (then_second (test (leb (count b (at + 1)) i.most_steps) (refuse 2 6 (at + 1))) _ e)
  where
    go : (is : Bool) → count b (at + 1) ≤ i.most_steps →
        cond is (test (leb (count b (tree_at at (count b (at + 1)))) i.most_nodes) (refuse 2 6 (tree_at at (count b (at + 1))))) Fine ≡ Fine →
        cond is (tree_at at (count b (at + 1)) + 1 + 2 * count b (tree_at at (count b (at + 1)))) (tree_at at (count b (at + 1))) ≤ at + (3 + 2 * i.most_steps + 2 * i.most_nodes)
    go true h q =
        let few : count b (tree_at at (count b (at + 1))) ≤ i.most_nodes = leb-true (count b (tree_at at (count b (at + 1)))) i.most_nodes (held (leb (count b (tree_at at (count b (at + 1)))) i.most_nodes) _ q) in
        omega arith
    go false h q = omega arith
