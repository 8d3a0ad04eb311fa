-- A frame that is refused has the fault that the refusal names.
use Rattle.std.specs.Prelude.{Err}
use Prim.Native.Nat.{ℕ, ◌+◌, ◌<◌}
use mathlib.Core.Path.{◌≡◌, refl, sym}
use mathlib.Core.Bool.{Bool, true, false, ◌||◌, cond, not, false≢true}
use mathlib.Core.List.{List}
use native.Mathlib.Omega.{arith}
use lib.Dec.{eqb, ltb}
use lib.ListN.{length}
use borrow.Author.Tests.{eqb-true, ltb-false}
use Rattle.tables.specs.Limits.{step_limit, frame_limit}
use Rattle.tables.specs.Checks.{test, refuse, Fine}
use Rattle.tables.specs.Refusals.{numbered}
use Rattle.tables.specs.declared.refusal.Refusal.{Refusal}
use Rattle.tables.proofs.Accepted.{never, then_first}
use Rattle.tables.proofs.Refused.{test_why, then_why}
use Rattle.batch_parts.specs.Parts.{count, count_check, steps_check, nodes_check}
use Rattle.batch_parts.proofs.Branches.{count_here, count_some}
use Rattle.batch_parts.proofs.Wrong.{absent, none, over, short, StepsWrong, count_of, axis_at, steps_why, NodesWrong, node_count_of, parent_at, label_at, nodes_why}
use Rattle.batch_frame.specs.Frames.{kind, tree_at, kind_right, rest_check, frame_check, end_of}
use Rattle.batch_frame.proofs.Ending.{steps_end, nodes_end}
use Rattle.batch_frame.specs.Faults.{too_many, kind_wrong, no_steps, many_steps, axis_wrong, one_step, no_nodes, many_nodes, parent_wrong, label_zero, missing, FaultAt}

module _ (b : List ℕ) (n at : ℕ) (here : at < length b) where
  module _ {r : Refusal} where
    ends_early : length b < end_of b at → r ≡ record { reason = numbered 9; table = 6; place = length b } → FaultAt b n at r
    ends_early early is = rw is (record { fault = missing early; from = omega arith; to = omega arith; there = λ other. absurd (other refl) })

    steps_fault : StepsWrong b (at + 1) r → FaultAt b n at r
    steps_fault (count_of (absent h is)) = ends_early (omega (arith, steps_end b at, h)) is
    steps_fault (count_of (none h z is)) = rw is (record { fault = no_steps z; from = omega arith; to = omega (arith, h); there = λ other. h })
    steps_fault (count_of (over h l is)) = rw is (record { fault = many_steps l; from = omega arith; to = omega (arith, h); there = λ other. h })
    steps_fault (count_of (short h is)) = ends_early (omega (arith, steps_end b at, h)) is
    steps_fault (axis_at i l w is h) =
        let from : at + 1 + 1 ≡ at + 2 = omega arith in
        rw is
        (rw from
        (record { fault = axis_wrong i l (rw from at w); from = omega arith; to = omega (arith, h); there = λ other. omega (arith, h) }))

    nodes_fault : kind b at ≡ 2 → NodesWrong b (tree_at at (count b (at + 1))) r → FaultAt b n at r
    nodes_fault two (node_count_of (absent h is)) = ends_early (omega (arith, nodes_end b at two, h)) is
    nodes_fault two (node_count_of (none h z is)) = rw is (record { fault = no_nodes two z; from = omega arith; to = omega (arith, h); there = λ other. h })
    nodes_fault two (node_count_of (over h l is)) = rw is (record { fault = many_nodes two l; from = omega arith; to = omega (arith, h); there = λ other. h })
    nodes_fault two (node_count_of (short h is)) = ends_early (omega (arith, nodes_end b at two, h)) is
    nodes_fault two (parent_at v l w is h) = rw is (record { fault = parent_wrong two v l w; from = omega arith; to = omega (arith, h); there = λ other. h })
    nodes_fault two (label_at v l w is h) = rw is (record { fault = label_zero two v l w; from = omega arith; to = omega (arith, h); there = λ other. h })

    -- what stands behind steps that are fine
    rest_fault : steps_check b (at + 1) ≡ Fine → rest_check b (kind b at) at ≡ Err r → FaultAt b n at r
    unfolding steps_check rest_check
    rest_fault fine e =
        then_why (test (not (eqb (kind b at) 3) || ltb 1 (count b (at + 1))) (refuse 6 6 (at + 1))) _
        (λ f.
        let why = test_why (not (eqb (kind b at) 3) || ltb 1 (count b (at + 1))) _ f in
        of_one (one (eqb (kind b at) 3) (ltb 1 (count b (at + 1))) refl refl why.0) why.1)
        (λ more f. insert (eqb (kind b at) 2) refl f)
        e
      where
        counted : count_check b (at + 1) step_limit ≡ Fine
        counted = then_first (count_check b (at + 1) step_limit) _ fine

        one : (t u : Bool) → eqb (kind b at) 3 ≡ t → ltb 1 (count b (at + 1)) ≡ u → (not t || u) ≡ false → (kind b at ≡ 3) × (count b (at + 1) ≡ 1)
        one true true is many f = absurd (false≢true (sym f))
        one true false is many f =
            (eqb-true (kind b at) 3 is, omega (arith, ltb-false 1 (count b (at + 1)) many, count_some b (at + 1) step_limit counted))
        one false u is many f = absurd (false≢true (sym f))

        of_one : (kind b at ≡ 3) × (count b (at + 1) ≡ 1) → r ≡ record { reason = numbered 6; table = 6; place = at + 1 } → FaultAt b n at r
        of_one w is =
            let there = count_here b (at + 1) step_limit counted in
            rw is (record { fault = one_step w.0 w.1; from = omega arith; to = omega (arith, there); there = λ other. there })

        insert : (t : Bool) → eqb (kind b at) 2 ≡ t → cond t (nodes_check b (tree_at at (count b (at + 1)))) Fine ≡ Err r → FaultAt b n at r
        insert true is f = nodes_fault (eqb-true (kind b at) 2 is) (nodes_why b (tree_at at (count b (at + 1))) f)
        insert false is f = never f refl

    pub frame_fault : frame_check b n at ≡ Err r → FaultAt b n at r
    unfolding frame_check
    frame_fault e =
        then_why (test (ltb n frame_limit) (refuse 10 6 at)) _
        (λ f.
        let why = test_why (ltb n frame_limit) _ f in
        rw why.1 (record { fault = too_many (ltb-false n frame_limit why.0); from = omega arith; to = omega (arith, here); there = λ other. here }))
        (λ few e.
        then_why (test (kind_right (kind b at)) (refuse 8 6 at)) _
        (λ f.
        let why = test_why (kind_right (kind b at)) _ f in
        rw why.1 (record { fault = kind_wrong why.0; from = omega arith; to = omega (arith, here); there = λ other. here }))
        (λ right e. then_why (steps_check b (at + 1)) _ (λ f. steps_fault (steps_why b (at + 1) f)) (λ fine f. rest_fault fine f) e)
        e)
        e
