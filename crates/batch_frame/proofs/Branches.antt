-- The branches of the code, held against those of the definitions.
use Rattle.std.specs.Prelude.{Ok, Err}
use Prim.Native.Nat.{ℕ, ◌+◌, ◌*◌, ◌<◌, ◌≤◌}
use mathlib.Core.Path.{◌≡◌, refl, sym, ◌∙◌, ap}
use mathlib.Core.Bool.{Bool, true, false, not, false≢true}
use mathlib.Core.List.{List}
use native.Mathlib.Decide.{dec_lt}
use native.Mathlib.Omega.{arith}
use lib.Dec.{eqb, ltb}
use lib.ListN.{length}
use borrow.Author.Tests.{ne_eqb, lt-ltb, le-ltb}
use Rattle.tables.specs.Limits.{frame_limit}
use Rattle.tables.specs.declared.refusal.Refusal.{Refusal}
use Rattle.tables.specs.Checks.{◌then◌, test, refuse, Checked, Fine}
use Rattle.tables.proofs.Outside.{outside}
use Rattle.tables.proofs.Tests.{first_passed, first_failed}
use Rattle.tables.proofs.Accepted.{held, then_first, then_second}
use Rattle.batch_parts.specs.Parts.{count, steps_check, nodes_check}
use Rattle.batch_frame.specs.Frames.{kind, kind_right, rest_check, frame_check, nodes_of, end_of, frame_of, frame_at}
use Rattle.outcomes.specs.declared.frames.Extent.{Extent}

pub kind_one : (k : ℕ) → k ≡ 1 → true ≡ kind_right k
unfolding kind_right
kind_one k e = rw e

pub kind_two : (k : ℕ) → (k ≡ 1 → ⊥) → k ≡ 2 → true ≡ kind_right k
unfolding kind_right
kind_two k n e = rw e

pub kind_three : (k : ℕ) → (k ≡ 1 → ⊥) → (k ≡ 2 → ⊥) → eqb k 3 ≡ kind_right k
unfolding kind_right
kind_three k n m = rw (ne_eqb k 1 n, ne_eqb k 2 m)

module _ (b : List ℕ) (k at : ℕ) {s : ℕ} (is : s ≡ count b (at + 1)) where
  pub rest_insert : {answer : Checked} → k ≡ 2 → answer ≡ nodes_check b (at + 2 + 2 * s) → answer ≡ rest_check b k at
  unfolding rest_check
  rest_insert e a = rw (e, ← is) a

  pub rest_read : (k ≡ 2 → ⊥) → (k ≡ 3 → ⊥) → Fine ≡ rest_check b k at
  unfolding rest_check
  rest_read no-insert no-delete = rw (ne_eqb k 2 no-insert, ne_eqb k 3 no-delete)

  pub rest_one : {answer : Checked} → answer ≡ refuse 6 6 (at + 1) → k ≡ 3 → s ≤ 1 → answer ≡ rest_check b k at
  unfolding rest_check
  rest_one a e h = rw (e, ← is, le-ltb 1 s h) a

  pub rest_delete : k ≡ 3 → 1 < s → Fine ≡ rest_check b k at
  unfolding rest_check
  rest_delete e h = rw (e, ← is, lt-ltb 1 s h)

module _ (b : List ℕ) (n at : ℕ) where
  pub frame_over : {answer : Checked} → answer ≡ refuse 10 6 at → frame_limit ≤ n → answer ≡ frame_check b n at
  unfolding frame_check
  frame_over a h = rw (le-ltb n frame_limit h) a

  module _ {k : ℕ} (is : k ≡ kind b at) {flag : Bool} (right : flag ≡ kind_right k) where
    pub kind_here : not flag ≡ false → at < length b
    unfolding kind_right
    kind_here h = go (dec_lt at (length b))
      where
        go : Dec (at < length b) → at < length b
        go (yes l) = l
        go (no l) =
            let zero : k ≡ 0 = is ∙ sym (outside b at (omega arith)) in
            absurd (false≢true (sym h ∙ rw (right, zero)))

    module _ (within : n < frame_limit) {answer : Checked} where
      pub frame_kind : answer ≡ refuse 8 6 at → not flag ≡ true → answer ≡ frame_check b n at
      unfolding frame_check
      frame_kind a h = rw (lt-ltb n frame_limit within) (a ∙ sym (first_failed _ (right ∙ ap kind_right is) _ h))

      pub frame_body : answer ≡ (steps_check b (at + 1) then rest_check b k at) → not flag ≡ false → answer ≡ frame_check b n at
      unfolding frame_check
      frame_body a h =
          rw (lt-ltb n frame_limit within)
          (a ∙ ap (λ (x : ℕ). steps_check b (at + 1) then rest_check b x at) is ∙ sym (first_passed _ (right ∙ ap kind_right is) _ h))

-- a frame that meets no refusal stands in the batch
pub frame_here : (b : List ℕ) (n at : ℕ) → frame_check b n at ≡ Fine → at < length b
unfolding frame_check
frame_here b n at e =
    let rest = then_second (test (ltb n frame_limit) (refuse 10 6 at)) _ e in
    let right : kind_right (kind b at) ≡ true = held (kind_right (kind b at)) _ (then_first (test (kind_right (kind b at)) (refuse 8 6 at)) _ rest) in
    kind_here b n at refl refl (rw right)

module _ (b : List ℕ) (at : ℕ) {k s : ℕ} (is : k ≡ kind b at) (steps : s ≡ count b (at + 1)) where
  pub frame_other : (k ≡ 2 → ⊥) → record { kind = k; from = at + 2; steps = s; nodes = 0; next = at + 2 + 2 * s } ≡ frame_of b at
  unfolding frame_of nodes_of end_of
  frame_other n = rw (← is, ← steps, ne_eqb k 2 n)

  pub frame_insert : {m : ℕ} → k ≡ 2 → m ≡ count b (at + 2 + 2 * s) → record { kind = k; from = at + 2; steps = s; nodes = m; next = at + 2 + 2 * s + 1 + 2 * m } ≡ frame_of b at
  unfolding frame_of nodes_of end_of
  frame_insert e m = rw (← is, ← steps, e, m)

pub framed_found : (b : List ℕ) (n at : ℕ) {got : Checked} {f : Extent} → got ≡ frame_check b n at → got ≡ Fine → f ≡ frame_of b at → Ok f ≡ frame_at b n at
unfolding frame_at
framed_found b n at e g f = rw (← e, g, f)

pub framed_refused : (b : List ℕ) (n at : ℕ) {got : Checked} {r : Refusal} → got ≡ frame_check b n at → got ≡ Err r → Err r ≡ frame_at b n at
unfolding frame_at
framed_refused b n at e g = rw (← e, g)
