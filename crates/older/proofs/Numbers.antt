-- Which numbers an installation answers to a line that another takes: 13 exactly where the line is too long for it, else 2.
use Rattle.std.specs.Prelude.{Ok, Err}
use Prim.Native.Nat.{ℕ, ◌+◌, ◌<◌, ◌≤◌}
use mathlib.Core.Path.{◌≡◌, refl, sym, ◌∙◌, ap}
use mathlib.Core.Bool.{Bool, true, false, cond}
use mathlib.Core.List.{List, ◌++◌}
use mathlib.Core.Logic.{◌⊎◌, inl, inr}
use native.Mathlib.Omega.{arith}
use lib.Dec.{eqb, leb}
use lib.ListN.{length}
use borrow.Author.Tests.{leb-true, leb-false}
use Rattle.tables.specs.Refusals.{number}
use Rattle.tables.specs.Checks.{◌then◌, test, refuse, Checked, Fine}
use Rattle.tables.specs.declared.refusal.Refusal.{Refusal}
use Rattle.tables.proofs.Accepted.{never, held}
use Rattle.tables.proofs.Refused.{test_why, then_why}
use Rattle.batch_parts.specs.Parts.{count}
use Rattle.batch_frame.specs.Frames.{kind, tree_at, frame_of, answered}
use Rattle.outcomes.specs.declared.frames.Extent.{Extent}
use Rattle.text_digits.specs.Digits.{words_of}
use Rattle.older.specs.Installations.{Installation, Within, frame_in}
use Rattle.older.specs.Answers.{to_frame, to_line}
use Rattle.older.proofs.Frames.{frame_kept}

tree_number : (is : Bool) (t : Bool) (place : ℕ) {why : Refusal} → cond is (test t (refuse 2 6 place)) Fine ≡ Err why → number why.reason ≡ 2
tree_number true t place e = ap (λ (r : Refusal). number r.reason) (test_why t _ e).1
tree_number false t place e = never e refl

pub frame_number : (j : Installation) (b : List ℕ) (at : ℕ) {why : Refusal} → to_frame j b at ≡ Err why → number why.reason ≡ 2
unfolding to_frame
frame_number j b at =
    then_why (test (leb (count b (at + 1)) j.most_steps) (refuse 2 6 (at + 1))) _
    (λ q. ap (λ (r : Refusal). number r.reason) (test_why (leb (count b (at + 1)) j.most_steps) _ q).1)
    (λ _ q. tree_number (eqb (kind b at) 2) (leb (count b (tree_at at (count b (at + 1)))) j.most_nodes) (tree_at at (count b (at + 1))) q)

pub line_number : (j : Installation) (l : List ℕ) (n : ℕ) (b : List ℕ) {why : Refusal} → to_line j l n b ≡ Err why →
    ((j.most_digits < length l) × (number why.reason ≡ 13)) ⊎ ((length l ≤ j.most_digits) × (number why.reason ≡ 2))
unfolding to_line
line_number j l n b =
    then_why (test (leb (length l) j.most_digits) (refuse 13 6 (n + 1))) _
    (λ q. inl (leb-false (length l) j.most_digits (test_why (leb (length l) j.most_digits) _ q).0, ap (λ (r : Refusal). number r.reason) (test_why (leb (length l) j.most_digits) _ q).1))
    (λ f q. inr (leb-true (length l) j.most_digits (held (leb (length l) j.most_digits) _ f), frame_number j (b ++ words_of l) (length b) q))

-- what reading a frame gives: the same frame
pub found_kept : (o i : Installation) → Within o i → (b : List ℕ) (n at : ℕ) {f : Extent} → answered (frame_in o b n at) (frame_of b at) ≡ Ok f → answered (frame_in i b n at) (frame_of b at) ≡ Ok f
found_kept o i w b n at {f} e = go (frame_in o b n at) refl e
  where
    go : (c : Checked) → frame_in o b n at ≡ c → answered c (frame_of b at) ≡ Ok f → answered (frame_in i b n at) (frame_of b at) ≡ Ok f
    go (Ok tt) q h = rw (frame_kept o i w b n at q) h
    go (Err r) q h = let z : ◌≡◌ {A = ℕ} 0 1 = cc in absurd (omega arith)
