-- From what the check and the loop give to the promise of printing; the promise fixes its answer and its buffer.
use Rattle.std.specs.Prelude.{Result, Ok, Err}
use Prim.Native.Nat.{ℕ, ◌*◌, ◌/◌, ◌≤◌}
use mathlib.Core.Path.{◌≡◌, refl, sym, ◌∙◌, ap}
use mathlib.Core.List.{List, ◌++◌}
use native.Mathlib.Decide.{dec_le}
use native.Mathlib.Omega.{arith}
use lib.ListN.{length, drop}
use borrow.Author.Tests.{le-leb, lt-leb}
use Rattle.tables.specs.Checks.{output_check, Checked, Fine}
use Rattle.tables.specs.declared.refusal.Refusal.{Refusal}
use Rattle.tables.proofs.Accepted.{output_room}
use Rattle.text_plan_lines.specs.Printing.{Answered}

-- a text, the bytes that it takes, and the room for them
module _ (text before : List ℕ) {wanted : ℕ} (long : length text ≡ wanted) {got : Checked} (e : got ≡ output_check wanted (length before)) where
  pub text_refused : {r : Refusal} → got ≡ Err r → Answered text before before (Err r)
  text_refused told = (rw long (sym e ∙ told), refl)

  pub text_room : got ≡ Fine → wanted ≤ length before
  text_room told = output_room wanted (length before) (sym e ∙ told)

  pub text_bytes : got ≡ Fine → {after : List ℕ} → after ≡ text ++ drop wanted before → Answered text before after (Ok wanted)
  text_bytes told a = (rw long (sym e ∙ told), sym long, a)

-- room for n lines, counted in lines or in bytes
pub lines_room : (n have : ℕ) → output_check n (have / 13) ≡ output_check (13 * n) have
unfolding output_check
lines_room n have = go (dec_le (13 * n) have)
  where
    go : Dec (13 * n ≤ have) → output_check n (have / 13) ≡ output_check (13 * n) have
    go (yes h) = rw (le-leb (13 * n) have h, le-leb n (have / 13) (omega arith))
    go (no h) = rw (lt-leb (13 * n) have (omega arith), lt-leb n (have / 13) (omega arith))

-- two answers with their buffers that meet the promise are the same
pub answer_one : (text before a b : List ℕ) (x y : Result ℕ Refusal) → Answered text before a x → Answered text before b y → (x ≡ y) × (a ≡ b)
answer_one text before a b (Err q) (Err r) f g = let e = f.0 in let h = g.0 in ((cc), f.1 ∙ sym g.1)
answer_one text before a b (Err q) (Ok n) f g = let e = f.0 in let h = g.0 in let z : ◌≡◌ {A = ℕ} 0 1 = cc in absurd (omega arith)
answer_one text before a b (Ok m) (Err r) f g = let e = f.0 in let h = g.0 in let z : ◌≡◌ {A = ℕ} 0 1 = cc in absurd (omega arith)
answer_one text before a b (Ok m) (Ok n) f g =
    let same = f.1 ∙ sym g.1 in
    (ap Ok same, f.2 ∙ ap (λ (k : ℕ). text ++ drop k before) same ∙ sym g.2)
