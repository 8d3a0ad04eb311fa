-- From what the checks and the loop give to the promise of reading a line; the promise fixes its answer and its buffer.
use Rattle.std.specs.Prelude.{Result, Ok, Err}
use Prim.Native.Nat.{ℕ, ◌/◌, ◌%◌, ◌<◌, ◌≤◌}
use mathlib.Core.Path.{◌≡◌, refl, sym, ◌∙◌, ap}
use mathlib.Core.Bool.{◌&&◌}
use mathlib.Core.List.{List, ◌++◌}
use native.Mathlib.Nat.{zero-add}
use native.Mathlib.Omega.{arith}
use lib.Dec.{eqb, ltb, leb}
use lib.ListN.{length, get_or, drop}
use borrow.Author.Tests.{ltb-true, leb-true, eqb-true}
use Rattle.tables.specs.Limits.{digit_limit}
use Rattle.tables.specs.Checks.{◌then◌, test, refuse, output_check, Checked, Fine}
use Rattle.tables.specs.declared.refusal.Refusal.{Refusal}
use Rattle.tables.proofs.Accepted.{held, then_first, then_second, each_fine, output_room}
use Rattle.selection.proofs.Runs.{both}
use Rattle.selection.specs.Lists.{tab}
use Rattle.text_digits.specs.Digits.{digit_of, word_at, words_of, line_of, Digits}
use Rattle.text_digits.proofs.Returning.{line_returns}
use Rattle.text_line_in.specs.Lines.{character_check, line_check, ReadAs}

-- every character of an accepted line is a digit
pub line_digits : (s : List ℕ) (line : ℕ) → line_check s line ≡ Fine → Digits s
unfolding line_check character_check
line_digits s line e =
    record {
      all = λ i h.
          leb-true (digit_of (get_or s i 0)) 15
          (held (leb (digit_of (get_or s i 0)) 15) _
          (rw zero-add at
          (each_fine (character_check s line) 0 (length s)
          (then_second (test (ltb 0 (length s) && (eqb (length s % 4) 0 && leb (length s) digit_limit)) (refuse 13 6 line)) _ e)
          i
          h)));
    }

-- and they are whole words, at least one, at most 2,572 digits
line_sized : (s : List ℕ) (line : ℕ) → line_check s line ≡ Fine → (0 < length s) × (length s % 4 ≡ 0) × (length s ≤ digit_limit)
unfolding line_check
line_sized s line e =
    both (ltb 0 (length s)) (eqb (length s % 4) 0 && leb (length s) digit_limit)
    (held (ltb 0 (length s) && (eqb (length s % 4) 0 && leb (length s) digit_limit)) _
    (then_first (test (ltb 0 (length s) && (eqb (length s % 4) 0 && leb (length s) digit_limit)) (refuse 13 6 line)) _ e))
    (λ some rest.
    both (eqb (length s % 4) 0) (leb (length s) digit_limit) rest
    (λ h k. (ltb-true 0 (length s) some, eqb-true (length s % 4) 0 h, leb-true (length s) digit_limit k)))

pub line_short : (s : List ℕ) (line : ℕ) → line_check s line ≡ Fine → length s ≤ digit_limit
line_short s line e = (line_sized s line e).2

pub line_some : (s : List ℕ) (line : ℕ) → line_check s line ≡ Fine → 4 ≤ length s
line_some s line e = let sized = line_sized s line e in omega (arith, sized.0, sized.1)

-- an accepted line is written back unchanged
pub accepted_returns : (s : List ℕ) (line : ℕ) → line_check s line ≡ Fine → line_of (words_of s) ≡ s
accepted_returns s line e = line_returns s (line_digits s line e) (line_sized s line e).1

module _ (s : List ℕ) (line : ℕ) (before : List ℕ) {got : Checked} (e : got ≡ (line_check s line then output_check (length s / 4) (length before))) where
  module _ (f : got ≡ Fine) where
    pub readable : Digits s × (length s / 4 ≤ length before)
    readable =
        let fine = sym e ∙ f in (
          line_digits s line (then_first (line_check s line) (output_check (length s / 4) (length before)) fine),
          output_room (length s / 4) (length before) (then_second (line_check s line) (output_check (length s / 4) (length before)) fine),
        )

    pub read_as : {after : List ℕ} → after ≡ tab (word_at s) (length s / 4) ++ drop (length s / 4) before → ReadAs s line before after (Ok (length s / 4))
    unfolding words_of
    read_as a = (sym e ∙ f, refl, a)

  pub read_refused : {r : Refusal} → got ≡ Err r → ReadAs s line before before (Err r)
  read_refused f = (sym e ∙ f, refl)

-- two answers with their buffers that meet the promise are the same
module _ (s : List ℕ) (line : ℕ) (before a b : List ℕ) where
  pub read_one : (x y : Result ℕ Refusal) → ReadAs s line before a x → ReadAs s line before b y → (x ≡ y) × (a ≡ b)
  read_one (Err q) (Err r) f g = let e = f.0 in let h = g.0 in ((cc), f.1 ∙ sym g.1)
  read_one (Err q) (Ok n) f g = let e = f.0 in let h = g.0 in ((cc), (cc))
  read_one (Ok m) (Err r) f g = let e = f.0 in let h = g.0 in ((cc), (cc))
  read_one (Ok m) (Ok n) f g =
      let same = f.1 ∙ sym g.1 in
      (ap Ok same, f.2 ∙ ap (λ (k : ℕ). words_of s ++ drop k before) same ∙ sym g.2)
