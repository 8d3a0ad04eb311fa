-- A line is refused by 13 alone; how long it is.
use Rattle.std.specs.Prelude.{Err}
use Prim.Native.Nat.{ℕ, zero, suc, ◌-◌, ◌*◌, ◌%◌, ◌≤◌}
use mathlib.Core.Path.{◌≡◌, refl, sym, ◌∙◌, ap}
use mathlib.Core.Bool.{Bool, true, false, ◌&&◌}
use mathlib.Core.List.{List}
use mathlib.Core.Logic.{◌⊎◌, inl, inr}
use native.Mathlib.Omega.{arith}
use lib.Dec.{eqb, ltb, leb}
use lib.ListN.{length, get_or, length-take, length-drop}
use Rattle.tables.specs.Limits.{digit_limit}
use Rattle.tables.specs.Checks.{◌then◌, test, refuse, each, Checked, Fine}
use Rattle.tables.specs.Refusals.{numbered}
use Rattle.tables.specs.declared.refusal.Refusal.{Refusal}
use Rattle.text_digits.specs.Digits.{digit_of, words_of}
use Rattle.text_digits.proofs.Returning.{length-line_of}
use Rattle.text_parts.proofs.Finding.{next_most}
use Rattle.text_line_in.specs.Lines.{character_check, line_check}
use Rattle.text_line_in.proofs.Promise.{accepted_returns}
use Rattle.text_first_line.specs.FirstLine.{line_end, line_at}

-- a check is fine, or is this refusal
abbrev pub Only : Refusal → Checked → Type 0
Only r c = (c ≡ Fine) ⊎ (c ≡ Err r)

only_test : (r : Refusal) (t : Bool) → Only r (test t (Err r))
only_test r true = inl refl
only_test r false = inr refl

only_then : (r : Refusal) (a b : Checked) → Only r a → Only r b → Only r (a then b)
only_then r a b (inl e) y = rw e y
only_then r a b (inr e) y = inr (rw e refl)

only_each : (r : Refusal) (check : ℕ → Checked) → ((i : ℕ) → Only r (check i)) → (v k : ℕ) → Only r (each check v k)
unfolding each
only_each r check all v zero = inl refl
only_each r check all v (suc k) = only_then r (check v) (each check (suc v) k) (all v) (only_each r check all (suc v) k)

pub line_only : (l : List ℕ) (line : ℕ) → Only (record { reason = numbered 13; table = 6; place = line }) (line_check l line)
unfolding line_check character_check
line_only l line =
    let r : Refusal = record { reason = numbered 13; table = 6; place = line } in
    only_then r (test (ltb 0 (length l) && (eqb (length l % 4) 0 && leb (length l) digit_limit)) (refuse 13 6 line)) (each (character_check l line) 0 (length l))
    (only_test r (ltb 0 (length l) && (eqb (length l % 4) 0 && leb (length l) digit_limit)))
    (only_each r (character_check l line) (λ i. only_test r (leb (digit_of (get_or l i 0)) 15)) 0 (length l))

-- a line is as long as from its place to its end
pub line_long : (s : List ℕ) (at : ℕ) → at ≤ length s → length (line_at s at) ≡ line_end s at - at
line_long s at h = rw (length-take, length-drop) (omega (arith, next_most 10 s at h))

-- a well-formed line has four digits a word
pub formed_long : (l : List ℕ) (line : ℕ) → line_check l line ≡ Fine → length l ≡ 4 * length (words_of l)
formed_long l line e = sym (ap length (accepted_returns l line e)) ∙ length-line_of (words_of l)
