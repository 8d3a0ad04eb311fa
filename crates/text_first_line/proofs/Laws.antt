-- The first line is one thing; how long a mode line is, and what one is refused for.
use Rattle.std.specs.Prelude.{Option, Some, None, Result, Ok, Err}
use Rattle.batch_mode.specs.declared.Mode.{Mode}
use Prim.Native.Nat.{ℕ, ◌-◌, ◌≤◌}
use mathlib.Core.Path.{◌≡◌, refl, sym, ◌∙◌, ap}
use mathlib.Core.Bool.{◌||◌}
use mathlib.Core.List.{List}
use mathlib.Core.Logic.{◌⊎◌, inl, inr}
use native.Mathlib.Omega.{arith}
use lib.Dec.{eqb, ltb, leb}
use lib.ListN.{length, get_or, drop, length-drop}
use borrow.Author.Tests.{ltb-true, leb-true}
use Rattle.tables.specs.Checks.{test, refuse, Fine}
use Rattle.tables.specs.Refusals.{numbered}
use Rattle.tables.specs.declared.refusal.Refusal.{Refusal}
use Rattle.tables.proofs.Accepted.{held, then_first, then_second}
use Rattle.tables.proofs.Refused.{test_why, then_why}
use Rattle.batch_mode.specs.Modes.{mode_check}
use Rattle.text_first_line.specs.FirstLine.{line_end, line_at, first_words, ModeLine, mode_line_check}
use Rattle.text_first_line.specs.Answer.{FirstIs}
use Rattle.text_first_line.proofs.Lines.{line_long, formed_long}

-- the rest of an input begins at one place
drop_one : (s : List ℕ) (a b : ℕ) → a ≤ length s → b ≤ length s → drop a s ≡ drop b s → a ≡ b
drop_one s a b h l e =
    let long : length s - a ≡ length s - b = sym (length-drop a s) ∙ ap length e ∙ length-drop b s in
    omega arith

-- two answers that meet the promise are the same
pub first_one : (s : List ℕ) (x y : Result (Option (Mode × ℕ)) Refusal) → FirstIs s x → FirstIs s y → x ≡ y
first_one s (Ok None) (Ok None) f g = refl
first_one s (Ok None) (Ok (Some (m, at))) f g = absurd (f g.0)
first_one s (Ok None) (Err r) f g = absurd (f g.0)
first_one s (Ok (Some (m, at))) (Ok None) f g = absurd (g f.0)
first_one s (Ok (Some (m, at))) (Ok (Some (n, from))) f g =
    let mode : m ≡ n = f.2 ∙ sym g.2 in
    let place : at ≡ from = drop_one s at from f.3 g.3 (f.4 ∙ sym g.4) in
    rw (mode, place)
first_one s (Ok (Some (m, at))) (Err r) f g = let x = f.1 in let y = g.1 in cc
first_one s (Err r) (Ok None) f g = absurd (g f.0)
first_one s (Err r) (Ok (Some (m, at))) f g = let x = f.1 in let y = g.1 in cc
first_one s (Err q) (Err r) f g = let x = f.1 in let y = g.1 in cc

-- a mode line that is accepted has two words
mode_line_words : (ws : List ℕ) → mode_line_check ws ≡ Fine → length ws ≡ 2
unfolding mode_line_check
mode_line_words ws e =
    let some = ltb-true 1 (length ws) (held (ltb 1 (length ws)) _ (then_first (test (ltb 1 (length ws)) (refuse 9 6 1)) _ e)) in
    let rest = then_second (test (ltb 1 (length ws)) (refuse 9 6 1)) _ e in
    let few = leb-true (length ws) 2 (held (leb (length ws) 2) _ (then_first (test (leb (length ws) 2) (refuse 9 6 2)) _ rest)) in
    omega arith

-- so it has eight digits
pub mode_line_long : (s : List ℕ) → ModeLine s → mode_line_check (first_words s) ≡ Fine → line_end s 0 ≡ 8
mode_line_long s mode e =
    let long = line_long s 0 (omega arith) in
    let digits = formed_long (line_at s 0) 1 mode.formed in
    omega (arith, mode_line_words (first_words s) e)

-- a mode line is refused by 9 at the word that is missing or left over, or by 8 at its mode
pub mode_refused_numbers : (ws : List ℕ) {r : Refusal} → mode_line_check ws ≡ Err r
    → (r ≡ record { reason = numbered 9; table = 6; place = 1 }) ⊎ ((r ≡ record { reason = numbered 9; table = 6; place = 2 }) ⊎ (r ≡ record { reason = numbered 8; table = 6; place = 1 }))
unfolding mode_line_check mode_check
mode_refused_numbers ws e =
    then_why (test (ltb 1 (length ws)) (refuse 9 6 1)) _
    (λ f. inl (test_why (ltb 1 (length ws)) _ f).1)
    (λ some e.
    then_why (test (leb (length ws) 2) (refuse 9 6 2)) _
    (λ f. inr (inl (test_why (leb (length ws) 2) _ f).1))
    (λ few f. inr (inr (test_why (eqb (get_or ws 1 0) 1 || eqb (get_or ws 1 0) 2) _ f).1))
    e)
    e
