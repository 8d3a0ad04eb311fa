-- The number in an element's name, digit by digit: as it is read, and as it is the start of another's digits.
use Prim.Native.Nat.{ℕ, ◌+◌, ◌-◌, ◌*◌, ◌/◌, ◌%◌, ◌<◌, ◌≤◌}
use mathlib.Core.Path.{◌≡◌, refl, sym, ◌∙◌}
use mathlib.Core.Bool.{true, ◌||◌, or-true}
use mathlib.Core.List.{List, [], ◌∷◌, ◌++◌, append_assoc, append-nil}
use native.Mathlib.Omega.{arith}
use lib.Dec.{eqb, ltb, leb}
use borrow.Author.Tests.{lt-ltb, le-leb, eq-eqb, ltb-true, leb-true, eqb-true}
use Rattle.tables.specs.Limits.{word_limit}
use Rattle.selection.proofs.Runs.{both, either}
use Rattle.text_xml.specs.Decimal.{decimal}
use Rattle.text_xml.proofs.Decimal.{decimal-small, decimal_more}
use Rattle.text_xml_form.specs.Elements.{label_right}
use Rattle.text_xml_form.specs.Scan.{is_digit, further, leads}

-- a label is 1 to 65,535
pub of-label : (l : ℕ) → label_right l ≡ true → (0 < l) × (l < word_limit)
unfolding label_right
of-label l e = both (ltb 0 l) (ltb l word_limit) e (λ a b. (ltb-true 0 l a, ltb-true l word_limit b))

pub to_label : (l : ℕ) → 0 < l → l < word_limit → label_right l ≡ true
unfolding label_right
to_label l a b = rw (lt-ltb 0 l a, lt-ltb l word_limit b)

-- a digit is 48 to 57
pub of_digit : (c : ℕ) → is_digit c ≡ true → (48 ≤ c) × (c ≤ 57)
unfolding is_digit
of_digit c e = both (leb 48 c) (leb c 57) e (λ a b. (leb-true 48 c a, leb-true c 57 b))

pub to_digit : (d : ℕ) → d < 10 → is_digit (48 + d) ≡ true
unfolding is_digit
to_digit d h = rw (le-leb 48 (48 + d) (omega arith), le-leb (48 + d) 57 (omega arith))

-- the last digit of a number behind the others makes it
pub further-last : (n : ℕ) → further (n / 10) (48 + n % 10) ≡ n
unfolding further
further-last n = omega arith

pub further_first : (n : ℕ) → further 0 (48 + n) ≡ n
unfolding further
further_first n = omega arith

-- what of a number has been read: no digit yet, or all of some number's
pub data Name : ℕ → List ℕ → Type 0 where
  no_digit : Name 0 []
  digits : (v : ℕ) → 0 < v → Name v (decimal v)

digits_as : (v : ℕ) (w : List ℕ) → 0 < v → decimal v ≡ w → Name v w
digits_as v w h e = rw (← e) (digits v h)

-- one digit more
pub name-further : {v : ℕ} {w : List ℕ} (c : ℕ) → Name v w → is_digit c ≡ true → 0 < further v c → Name (further v c) (w ++ (c ∷ []))
unfolding further
name-further c no_digit d h =
    let b = of_digit c d in
    let e : 48 + (10 * 0 + (c - 48)) ≡ c = omega (arith, b) in
    digits_as (10 * 0 + (c - 48)) (c ∷ []) h (rw (decimal-small (10 * 0 + (c - 48)) (omega (arith, b)), e))
name-further c (digits v k) d h =
    let b = of_digit c d in
    let tenth : (10 * v + (c - 48)) / 10 ≡ v = omega (arith, b) in
    let last : 48 + (10 * v + (c - 48)) % 10 ≡ c = omega (arith, b) in
    digits_as (10 * v + (c - 48)) (decimal v ++ (c ∷ [])) h (rw (decimal_more (10 * v + (c - 48)) (omega arith), tenth, last))

-- a number that is some has digits
pub name_some : {v : ℕ} {w : List ℕ} → Name v w → 0 < v → w ≡ decimal v
name_some no_digit h = absurd (omega arith)
name_some (digits v k) h = refl

-- the numbers whose digits a label begins with: itself, its tenth, and so on
module _ {C : Type 0} (w l : ℕ) (own : 0 < w → w ≡ l → C) (tenth : 0 < w → w ≡ l / 10 → C) (hundredth : 0 < w → w ≡ l / 100 → C)
    (thousandth : 0 < w → w ≡ l / 1000 → C) (least : 0 < w → w ≡ l / 10000 → C) where
  pub of-leads : leads w l ≡ true → C
  unfolding leads
  of-leads e =
      both (ltb 0 w) (eqb w l || (eqb w (l / 10) || (eqb w (l / 100) || (eqb w (l / 1000) || eqb w (l / 10000))))) e
      (λ a r. either (eqb w l) (eqb w (l / 10) || (eqb w (l / 100) || (eqb w (l / 1000) || eqb w (l / 10000)))) r
      (λ h. own (ltb-true 0 w a) (eqb-true w l h))
      (λ r. either (eqb w (l / 10)) (eqb w (l / 100) || (eqb w (l / 1000) || eqb w (l / 10000))) r
      (λ h. tenth (ltb-true 0 w a) (eqb-true w (l / 10) h))
      (λ r. either (eqb w (l / 100)) (eqb w (l / 1000) || eqb w (l / 10000)) r
      (λ h. hundredth (ltb-true 0 w a) (eqb-true w (l / 100) h))
      (λ r. either (eqb w (l / 1000)) (eqb w (l / 10000)) r
      (λ h. thousandth (ltb-true 0 w a) (eqb-true w (l / 1000) h))
      (λ h. least (ltb-true 0 w a) (eqb-true w (l / 10000) h))))))

module _ (w l : ℕ) (some : 0 < w) where
  pub leads-own : w ≡ l → leads w l ≡ true
  unfolding leads
  leads-own e = rw (lt-ltb 0 w some, eq-eqb w l e)

  leads_tenth : w ≡ l / 10 → leads w l ≡ true
  unfolding leads
  leads_tenth e = rw (lt-ltb 0 w some, eq-eqb w (l / 10) e) (or-true (eqb w l))

  leads_hundredth : w ≡ l / 100 → leads w l ≡ true
  unfolding leads
  leads_hundredth e = rw (lt-ltb 0 w some, eq-eqb w (l / 100) e, or-true (eqb w (l / 10))) (or-true (eqb w l))

  leads_thousandth : w ≡ l / 1000 → leads w l ≡ true
  unfolding leads
  leads_thousandth e = rw (lt-ltb 0 w some, eq-eqb w (l / 1000) e, or-true (eqb w (l / 100)), or-true (eqb w (l / 10))) (or-true (eqb w l))

  leads-least : w ≡ l / 10000 → leads w l ≡ true
  unfolding leads
  leads-least e =
      rw (lt-ltb 0 w some, eq-eqb w (l / 10000) e, or-true (eqb w (l / 1000)), or-true (eqb w (l / 100)), or-true (eqb w (l / 10))) (or-true (eqb w l))

-- there is no leading zero
pub leads_some : (w l : ℕ) → leads w l ≡ true → 0 < w
leads_some w l = of-leads w l (λ s e. s) (λ s e. s) (λ s e. s) (λ s e. s) (λ s e. s)

-- a number that leads a label has a tenth that does
pub tenth_leads : (w l : ℕ) → l < word_limit → 10 ≤ w → leads w l ≡ true → leads (w / 10) l ≡ true
tenth_leads w l b h =
    of-leads w l
    (λ s e. leads_tenth (w / 10) l (omega arith) (omega arith))
    (λ s e. leads_hundredth (w / 10) l (omega arith) (omega arith))
    (λ s e. leads_thousandth (w / 10) l (omega arith) (omega arith))
    (λ s e. leads-least (w / 10) l (omega arith) (omega arith))
    (λ s e. absurd (omega arith))

-- the rest of a label's digits
pub record Rest (w l : ℕ) : Type 0 where
  pub rest : List ℕ
  pub whole : decimal w ++ rest ≡ decimal l

rest_own : (w l : ℕ) → w ≡ l → Rest w l
rest_own w l e = record { rest = []; whole = rw e (append-nil (decimal l)) }

rest_tenth : (w l : ℕ) → 10 ≤ l → Rest w (l / 10) → Rest w l
rest_tenth w l h r = record {
  rest = r.rest ++ ((48 + l % 10) ∷ []);
  whole = sym (append_assoc (decimal w) r.rest ((48 + l % 10) ∷ [])) ∙ rw r.whole (sym (decimal_more l h));
}

pub leads_rest : (w l : ℕ) → leads w l ≡ true → Rest w l
leads_rest w l =
    of-leads w l
    (λ s e. rest_own w l e)
    (λ s e. rest_tenth w l (omega arith) (rest_own w (l / 10) e))
    (λ s e. rest_tenth w l (omega arith) (rest_tenth w (l / 10) (omega arith) (rest_own w (l / 10 / 10) (omega arith))))
    (λ s e. rest_tenth w l (omega arith) (rest_tenth w (l / 10) (omega arith) (rest_tenth w (l / 10 / 10) (omega arith)
    (rest_own w (l / 10 / 10 / 10) (omega arith)))))
    (λ s e. rest_tenth w l (omega arith) (rest_tenth w (l / 10) (omega arith) (rest_tenth w (l / 10 / 10) (omega arith)
    (rest_tenth w (l / 10 / 10 / 10) (omega arith) (rest_own w (l / 10 / 10 / 10 / 10) (omega arith))))))
