-- The steps of a text, part by part: a right text has one list of steps, and they spell it.
use Prim.Native.Nat.{ℕ, ◌<◌, zero-le, suc-le-suc}
use mathlib.Core.Path.{◌≡◌, refl, sym, ◌∙◌, ap}
use mathlib.Core.Bool.{Bool, true, false, ◌&&◌, not}
use mathlib.Core.List.{List, [], ◌∷◌, ◌++◌}
use native.Mathlib.Nat.{not-suc-le-zero}
use lib.Dec.{eqb}
use lib.ListN.{length}
use borrow.Author.Tests.{ne_eqb, not-true}
use Rattle.selection.proofs.Runs.{both}
use Rattle.text_names.specs.Letters.{goes, all_go}
use Rattle.text_names.proofs.Naming.{starts-goes}
use Rattle.text_pattern.specs.Texts.{Step, step, slash, spell, word_right, steps_right}
use Rattle.text_pattern.specs.Scan.{right_text}
use Rattle.text_pattern.specs.Meaning.{parts, steps_in, behind, steps_of}
use Rattle.text_pattern.proofs.Bytes.{clash, slash_stops, Word, a_wildcard, a_name, of_word}
use Rattle.text_pattern.proofs.Spelled.{Later, no_step, child, descendant, Whole, first, of_steps}
use Rattle.text_pattern.proofs.Scanning.{scan_right}

-- no slash stands in it
unfoldable pub plain : List ℕ → Bool
plain [] = true
plain (c ∷ s) = not (eqb c slash) && plain s

-- what follows a step: nothing, or a slash
pub data Rest : List ℕ → Type 0 where
  none : Rest []
  more : (t : List ℕ) → Rest (slash ∷ t)

-- a word has bytes, and no slash
goes-plain : (c : ℕ) → goes c ≡ true → eqb c slash ≡ false
goes-plain c h = ne_eqb c slash (λ e. clash slash_stops (ap goes (sym e) ∙ h))

letters_plain : (v : List ℕ) → all_go v ≡ true → plain v ≡ true
unfolding all_go plain
letters_plain [] e = refl
letters_plain (c ∷ v) e = both (goes c) (all_go v) e (λ h k. rw (goes-plain c h, letters_plain v k))

pub plain_word : {w : List ℕ} → Word w → (plain w ≡ true) × (0 < length w)
unfolding plain
plain_word a_wildcard = (refl, suc-le-suc zero-le)
plain_word (a_name {c} {v} h k) = (rw (goes-plain c (starts-goes c h), letters_plain v k), suc-le-suc zero-le)

pub word_plain : (w : List ℕ) → word_right w ≡ true → (plain w ≡ true) × (0 < length w)
word_plain w e = plain_word (of_word w e)

-- what stands before the next slash is one part
word_part : (w t : List ℕ) → plain w ≡ true → Rest t → parts (w ++ t) ≡ w ∷ behind (parts t)
unfolding parts plain
word_part [] t e none = refl
word_part [] t e (more u) = refl
word_part (c ∷ w) t e r =
    both (not (eqb c slash)) (plain w) e
    (λ h k. rw (not-true (eqb c slash) h, word_part w t k r))

-- a step, and the steps of what follows it
pub child_step : (a : ℕ) (w t : List ℕ) → plain w ≡ true → 0 < length w → Rest t → steps_in a (behind (parts (slash ∷ (w ++ t)))) ≡ step a w ∷ steps_in 1 (behind (parts t))
unfolding parts steps_in
child_step a [] t e h r = absurd (not-suc-le-zero h)
child_step a (c ∷ w) t e h r = rw (word_part (c ∷ w) t e r)

pub descendant_step : (a : ℕ) (w t : List ℕ) → plain w ≡ true → Rest t → steps_in a (behind (parts (slash ∷ (slash ∷ (w ++ t))))) ≡ step 2 w ∷ steps_in 1 (behind (parts t))
unfolding parts steps_in
descendant_step a w t e r = rw (word_part w t e r)

pub rest_none : (a : ℕ) → steps_in a (behind (parts [])) ≡ []
unfolding parts steps_in
rest_none a = refl

-- later steps begin with a slash
pub later_rest : {xs : List Step} {t : List ℕ} → Later xs t → Rest t
later_rest no_step = none
later_rest (child {w} {t} h l) = more (w ++ t)
later_rest (descendant {w} {t} h l) = more (slash ∷ (w ++ t))

-- later steps are read back from their text
later_steps : {xs : List Step} {t : List ℕ} → Later xs t → steps_in 1 (behind (parts t)) ≡ xs
later_steps no_step = rest_none 1
later_steps (child {w} {t} h l) = rw (child_step 1 w t (plain_word h).0 (plain_word h).1 (later_rest l), later_steps l)
later_steps (descendant {w} {t} h l) = rw (descendant_step 1 w t (plain_word h).0 (later_rest l), later_steps l)

whole-steps : {xs : List Step} {s : List ℕ} → Whole xs s → steps_of s ≡ xs
unfolding steps_of
whole-steps (first {w} {t} h l) = rw (child_step 0 w t (plain_word h).0 (plain_word h).1 (later_rest l), later_steps l)

-- the steps of a right text: one list, right, and it spells the text
pub steps_spelled : (xs : List Step) → steps_right xs ≡ true → steps_of (spell xs) ≡ xs
steps_spelled xs e = whole-steps (of_steps xs e)

pub spelled_steps : (s : List ℕ) → right_text s ≡ true → spell (steps_of s) ≡ s
spelled_steps s e =
    let r = scan_right s e in
    rw (r.spelled, steps_spelled r.steps r.right)

pub steps_right_lem : (s : List ℕ) → right_text s ≡ true → steps_right (steps_of s) ≡ true
steps_right_lem s e =
    let r = scan_right s e in
    rw (r.spelled, steps_spelled r.steps r.right) r.right
