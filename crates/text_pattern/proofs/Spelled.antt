-- Right steps and their text as a relation.
use Prim.Native.Nat.{ℕ}
use mathlib.Core.Path.{◌≡◌, refl}
use mathlib.Core.Bool.{true, ◌&&◌, ◌||◌, false≢true}
use mathlib.Core.List.{List, [], ◌∷◌, ◌++◌}
use lib.Dec.{eqb}
use borrow.Author.Tests.{eqb-true}
use Rattle.selection.proofs.Runs.{both, either}
use Rattle.text_pattern.specs.Texts.{Step, step, slash, slashes, spell, word_right, later_right, steps_right, RightText}
use Rattle.text_pattern.proofs.Bytes.{Word, of_word, to_word}

-- child and descendant steps, and their text
pub data Later : List Step → List ℕ → Type 0 where
  no_step : Later [] []
  child : {w t : List ℕ} {xs : List Step} → Word w → Later xs t → Later (step 1 w ∷ xs) (slash ∷ (w ++ t))
  descendant : {w t : List ℕ} {xs : List Step} → Word w → Later xs t → Later (step 2 w ∷ xs) (slash ∷ (slash ∷ (w ++ t)))

-- a first step and later ones, and their text
pub data Whole : List Step → List ℕ → Type 0 where
  first : {w t : List ℕ} {xs : List Step} → Word w → Later xs t → Whole (step 0 w ∷ xs) (slash ∷ (w ++ t))

module _ {w t : List ℕ} {xs : List Step} (word : Word w) (more : Later xs t) where
  later_child : (a : ℕ) → a ≡ 1 → Later (step a w ∷ xs) (slashes a ++ (w ++ t))
  unfolding slashes
  later_child a e = rw e (child word more)

  later_descendant : (a : ℕ) → a ≡ 2 → Later (step a w ∷ xs) (slashes a ++ (w ++ t))
  unfolding slashes
  later_descendant a e = rw e (descendant word more)

  whole_first : (a : ℕ) → a ≡ 0 → Whole (step a w ∷ xs) (slashes a ++ (w ++ t))
  unfolding slashes
  whole_first a e = rw e (first word more)

pub of_later : (xs : List Step) → later_right xs ≡ true → Later xs (spell xs)
unfolding later_right spell
of_later [] e = no_step
of_later (x ∷ xs) e =
    both (eqb x.axis 1 || eqb x.axis 2) (word_right x.word && later_right xs) e
    (λ a r. both (word_right x.word) (later_right xs) r
    (λ w l. either (eqb x.axis 1) (eqb x.axis 2) a
    (λ h. later_child (of_word x.word w) (of_later xs l) x.axis (eqb-true x.axis 1 h))
    (λ h. later_descendant (of_word x.word w) (of_later xs l) x.axis (eqb-true x.axis 2 h))))

pub later_right_lem : {xs : List Step} {t : List ℕ} → Later xs t → later_right xs ≡ true
unfolding later_right
later_right_lem no_step = refl
later_right_lem (child w l) = rw (to_word w, later_right_lem l)
later_right_lem (descendant w l) = rw (to_word w, later_right_lem l)

pub later_spelled : {xs : List Step} {t : List ℕ} → Later xs t → t ≡ spell xs
unfolding spell slashes
later_spelled no_step = refl
later_spelled (child w l) = rw (← later_spelled l)
later_spelled (descendant w l) = rw (← later_spelled l)

pub of_steps : (xs : List Step) → steps_right xs ≡ true → Whole xs (spell xs)
unfolding steps_right spell
of_steps [] e = absurd (false≢true e)
of_steps (x ∷ xs) e =
    both (eqb x.axis 0) (word_right x.word && later_right xs) e
    (λ a r. both (word_right x.word) (later_right xs) r
    (λ w l. whole_first (of_word x.word w) (of_later xs l) x.axis (eqb-true x.axis 0 a)))

pub whole_right : {xs : List Step} {t : List ℕ} → Whole xs t → RightText t
unfolding steps_right spell slashes
whole_right (first {w} {t} {xs} h l) =
    record {
      steps = step 0 w ∷ xs;
      right = rw (to_word h, later_right_lem l);
      spelled = rw (← later_spelled l);
    }
