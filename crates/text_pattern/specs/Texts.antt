-- Patterns as text, in XPath 1.0 abbreviated form: `/` and a first step, then steps after `/` or `//`; a step is `*` or a name without a colon.
-- This is about the form alone: neither a list of names nor the limit of steps enters.
use Rattle.std.specs.Prelude.{ℕ, ◌≡◌, Bool, true, false, ◌&&◌, ◌||◌, cond, List, [], ◌∷◌, ◌++◌, eqb}
use Rattle.text_names.specs.Letters.{name}
use Rattle.text_names.specs.Names.{same}

-- a step as it is written: its axis (0 first, 1 child, 2 descendant), and `*` or a name
pub record Step : Type 0 where
  pub axis : ℕ
  pub word : List ℕ

abbrev pub step : ℕ → List ℕ → Step
step a w = record { axis = a; word = w }

abbrev pub slash : ℕ
slash = 47

abbrev pub star : List ℕ
star = 42 ∷ []

-- `//` before a descendant step, `/` before any other
unfoldable pub slashes : ℕ → List ℕ
slashes a = cond (eqb a 2) (slash ∷ slash ∷ []) (slash ∷ [])

-- the text of steps
unfoldable pub spell : List Step → List ℕ
spell [] = []
spell (x ∷ xs) = slashes x.axis ++ (x.word ++ spell xs)

-- `*` or a name without a colon
unfoldable pub word_right : List ℕ → Bool
word_right w = same w star || name w

-- each is a child or a descendant step
unfoldable pub later_right : List Step → Bool
later_right [] = true
later_right (x ∷ xs) = (eqb x.axis 1 || eqb x.axis 2) && (word_right x.word && later_right xs)

-- a first step, then others
unfoldable pub steps_right : List Step → Bool
steps_right [] = false
steps_right (x ∷ xs) = eqb x.axis 0 && (word_right x.word && later_right xs)

-- s is a right text
pub record RightText (s : List ℕ) : Type 0 where
  pub steps : List Step
  pub right : steps_right steps ≡ true
  pub spelled : s ≡ spell steps
