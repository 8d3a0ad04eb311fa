-- The pattern that a text means with a list of names, and the text of a pattern.
use Rattle.std.specs.Prelude.{ℕ, zero, suc, ◌-◌, Bool, ◌||◌, cond, List, [], ◌∷◌, eqb, ltb, get_or}
use Rattle.tables.specs.Words.{steps, axis, label}
use Rattle.tables.specs.Checks.{test, refuse, Checked}
use Rattle.text_names.specs.Names.{same, number_of}
use Rattle.text_pattern.specs.Texts.{Step, step, slash, star, spell}
use Rattle.text_pattern.specs.Scan.{right_text, longest}

-- a byte before the first part
abbrev pub before : ℕ → List (List ℕ) → List (List ℕ)
before c [] = (c ∷ []) ∷ []
before c (w ∷ ws) = (c ∷ w) ∷ ws

-- what stands between the slashes
unfoldable pub parts : List ℕ → List (List ℕ)
parts [] = [] ∷ []
parts (c ∷ s) = cond (eqb c slash) ([] ∷ parts s) (before c (parts s))

-- these parts as steps, the next of this axis: an empty part is the middle of `//`
unfoldable pub steps_in : ℕ → List (List ℕ) → List Step
steps_in a [] = []
steps_in a ([] ∷ []) = step a [] ∷ []
steps_in a ([] ∷ w ∷ ws) = step 2 w ∷ steps_in 1 ws
steps_in a ((c ∷ w) ∷ ws) = step a (c ∷ w) ∷ steps_in 1 ws

-- all but the first
abbrev pub behind : List (List ℕ) → List (List ℕ)
behind [] = []
behind (w ∷ ws) = ws

-- the steps of a text: what stands behind its first slash
unfoldable pub steps_of : List ℕ → List Step
steps_of s = steps_in 0 (behind (parts s))

-- 14 for text that doesn't fit: table 7, the length of its longest start that some right text has
unfoldable pub text_check : List ℕ → Checked
text_check s = test (right_text s) (refuse 14 7 (longest s))

-- a label: 0 for `*`, else the name's number
unfoldable pub label_of : List (List ℕ) → List ℕ → ℕ
label_of ws w = cond (same w star) 0 (number_of ws w)

-- `*`, or a name that is listed
unfoldable pub listed : List (List ℕ) → List ℕ → Bool
listed ws w = same w star || ltb 0 (number_of ws w)

-- two words a step, axis and label
unfoldable pub words_of : List (List ℕ) → List Step → List ℕ
words_of ws [] = []
words_of ws (x ∷ xs) = x.axis ∷ label_of ws x.word ∷ words_of ws xs

-- what a label is written as: 0 as `*`, a number as the name that has it
unfoldable pub word_of : List (List ℕ) → ℕ → List ℕ
word_of ws l = cond (eqb l 0) star (get_or ws (l - 1) [])

-- n steps of a pattern, from step i on
unfoldable pub steps_from : List (List ℕ) → List ℕ → ℕ → ℕ → List Step
steps_from ws p i zero = []
steps_from ws p i (suc n) = step (axis p i) (word_of ws (label p i)) ∷ steps_from ws p (suc i) n

-- the text of a pattern
unfoldable pub text_of : List (List ℕ) → List ℕ → List ℕ
text_of ws p = spell (steps_from ws p 0 (steps p))
