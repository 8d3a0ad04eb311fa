-- Inside: the steps of a text by their places in its bytes, and what taking them answers.
use Rattle.std.specs.Prelude.{ℕ, ◌+◌, ◌*◌, ◌≡◌, cond, List, ◌++◌, eqb, length, get_or, drop, Ok, Err}
use Rattle.tables.specs.Limits.{word_limit}
use Rattle.tables.specs.Checks.{Checked, Fine}
use Rattle.text_parts.specs.Next.{next}
use Rattle.text_names.specs.Names.{lines}
use Rattle.text_names.specs.Entries.{piece}
use Rattle.text_pattern.specs.Texts.{slash}
use Rattle.text_pattern.specs.Meaning.{steps_of, listed, label_of, words_of}
use Rattle.text_pattern_in.specs.Reading.{listed_check}

-- the step whose slash stands at i: where its word begins, and ends
unfoldable pub word_from : List ℕ → ℕ → ℕ
word_from s i = cond (eqb (get_or s (i + 1) 0) slash) (i + 2) (i + 1)

unfoldable pub word_to : List ℕ → ℕ → ℕ
word_to s i = next slash s (word_from s i)

-- its word
unfoldable pub word_at : List ℕ → ℕ → List ℕ
word_at s i = piece s (word_from s i) (word_to s i)

-- the axis of a step behind one slash: of the first, of a later one
unfoldable pub child_axis : ℕ → ℕ
child_axis k = cond (eqb k 0) 0 1

-- the axis of step k
unfoldable pub axis_at : List ℕ → ℕ → ℕ → ℕ
axis_at s i k = cond (eqb (get_or s (i + 1) 0) slash) 2 (child_axis k)

-- the label of a word, past the last word where it is not listed
unfoldable pub found_of : List (List ℕ) → List ℕ → ℕ
found_of ws w = cond (listed ws w) (label_of ws w) word_limit

-- what taking the steps of s into a table promises
abbrev pub Taken : List ℕ → List ℕ → List ℕ → List ℕ → Checked → Type 0
Taken l s before after (Ok tt) =
    (listed_check (lines l) 0 (steps_of s) ≡ Fine) × (after ≡ words_of (lines l) (steps_of s) ++ drop (2 * length (steps_of s)) before)
Taken l s before after (Err r) = listed_check (lines l) 0 (steps_of s) ≡ Err r
