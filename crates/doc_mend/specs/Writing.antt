-- Inside: what each step of a mending asks and gives.
use Rattle.tables.specs.declared.refusal.Refusal.{Refusal}
use Rattle.std.specs.Prelude.{ℕ, ◌+◌, ◌*◌, ◌<◌, ◌≤◌, ◌≡◌, cond, List, ◌≢◌, eqb, length, get_or, set, Result}
use Rattle.tables.specs.Limits.{used_limit}
use Rattle.tables.specs.Words.{parent}
use Rattle.tables.specs.Documents.{Doc}
use Rattle.tables.specs.Checks.{where_fine, output_check}
use Rattle.mending.specs.Mending.{mended_marks, changes, change_list}
use Rattle.doc_mend.specs.Promise.{mend_answer}

-- the mended mark of v, whose own mark is `old`, where those of the nodes before it stand in the row: 0 for the root; else 1 where its own is not 0, else that of its parent
abbrev pub following : List ℕ → ℕ → List ℕ → ℕ → ℕ
following t old row v = cond (eqb v 0) 0 (cond (eqb old 0) (get_or row (parent t v) 0) 1)

-- node v has a mark, and a place in the row, and so has its parent
pub record Reached (t m row : List ℕ) (v : ℕ) : Type 0 where
  pub mark : v < length m
  pub place : v < length row
  pub above : parent t v < length row

-- its mended mark stands in the row; and whether it is another than it was, as a number
pub record Counted (t m : List ℕ) (v : ℕ) (row₀ row₁ : List ℕ) (n : ℕ) : Type 0 where
  pub row : row₁ ≡ set row₀ v (following t (get_or m v 0) row₀ v)
  pub number : n ≡ cond (eqb (get_or m v 0) (following t (get_or m v 0) row₀ v)) 0 1

-- the node's number is a word, no more than the nodes before it are listed, and a mark that becomes another has room for three words in the list
pub record Putting (marks list : List ℕ) (v new at : ℕ) : Type 0 where
  pub limit : v < used_limit
  pub mark : v < length marks
  pub before : at ≤ 3 * v
  pub room : get_or marks v 0 ≢ new → at + 2 < length list

-- the new mark stands at v; where it is another, so do three words in the list
pub record Put (v new at : ℕ) (marks₀ list₀ marks₁ list₁ : List ℕ) (n : ℕ) : Type 0 where
  pub marks : marks₁ ≡ set marks₀ v new
  pub list : list₁ ≡ cond (eqb (get_or marks₀ v 0) new) list₀ (set (set (set list₀ at v) (at + 1) (get_or marks₀ v 0)) (at + 2) new)
  pub next : n ≡ cond (eqb (get_or marks₀ v 0) new) at (at + 3)

-- a document whose shape is right: refused by 7, or its marks mended and their changes listed
pub record Written (d : Doc) (list₀ marks₁ list₁ : List ℕ) (answer : Result ℕ Refusal) : Type 0 where
  pub answered : answer ≡ mend_answer (output_check (3 * changes d) (length list₀)) (changes d)
  pub marks : marks₁ ≡ where_fine (output_check (3 * changes d) (length list₀)) (mended_marks d) d.marks
  pub list : list₁ ≡ where_fine (output_check (3 * changes d) (length list₀)) (change_list d list₀) list₀
