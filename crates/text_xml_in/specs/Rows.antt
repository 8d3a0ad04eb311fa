-- Inside: the rows of a right text, as far as they are put.
use Rattle.std.specs.Prelude.{ℕ, suc, ◌+◌, ◌*◌, ◌<◌, ◌≤◌, ◌≡◌, true, cond, List, eqb, length, set}
use Rattle.tables.specs.Limits.{tree_limit, word_limit}
use Rattle.tables.specs.Words.{nodes, parent}
use Rattle.text_xml_form.specs.Scan.{right_tags}
use Rattle.text_xml_form.specs.Rows.{has_row, rows_of}

-- row k is put where a byte ends a start tag or a short tag
unfoldable pub put_on : ℕ → ℕ → ℕ → ℕ → ℕ → List ℕ → List ℕ
put_on q v c u k words = cond (has_row q c) (set (set words (2 * k) u) (2 * k + 1) v) words

unfoldable pub count_on : ℕ → ℕ → ℕ → ℕ
count_on q c k = cond (has_row q c) (suc k) k

-- the innermost open node behind a byte, by the rows in the table
unfoldable pub inside_on : ℕ → ℕ → ℕ → ℕ → List ℕ → ℕ
inside_on q c u k words = cond (eqb c 62) (cond (eqb q 2) k (cond (eqb q 5) (parent words u) u)) u

-- a row can be put, if there is one
pub record Puttable (q v c u k : ℕ) (words : List ℕ) : Type 0 where
  pub number : v < word_limit
  pub node : u < word_limit
  pub room : has_row q c ≡ true → 2 * k + 1 < length words

-- a right text whose tree has no more nodes than the limit, and room for it
pub record Fillable (s words : List ℕ) : Type 0 where
  pub right : right_tags s ≡ true
  pub few : nodes (rows_of s) ≤ tree_limit
  pub room : length (rows_of s) ≤ length words
