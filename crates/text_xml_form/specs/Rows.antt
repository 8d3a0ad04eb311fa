-- Inside: the rows of a text's nodes, from one byte to the next. proofs/Filling.antt holds this against treeOf.
use Rattle.std.specs.Prelude.{ℕ, suc, Bool, ◌&&◌, ◌||◌, cond, List, [], ◌∷◌, ◌++◌, eqb}
use Rattle.tables.specs.Words.{nodes, parent}
use Rattle.text_xml_form.specs.Scan.{stage_on, number_on}

-- a byte ends a start tag or a short tag, which has a row
unfoldable pub has_row : ℕ → ℕ → Bool
has_row q c = eqb c 62 && (eqb q 2 || eqb q 3)

-- the rows behind a byte
unfoldable pub row_on : ℕ → ℕ → ℕ → ℕ → List ℕ → List ℕ
row_on q v c u rows = cond (has_row q c) (rows ++ (u ∷ v ∷ [])) rows

-- the innermost open node behind it
unfoldable pub node_on : ℕ → ℕ → ℕ → List ℕ → ℕ
node_on q c u rows = cond (eqb c 62) (cond (eqb q 2) (nodes rows) (cond (eqb q 5) (parent rows u) u)) u

-- the rows of a text, at this stage and number, inside node u, behind these rows
unfoldable pub rows_from : ℕ → ℕ → ℕ → List ℕ → List ℕ → List ℕ
rows_from q v u rows [] = rows
rows_from q v u rows (c ∷ s) = rows_from (stage_on q c) (number_on v c) (node_on q c u rows) (row_on q v c u rows) s

-- the rows of a text's nodes
unfoldable pub rows_of : List ℕ → List ℕ
rows_of s = rows_from 0 0 0 [] s

-- how many slashes a text has: each element has one
unfoldable pub slashes : List ℕ → ℕ
slashes [] = 0
slashes (c ∷ s) = cond (eqb c 47) (suc (slashes s)) (slashes s)
