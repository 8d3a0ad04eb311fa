-- Delete and insert: the order of their checks, what they answer, and what the lent tables hold after them.
use Rattle.outcomes.specs.declared.updates.Inserted.{Inserted}
use Rattle.tables.specs.declared.refusal.Refusal.{Refusal}
use Rattle.std.specs.Prelude.{ℕ, ◌+◌, ◌≡◌, List, ltb, Result, Ok, Err}
use Rattle.tables.specs.Limits.{step_limit, tree_limit}
use Rattle.tables.specs.Words.{steps}
use Rattle.tables.specs.Documents.{Doc}
use Rattle.tables.specs.Checks.{where_fine, ◌then◌, test, refuse, document_check, pattern_check, tree_check, Checked, Fine}
use Rattle.selection.specs.Operations.{deleted, removed, copies}
use Rattle.identities.specs.Documents.{Document}
use Rattle.identities.specs.Checks.{whole_check}
use Rattle.identities.specs.Updates.{written, inserted_in, nameable, fits_in}

-- a delete: the document, then the pattern, then 6 when it has one step
unfoldable pub delete_check : List ℕ → Document → Checked
delete_check p d = whole_check d then pattern_check p step_limit 2 then test (ltb 1 (steps p)) (refuse 6 2 0)

-- an insert: the document, then the pattern, then the inserted tree, then 16 when there are too few identities, then 11 when there is no room
unfoldable pub insert_check : List ℕ → List ℕ → Document → Checked
insert_check p x d =
    whole_check d then pattern_check p step_limit 2 then tree_check x tree_limit 3 then
    test (nameable p x d) (refuse 16 5 0) then test (fits_in p x d) (refuse 11 4 0)

-- the refusal, or the number of nodes newly removed
abbrev pub delete_answer : Checked → ℕ → Result ℕ Refusal
delete_answer (Ok tt) n = Ok n
delete_answer (Err r) n = Err r

-- and back: the refusal of an answer, fine where it has none
abbrev pub delete_refusal : Result ℕ Refusal → Checked
delete_refusal (Ok n) = Fine
delete_refusal (Err r) = Err r

-- the refusal, or the number of copies, the new used count and the new next identity
abbrev pub insert_answer : Checked → ℕ → ℕ → ℕ → Result Inserted Refusal
insert_answer (Ok tt) n used next = Ok (record { copies = n; used = used; next = next })
insert_answer (Err r) n used next = Err r

-- the answer and the marks of a delete; a refusal changes no mark
pub record Delete (p : List ℕ) (d : Document) (before after : List ℕ) (answer : Result ℕ Refusal) : Type 0 where
  pub answered : answer ≡ delete_answer (delete_check p d) (removed p d.tables)
  pub marks : after ≡ where_fine (delete_check p d) (deleted p d.tables).marks before

-- the answer and the rows of an insert; a refusal changes none
pub record Insert (p x : List ℕ) (d : Document) (rows₀ marks₀ ids₀ rows₁ marks₁ ids₁ : List ℕ) (answer : Result Inserted Refusal) : Type 0 where
  pub answered : answer ≡ insert_answer (insert_check p x d) (copies p d.tables) (d.tables.used + written p x d.tables) (d.next + written p x d.tables)
  pub rows : rows₁ ≡ where_fine (insert_check p x d) (inserted_in p x d).tables.rows rows₀
  pub marks : marks₁ ≡ where_fine (insert_check p x d) (inserted_in p x d).tables.marks marks₀
  pub ids : ids₁ ≡ where_fine (insert_check p x d) (inserted_in p x d).ids ids₀

-- Inside: a delete on tables without identities.
unfoldable pub delete_tables_check : List ℕ → Doc → Checked
delete_tables_check p d =
    document_check d then pattern_check p step_limit 2 then test (ltb 1 (steps p)) (refuse 6 2 0)

pub record DeleteTables (p : List ℕ) (d : Doc) (before after : List ℕ) (answer : Result ℕ Refusal) : Type 0 where
  pub answered : answer ≡ delete_answer (delete_tables_check p d) (removed p d)
  pub marks : after ≡ where_fine (delete_tables_check p d) (deleted p d).marks before
