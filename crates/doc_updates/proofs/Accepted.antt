-- What the checks of an update say where they are fine.
use Rattle.std.specs.Prelude.{Result, Ok, Err}
use Prim.Native.Nat.{ℕ, ◌<◌}
use mathlib.Core.Path.{◌≡◌, refl}
use mathlib.Core.Bool.{true}
use mathlib.Core.List.{List}
use native.Mathlib.Omega.{arith}
use lib.Dec.{ltb}
use borrow.Author.Tests.{ltb-true}
use Rattle.tables.specs.Limits.{step_limit, tree_limit}
use Rattle.tables.specs.Words.{steps}
use Rattle.tables.specs.Patterns.{Pattern}
use Rattle.tables.specs.Documents.{Doc}
use Rattle.tables.specs.Checks.{◌then◌, test, refuse, document_check, pattern_check, tree_check, Checked, Fine}
use Rattle.tables.specs.declared.refusal.Refusal.{Refusal}
use Rattle.tables.proofs.Accepted.{held, then_first, then_second}
use Rattle.tables.proofs.Soundness.{accepted_pattern}
use Rattle.identities.specs.Documents.{Document}
use Rattle.identities.specs.Checks.{whole_check}
use Rattle.identities.specs.Updates.{nameable, fits_in}
use Rattle.doc_updates.specs.Updating.{delete_check, delete_tables_check, insert_check, delete_answer, insert_answer, delete_refusal}

-- a delete: a document, whatever its check is, then a pattern, and more than one step
module _ (p : List ℕ) (document : Checked) (e : (document then pattern_check p step_limit 2 then test (ltb 1 (steps p)) (refuse 6 2 0)) ≡ Fine) where
  first : document ≡ Fine
  first = then_first document (pattern_check p step_limit 2 then test (ltb 1 (steps p)) (refuse 6 2 0)) e

  rest : (pattern_check p step_limit 2 then test (ltb 1 (steps p)) (refuse 6 2 0)) ≡ Fine
  rest = then_second document (pattern_check p step_limit 2 then test (ltb 1 (steps p)) (refuse 6 2 0)) e

  second : Pattern p
  second = accepted_pattern p step_limit 2 (then_first (pattern_check p step_limit 2) (test (ltb 1 (steps p)) (refuse 6 2 0)) rest)

  third : 1 < steps p
  third = ltb-true 1 (steps p) (held (ltb 1 (steps p)) _ (then_second (pattern_check p step_limit 2) (test (ltb 1 (steps p)) (refuse 6 2 0)) rest))

-- of tables without identities
module _ (p : List ℕ) (d : Doc) (e : delete_tables_check p d ≡ Fine) where
  pub delete_tables_document : document_check d ≡ Fine
  unfolding delete_tables_check
  delete_tables_document = first p (document_check d) e

  pub delete_tables_steps : 1 < steps p
  unfolding delete_tables_check
  delete_tables_steps = third p (document_check d) e

-- of a document
module _ (p : List ℕ) (d : Document) (e : delete_check p d ≡ Fine) where
  pub delete_document : whole_check d ≡ Fine
  unfolding delete_check
  delete_document = first p (whole_check d) e

  pub delete_pattern : Pattern p
  unfolding delete_check
  delete_pattern = second p (whole_check d) e

  pub delete_steps : 1 < steps p
  unfolding delete_check
  delete_steps = third p (whole_check d) e

-- an insert: a document, a pattern and a tree, then identities, then room
module _ (p x : List ℕ) (d : Document) where
  -- the last two
  abbrev pub room_check : Checked
  room_check = test (nameable p x d) (refuse 16 5 0) then test (fits_in p x d) (refuse 11 4 0)

  -- where the document's check is known
  pub insert_whole : {document : Checked} → whole_check d ≡ document → insert_check p x d ≡ (document then pattern_check p step_limit 2 then tree_check x tree_limit 3 then room_check)
  unfolding insert_check
  insert_whole e = rw e

  module _ (e : insert_check p x d ≡ Fine) where
    pub insert_document : whole_check d ≡ Fine
    unfolding insert_check
    insert_document = then_first (whole_check d) (pattern_check p step_limit 2 then tree_check x tree_limit 3 then room_check) e

    behind-document : (pattern_check p step_limit 2 then tree_check x tree_limit 3 then room_check) ≡ Fine
    unfolding insert_check
    behind-document = then_second (whole_check d) (pattern_check p step_limit 2 then tree_check x tree_limit 3 then room_check) e

    pub insert_pattern : Pattern p
    insert_pattern = accepted_pattern p step_limit 2 (then_first (pattern_check p step_limit 2) (tree_check x tree_limit 3 then room_check) behind-document)

    behind-pattern : (tree_check x tree_limit 3 then room_check) ≡ Fine
    behind-pattern = then_second (pattern_check p step_limit 2) (tree_check x tree_limit 3 then room_check) behind-document

    pub insert_tree : tree_check x tree_limit 3 ≡ Fine
    insert_tree = then_first (tree_check x tree_limit 3) room_check behind-pattern

    pub insert_named : nameable p x d ≡ true
    insert_named =
        held (nameable p x d) _
        (then_first (test (nameable p x d) (refuse 16 5 0)) (test (fits_in p x d) (refuse 11 4 0)) (then_second (tree_check x tree_limit 3) room_check behind-pattern))

    pub insert_fits : fits_in p x d ≡ true
    insert_fits =
        held (fits_in p x d) _
        (then_second (test (nameable p x d) (refuse 16 5 0)) (test (fits_in p x d) (refuse 11 4 0)) (then_second (tree_check x tree_limit 3) room_check behind-pattern))

-- an insert that answers copies met no refusal
pub copied_fine : (c : Checked) (a b m : ℕ) {n used next : ℕ} → insert_answer c a b m ≡ Ok (record { copies = n; used = used; next = next }) → c ≡ Fine
copied_fine (Ok tt) a b m e = refl
copied_fine (Err r) a b m e = let z : ◌≡◌ {A = ℕ} 0 1 = cc in absurd (omega arith)

-- one that answers a refusal met it
pub refused_told : (c : Checked) (a b m : ℕ) {r : Refusal} → insert_answer c a b m ≡ Err r → c ≡ Err r
refused_told (Ok tt) a b m e = let z : ◌≡◌ {A = ℕ} 0 1 = cc in absurd (omega arith)
refused_told (Err r) a b m e = cc

-- the same of a delete
pub removed_fine : (c : Checked) (a : ℕ) {n : ℕ} → Ok n ≡ delete_answer c a → c ≡ Fine
removed_fine (Ok tt) a e = refl
removed_fine (Err r) a e = let z : ◌≡◌ {A = ℕ} 0 1 = cc in absurd (omega arith)

pub kept_told : (c : Checked) (a : ℕ) {r : Refusal} → Err r ≡ delete_answer c a → c ≡ Err r
kept_told (Ok tt) a e = let z : ◌≡◌ {A = ℕ} 0 1 = cc in absurd (omega arith)
kept_told (Err r) a e = cc

pub delete_tells : (c : Checked) (a : ℕ) {answer : Result ℕ Refusal} → answer ≡ delete_answer c a → delete_refusal answer ≡ c
delete_tells (Ok tt) a e = rw e
delete_tells (Err r) a e = rw e
