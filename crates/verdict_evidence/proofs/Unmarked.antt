-- A proposed tree that meets no refusal, with a mark 0 for each node, is a document that meets none; the rows of a read and of a delete say what they do to it.
use Rattle.std.specs.Prelude.{Result}
use Rattle.tables.specs.declared.refusal.Refusal.{Refusal}
use Prim.Native.Nat.{ℕ, zero, suc, ◌<◌, ◌≤◌}
use mathlib.Core.Path.{◌≡◌, refl, ◌∙◌}
use mathlib.Core.Bool.{true, cond}
use mathlib.Core.List.{List}
use native.Mathlib.Decide.{dec_lt}
use native.Mathlib.Nat.{zero-add}
use native.Mathlib.Omega.{arith}
use lib.ListN.{length, get_or, drop, replicate, length-replicate, get_or-replicate, get_or-eq_default}
use borrow.Author.Tests.{lt-ltb, le-leb, ne_eqb}
use Rattle.tables.specs.Limits.{step_limit, tree_limit, used_limit}
use Rattle.tables.specs.Words.{steps, nodes, parent}
use Rattle.tables.specs.Documents.{Doc, doc, bare, present}
use Rattle.tables.specs.Checks.{each, size_check, pattern_check, node_check, tree_check, used_right, used_check, shape_check, mark_right, mark_check, document_check, output_check, Checked, Fine}
use Rattle.tables.proofs.Accepted.{then_second, each_all}
use Rattle.tables.proofs.Soundness.{accepted_some, accepted_nodes}
use Rattle.selection.specs.Ways.{selected}
use Rattle.selection.specs.Operations.{read_row, struck}
use Rattle.selection.proofs.Lists.{get_or-tab-before}
use Rattle.selection.proofs.Deleting.{deleted-mark}
use Rattle.check_read.specs.Readable.{read_tables_check}
use Rattle.doc_read.specs.Reading.{ReadTables}
use Rattle.doc_read.specs.Wanted.{stands_at, wanted_row, ReadAt}
use Rattle.doc_updates.specs.Asking.{Chosen}
use Rattle.doc_updates.specs.Updating.{delete_tables_check, DeleteTables}
use Rattle.verdict_evidence.specs.Rows.{Blank, Cut, Standing}

-- numbers that are all 0
pub blank_of : (n m : ℕ) → n ≡ m → Blank m (replicate {A = ℕ} n 0)
blank_of n m e = record { long = length-replicate {A = ℕ} n 0 ∙ e; each = λ i. go i (dec_lt i n) }
  where
    go : (i : ℕ) → Dec (i < n) → get_or (replicate {A = ℕ} n 0) i 0 ≡ 0
    go i (yes h) = get_or-replicate n i 0 0 h
    go i (no h) = get_or-eq_default (replicate {A = ℕ} n 0) 0 {n = i} (rw (length-replicate {A = ℕ} n 0) (omega arith))

-- the row of a read of an accepted document
pub row_fine : (p : List ℕ) (table : ℕ) (d : Doc) → document_check d ≡ Fine → pattern_check p step_limit table ≡ Fine → {before row : List ℕ} {answer : Checked} → d.used ≤ length before
    → ReadTables p table d before row answer → (v : ℕ) → v < d.used → get_or row v 0 ≡ cond (selected p d v) 1 0
unfolding read_tables_check output_check read_row
row_fine p table d document pattern {before} room read v h =
    rw (read.row, read.answered, document, pattern, le-leb d.used (length before) room)
    (get_or-tab-before (λ u. cond (selected p d u) 1 0) d.used (drop d.used before) v h)

mark_fine : (t marks : List ℕ) → ((i : ℕ) → get_or marks i 0 ≡ 0) → (v : ℕ) → mark_check t marks v ≡ Fine
unfolding mark_check mark_right
mark_fine t marks none zero = rw (none 0) refl
mark_fine t marks none (suc v) = rw (none (suc v), none (parent t (suc v)), ne_eqb (suc v) 0 (λ e. omega arith)) refl

module _ (t : List ℕ) {marks : List ℕ} (blank : Blank tree_limit marks) where
  -- selection does not see that there are marks
  unmarked_selected : (p : List ℕ) (v : ℕ) → selected p (doc t marks (nodes t)) v ≡ selected p (bare t) v
  unfolding selected
  unmarked_selected p v = rw (blank.each v) refl

  unmarked_stands : (p wanted : List ℕ) (v : ℕ) → stands_at p wanted (doc t marks (nodes t)) v ≡ stands_at p wanted (bare t) v
  unfolding stands_at
  unmarked_stands p wanted v = rw (blank.each v) refl

  module _ (fine : tree_check t tree_limit 5 ≡ Fine) where
    most : nodes t ≤ tree_limit
    most = accepted_nodes t tree_limit 5 fine

    used_fine : used_check (doc t marks (nodes t)) ≡ Fine
    unfolding used_check used_right
    used_fine =
        rw (
          blank.long,
          lt-ltb 0 (nodes t) (accepted_some t tree_limit 5 fine),
          le-leb (nodes t) used_limit (omega (arith, most)),
          le-leb (nodes t) (nodes t) (omega arith),
          le-leb (nodes t) tree_limit most,
        )

    unmarked_fine : document_check (doc t marks (nodes t)) ≡ Fine
    unfolding document_check shape_check tree_check
    unmarked_fine =
        rw (
          used_fine,
          then_second (size_check (length t) tree_limit 5) (each (node_check t 5) 0 (nodes t)) fine,
          each_all (mark_check t marks) 0 (nodes t) (λ v h. rw zero-add (mark_fine t marks (blank.each) v)),
        )

    -- the row of a read of it
    pub row_chosen : (p : List ℕ) (table : ℕ) → pattern_check p step_limit table ≡ Fine → {before row : List ℕ} {answer : Checked} → Blank tree_limit before
        → ReadTables p table (doc t marks (nodes t)) before row answer → Chosen p (bare t) row
    row_chosen p table pattern {before} room read v h =
        row_fine p table (doc t marks (nodes t)) unmarked_fine pattern (rw room.long most) read v h ∙ rw (unmarked_selected p v)

    -- and of a reading at wanted steps
    pub row_standing : (p : List ℕ) (table : ℕ) → pattern_check p step_limit table ≡ Fine → {wanted before row : List ℕ} {answer : Checked} → Blank tree_limit before
        → ReadAt p table (doc t marks (nodes t)) wanted before row answer → Standing p wanted t row
    unfolding read_tables_check output_check wanted_row
    row_standing p table pattern {wanted} {before} room read =
        record {
          byte = λ v h.
              rw (read.row, read.answered, unmarked_fine, pattern, room.long, le-leb (nodes t) tree_limit most, ← unmarked_stands p wanted v)
              (get_or-tab-before (λ u. cond (stands_at p wanted (doc t marks (nodes t)) u) 1 0) (nodes t) (drop (nodes t) before) v h);
        }

    -- the marks that a delete leaves on it
    delete_fine : (p : List ℕ) → pattern_check p step_limit 2 ≡ Fine → 1 < steps p → delete_tables_check p (doc t marks (nodes t)) ≡ Fine
    unfolding delete_tables_check
    delete_fine p pattern two = rw (unmarked_fine, pattern, lt-ltb 1 (steps p) two)

    unmarked_present : (v : ℕ) → v < nodes t → present (doc t marks (nodes t)) v ≡ true
    unmarked_present v h = rw (lt-ltb v (nodes t) h, blank.each v)

    pub row_cut : (p : List ℕ) → pattern_check p step_limit 2 ≡ Fine → 1 < steps p → {after : List ℕ} {answer : Result ℕ Refusal}
        → DeleteTables p (doc t marks (nodes t)) marks after answer → Cut p t after
    unfolding struck
    row_cut p pattern two d v h =
        rw (d.marks, delete_fine p pattern two)
        (deleted-mark p (doc t marks (nodes t)) v h ∙ rw (unmarked_present v h, blank.each v))
