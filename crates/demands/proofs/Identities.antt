-- Of a read and an update that meet no refusal: what differs by identities differs by nodes, and conflicts by identities are conflicts.
use Rattle.std.specs.Prelude.{Ok}
use Rattle.tables.specs.Checks.{Fine}
use Prim.Native.Nat.{ℕ, ◌+◌, ◌*◌, ◌≤◌}
use mathlib.Core.Path.{◌≡◌, ◌∙◌, ap}
use mathlib.Core.List.{List}
use mathlib.Core.Logic.{◌↔◌}
use lib.ListN.{length, get_or}
use Rattle.tables.specs.Limits.{tree_limit}
use Rattle.tables.specs.Words.{nodes, Bits16}
use Rattle.tables.specs.Patterns.{Pattern}
use Rattle.tables.proofs.Soundness.{accepted_tree}
use Rattle.selection.specs.Operations.{copies}
use Rattle.conflict.specs.Conflict.{Update, delete, insert, UpdateBits, Differs, Conflict}
use Rattle.identities.specs.Documents.{Document, identity, SoundDocument}
use Rattle.identities.specs.Updates.{deleted_in, written}
use Rattle.identities.specs.Conflict.{DiffersIn, ConflictIn}
use Rattle.identities.proofs.Updates.{Keeping, identity-behind, inserted_ids_length, fits_ids}
use Rattle.identities.proofs.Conflict.{differs_sound, conflict_exactly}
use Rattle.check_verdict.specs.Order.{deep_check}
use Rattle.check_verdict.proofs.Accepting.{patterns_read, delete_patterns, delete_two, insert_patterns, insert_tree}
use Rattle.doc_updates.specs.Updating.{Delete, Insert}
use Rattle.doc_updates.proofs.Accepted.{insert_fits}
use Rattle.doc_updates.proofs.Deletes.{removed_tables, delete_doc}
use Rattle.doc_updates.proofs.Inserts.{insert_fine, insert_number, insert_used, insert_doc}
use Rattle.order_deletes.specs.Deletes.{with_marks}

reads : (r : List ℕ) (u : Update) → deep_check r u ≡ Fine → Pattern r
reads r (delete p) fine = patterns_read r p (delete_patterns r p fine)
reads r (insert p x) fine = patterns_read r p (insert_patterns r p x fine)

keeping : (r : List ℕ) (u : Update) → UpdateBits u → deep_check r u ≡ Fine → Keeping u
keeping r (delete p) words fine = delete_two r p fine
keeping r (insert p x) words fine = accepted_tree x tree_limit 3 (insert_tree r p x fine) words.1

pub differences : (r : List ℕ) (u : Update) → Bits16 r → UpdateBits u → deep_check r u ≡ Fine → (d : Document) → SoundDocument d → DiffersIn r u d ↔ Differs r u d.tables
differences r u names others fine = differs_sound (reads r u fine) (λ k. names (2 * k + 1)) u (keeping r u others fine)

pub by_identities : (r : List ℕ) (u : Update) → Bits16 r → UpdateBits u → deep_check r u ≡ Fine → ConflictIn r u ↔ Conflict r u
by_identities r (delete p) names others fine =
    conflict_exactly (reads r (delete p) fine) (λ k. names (2 * k + 1)) (delete p) (keeping r (delete p) others fine) (λ k. others (2 * k + 1))
by_identities r (insert p x) names others fine =
    conflict_exactly (reads r (insert p x) fine) (λ k. names (2 * k + 1)) (insert p x) (keeping r (insert p x) others fine) (λ k. others.0 (2 * k + 1))

-- the document after a delete that tells a number
pub same_delete : (p : List ℕ) (d : Document) (marks : List ℕ) (n : ℕ) → Delete p d d.tables.marks marks (Ok n) → with_marks d marks ≡ deleted_in p d
unfolding deleted_in
same_delete p d marks n h = rw (delete_doc p d.tables (removed_tables h))

-- behind an insert identities stay, and so does the length of their row
pub ids_behind : (p x : List ℕ) (d : Document) (rows marks ids : List ℕ) (n used next : ℕ) →
    Insert p x d d.tables.rows d.tables.marks d.ids rows marks ids (Ok (record { copies = n; used = used; next = next })) →
    (length ids ≡ length d.ids) × ((v : ℕ) → used ≤ v → get_or ids v 0 ≡ identity d v)
unfolding written
ids_behind p x d rows marks ids n used next h =
    let told : used ≡ d.tables.used + copies p d.tables * nodes x = rw (insert_number p x d h) at (insert_used p x d h) in (
      ap (λ (c : Document). length c.ids) (insert_doc p x d h) ∙ inserted_ids_length p x d (fits_ids p x d (insert_fits p x d (insert_fine p x d h))),
      λ v l. ap (λ (c : Document). identity c v) (insert_doc p x d h) ∙ identity-behind p x d v (rw told at l),
    )
