-- The two readings agree: on a tree of which nothing is removed they give every node the same byte.
use Prim.Native.Nat.{ℕ, ◌<◌}
use mathlib.Core.Path.{◌≡◌, refl, sym}
use mathlib.Core.List.{List}
use lib.ListN.{get_or}
use Rattle.tables.specs.Limits.{step_limit, plain_nodes}
use Rattle.tables.specs.Words.{nodes, Bits16}
use Rattle.tables.specs.Documents.{bare}
use Rattle.tables.specs.Checks.{pattern_check, tree_check, Fine}
use Rattle.tables.proofs.Accepted.{then_first, then_second}
use Rattle.tables.proofs.Soundness.{accepted_pattern, accepted_tree, accepted_document}
use Rattle.selection.proofs.Presence.{is_present}
use Rattle.selection.proofs.Rows.{same_bit}
use Rattle.selection.proofs.Selecting.{selects_by_labels}
use Rattle.check_plain.specs.Bare.{plain_check}
use Rattle.doc_plain.specs.Plain.{PlainRead}
use Rattle.check_read.specs.Readable.{read_check}
use Rattle.doc_read.specs.Reading.{Read}
use Rattle.doc_read.proofs.Laws.{read_selects, tables_read}
use Rattle.identities.specs.Documents.{Document, document}
use Rattle.identities.specs.Checks.{whole_check}
use Rattle.identities.proofs.Checks.{whole_tables, whole_identities, whole_right}
use Rattle.selection.specs.Embeddings.{Selects}
use Rattle.selection.specs.Rows.{Row}

-- a read that meets no refusal: its row says which nodes are selected by embeddings
pub read_rows : {p : List ℕ} {d : Document} {before after : List ℕ} → Read p d before after Fine → Bits16 d.tables.rows → Row (Selects p d.tables) d.tables.used before after
unfolding read_check
read_rows {d = d} h words =
    let fine = then_first (whole_check d) _ (sym h.answered) in
    read_selects (tables_read (whole_right d (whole_identities d fine)) h) words

pub readings_agree : (p t marks ids : List ℕ) (next : ℕ) → Bits16 t → ((v : ℕ) → v < nodes t → get_or marks v 0 ≡ 0) → (before row before' plain : List ℕ) →
    Read p (document t marks (nodes t) ids next) before row Fine → PlainRead p t before' plain Fine → (v : ℕ) → v < nodes t → get_or row v 0 ≡ get_or plain v 0
unfolding read_check plain_check
readings_agree p t marks ids next words clear before row before' plain f g v h =
    let d = document t marks (nodes t) ids next in
    let read_fine = sym f.answered in
    let sound = accepted_document d.tables (whole_tables d (then_first (whole_check d) _ read_fine)) words in
    let pattern = accepted_pattern p step_limit 1 (then_first (pattern_check p step_limit 1) _ (then_second (whole_check d) _ read_fine)) in
    let tree = accepted_tree t plain_nodes 5 (then_first (tree_check t plain_nodes 5) _ (sym g.answered)) words in
    let same = selects_by_labels pattern sound tree v v (is_present d.tables v h (clear v h)) (is_present (bare t) v h refl) refl in
    let one = read_rows f words in
    same_bit (get_or row v 0) (get_or plain v 0) (one.bit v h) (g.row.bit v h)
    (λ e. (g.row.exactly v h).1 (same.0 ((one.exactly v h).0 e)))
    (λ e. (one.exactly v h).1 (same.1 ((g.row.exactly v h).0 e)))
