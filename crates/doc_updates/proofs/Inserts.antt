-- What holds after an insert: of one that was refused, and of one that was accepted.
use Rattle.std.specs.Prelude.{Result, Ok, Err}
use Rattle.outcomes.specs.declared.updates.Inserted.{Inserted}
use Rattle.tables.specs.Checks.{Fine}
use Prim.Native.Nat.{ℕ, ◌+◌, ◌*◌, ◌<◌, ◌≤◌}
use mathlib.Core.Path.{◌≡◌, sym, ◌∙◌, ap}
use mathlib.Core.List.{List}
use lib.ListN.{length, get_or}
use Rattle.tables.specs.Limits.{tree_limit}
use Rattle.tables.specs.Words.{nodes, Bits16}
use Rattle.tables.specs.Documents.{Doc, doc, bare, mark, Sound}
use Rattle.tables.specs.declared.refusal.Refusal.{Refusal}
use Rattle.tables.proofs.Soundness.{accepted_document, accepted_tree}
use Rattle.selection.specs.Lists.{count}
use Rattle.selection.specs.Ways.{up, selected}
use Rattle.selection.specs.Operations.{points, inserted, copies}
use Rattle.selection.proofs.Keeping.{Kept, Copy, kept_selected}
use Rattle.selection.proofs.Inserting.{Room, copies-count, inserted_used, inserted_word_behind, inserted-mark-behind, inserted_rows_length, inserted_marks_length, inserted_sound, inserted_kept, inserted_copy}
use Rattle.identities.specs.Documents.{Document, document}
use Rattle.identities.specs.Updates.{written, inserted_in}
use Rattle.identities.proofs.Checks.{whole_tables}
use Rattle.doc_updates.specs.Updating.{insert_check, Insert}
use Rattle.identities.proofs.Updates.{fits_tables}
use Rattle.doc_updates.proofs.Accepted.{insert_document, insert_tree, insert_fits, copied_fine, refused_told}

-- a refused insert changes no row
pub insert_same : {p x : List ℕ} {d : Document} {rows₀ marks₀ ids₀ rows₁ marks₁ ids₁ : List ℕ} {r : Refusal} →
    Insert p x d rows₀ marks₀ ids₀ rows₁ marks₁ ids₁ (Err r) → (rows₁ ≡ rows₀) × (marks₁ ≡ marks₀) × (ids₁ ≡ ids₀)
insert_same {p} {x} {d} done =
    let refused =
    refused_told (insert_check p x d) (copies p d.tables) (d.tables.used + written p x d.tables) (d.next + written p x d.tables) (sym done.answered) in
    (rw refused at done.rows, rw refused at done.marks, rw refused at done.ids)

module _ (p x : List ℕ) (d : Document) {rows marks ids : List ℕ} {n used next : ℕ}
    (done : Insert p x d d.tables.rows d.tables.marks d.ids rows marks ids (Ok (record { copies = n; used = used; next = next }))) where
  -- it met no refusal
  pub insert_fine : insert_check p x d ≡ Fine
  insert_fine = copied_fine (insert_check p x d) (copies p d.tables) (d.tables.used + written p x d.tables) (d.next + written p x d.tables) (sym done.answered)

  told :
      ◌≡◌ {A = Inserted} (record { copies = n; used = used; next = next })
      (record { copies = copies p d.tables; used = d.tables.used + written p x d.tables; next = d.next + written p x d.tables })
  told =
      let e :
      ◌≡◌ {A = Result Inserted Refusal} (Ok (record { copies = n; used = used; next = next }))
      (Ok (record { copies = copies p d.tables; used = d.tables.used + written p x d.tables; next = d.next + written p x d.tables }))
      = rw insert_fine at done.answered
      in cc

  -- a copy for each selected node
  pub insert_number : n ≡ copies p d.tables
  insert_number = ap (λ (made : Inserted). made.copies) told

  pub insert_copies : n ≡ count (selected p d.tables) d.tables.used
  insert_copies = insert_number ∙ copies-count p d.tables

  -- used count and next identity grow by copies times nodes
  used_told : used ≡ d.tables.used + copies p d.tables * nodes x
  unfolding written
  used_told = ap (λ (made : Inserted). made.used) told

  pub insert_used : used ≡ d.tables.used + n * nodes x
  insert_used =
      let e : n ≡ copies p d.tables = insert_number in
      let f : used ≡ d.tables.used + copies p d.tables * nodes x = used_told in
      rw e f

  pub insert_next : next ≡ d.next + n * nodes x
  unfolding written
  insert_next =
      let e : n ≡ copies p d.tables = insert_number in
      let f : next ≡ d.next + copies p d.tables * nodes x = ap (λ (made : Inserted). made.next) told in
      rw e f

  -- the tables after it, and the whole document
  pub insert_tables : doc rows marks used ≡ inserted p x d.tables
  unfolding inserted_in
  insert_tables =
      let e : rows ≡ (inserted p x d.tables).rows = rw insert_fine at done.rows in
      let f : marks ≡ (inserted p x d.tables).marks = rw insert_fine at done.marks in
      let g : used ≡ (inserted p x d.tables).used = used_told ∙ sym (inserted_used p x d.tables) in
      rw (e, f, g)

  pub insert_doc : document rows marks used ids next ≡ inserted_in p x d
  unfolding inserted_in
  insert_doc =
      let i : ids ≡ (inserted_in p x d).ids = rw insert_fine at done.ids in
      let m : next ≡ (inserted_in p x d).next = ap (λ (made : Inserted). made.next) told in
      rw (i, m, insert_tables)

  room : Room p x d.tables
  room = fits_tables p x d (insert_fits p x d insert_fine)

  -- what stands behind the new used count stays, and so do the lengths
  pub insert_words_behind : (i : ℕ) → 2 * used ≤ i → get_or rows i 0 ≡ get_or d.tables.rows i 0
  insert_words_behind i h =
      let e : used ≡ d.tables.used + copies p d.tables * nodes x = used_told in
      ap (λ (c : Doc). get_or c.rows i 0) insert_tables ∙ inserted_word_behind p x d.tables i (rw e at h)

  pub insert_marks_behind : (v : ℕ) → used ≤ v → get_or marks v 0 ≡ mark d.tables v
  insert_marks_behind v h =
      let e : used ≡ d.tables.used + copies p d.tables * nodes x = used_told in
      ap (λ (c : Doc). mark c v) insert_tables ∙ inserted-mark-behind p x d.tables v (rw e at h)

  pub insert_rows_length : length rows ≡ length d.tables.rows
  insert_rows_length = ap (λ (c : Doc). length c.rows) insert_tables ∙ inserted_rows_length p x d.tables room.rows

  pub insert_marks_length : length marks ≡ length d.tables.marks
  insert_marks_length = ap (λ (c : Doc). length c.marks) insert_tables ∙ inserted_marks_length p x d.tables room.marks

  module _ (document : Bits16 d.tables.rows) (tree : Bits16 x) where
    sound : Sound d.tables
    sound = accepted_document d.tables (whole_tables d (insert_document p x d insert_fine)) document

    sound_tree : Sound (bare x)
    sound_tree = accepted_tree x tree_limit 3 (insert_tree p x d insert_fine) tree

    -- sound tables stay sound
    pub insert_sound : Sound (doc rows marks used)
    insert_sound = rw insert_tables (inserted_sound p x d.tables sound_tree sound)

    -- every node keeps its number, its parent, its label, its mark and its way to the root
    pub insert_kept : Kept d.tables (doc rows marks used)
    insert_kept = rw insert_tables (inserted_kept p x d.tables sound_tree sound)

    -- and whether a pattern selects it
    pub insert_selection : (r : List ℕ) (v : ℕ) → v < d.tables.used → selected r (doc rows marks used) v ≡ selected r d.tables v
    insert_selection = kept_selected insert_kept

    -- copy c hangs under the selected node of that number
    pub insert_copy : (c : ℕ) → c < n →
        Copy x (up d.tables.rows (get_or (points p d.tables) c 0)) (get_or (points p d.tables) c 0) (d.tables.used + c * nodes x) (doc rows marks used)
    insert_copy c h =
        let e : n ≡ copies p d.tables = insert_number in
        rw insert_tables (inserted_copy p x d.tables sound_tree sound c (rw e at h))
