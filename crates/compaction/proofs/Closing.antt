-- What a compaction leaves: at each new number the node's label, its parent's new number and its identity; all behind the new used count as it was.
use Prim.Native.Nat.{ℕ, ◌+◌, ◌*◌, ◌-◌, ◌<◌, ◌≤◌}
use mathlib.Core.Path.{◌≡◌, refl, ◌∙◌}
use mathlib.Core.Bool.{true}
use native.Mathlib.Nat.{add-zero}
use native.Mathlib.Omega.{arith}
use lib.ListN.{length, get_or, drop, get_or-append}
use Rattle.tables.specs.Words.{parent, tag}
use Rattle.tables.specs.Documents.{Doc, mark, present}
use Rattle.selection.specs.Lists.{tab}
use Rattle.selection.proofs.Lists.{get_or-behind, length-behind, get_or-tab-before, get_or-tab-behind, length-tab}
use Rattle.selection.proofs.Presence.{present_used, is_present}
use Rattle.identities.specs.Documents.{Document, identity}
use Rattle.identities.specs.Updates.{room_of}
use Rattle.identities.specs.Compaction.{place, staying, dropped, staying_words, staying_ids, closed_up, compacted}
use Rattle.compaction.proofs.Places.{staying-dropped, staying_most, place_below, words_length, words_at, ids_length, ids_at}

-- the tables
module _ (d : Doc) where
  words : length (staying_words d d.used) ≡ 2 * staying d
  unfolding staying
  words = words_length d d.used

  pub closed_used : (closed_up d).used ≡ staying d
  unfolding closed_up
  closed_used = refl

  word_at : (v : ℕ) → present d v ≡ true → (i : ℕ) → i < 2 →
      get_or (closed_up d).rows (2 * place d v + i) 0 ≡ get_or (staying_words d d.used) (2 * place d v + i) 0
  unfolding closed_up
  word_at v e i h =
      get_or-append (staying_words d d.used) (drop (2 * staying d) d.rows) 0 (2 * place d v + i) (rw words (omega (arith, place_below d v e)))

  -- the parent's new number, and the label
  pub closed_parent : (v : ℕ) → present d v ≡ true → parent (closed_up d).rows (place d v) ≡ place d (parent d.rows v)
  closed_parent v e = rw add-zero at (word_at v e 0 (omega arith) ∙ words_at d d.used v (present_used d v e) e 0 (omega arith))

  pub closed_tag : (v : ℕ) → present d v ≡ true → tag (closed_up d).rows (place d v) ≡ tag d.rows v
  closed_tag v e = word_at v e 1 (omega arith) ∙ words_at d d.used v (present_used d v e) e 1 (omega arith)

  -- no used node is removed
  pub closed_mark : (m : ℕ) → m < staying d → mark (closed_up d) m ≡ 0
  unfolding closed_up
  closed_mark = get_or-tab-before (λ v. 0) (staying d) (drop (staying d) d.marks)

  pub closed_present : (m : ℕ) → m < staying d → present (closed_up d) m ≡ true
  closed_present m h = is_present (closed_up d) m (rw closed_used h) (closed_mark m h)

  -- words and marks behind the new used count stay
  pub closed_word_behind : (i : ℕ) → 2 * staying d ≤ i → get_or (closed_up d).rows i 0 ≡ get_or d.rows i 0
  unfolding closed_up
  closed_word_behind = get_or-behind (staying_words d d.used) d.rows (2 * staying d) words

  pub closed_mark-behind : (v : ℕ) → staying d ≤ v → mark (closed_up d) v ≡ mark d v
  unfolding closed_up
  closed_mark-behind = get_or-tab-behind (λ v. 0) (staying d) d.marks

  pub closed_words : length (closed_up d).rows ≡ 2 * staying d + (length d.rows - 2 * staying d)
  unfolding closed_up
  closed_words = length-behind (staying_words d d.used) d.rows (2 * staying d) words

  pub closed_marks : length (closed_up d).marks ≡ staying d + (length d.marks - staying d)
  unfolding closed_up
  closed_marks = length-behind (tab (λ v. 0) (staying d)) d.marks (staying d) (length-tab (λ v. 0) (staying d))

  -- lengths stay
  pub closed_rows_length : 2 * d.used ≤ length d.rows → length (closed_up d).rows ≡ length d.rows
  closed_rows_length h = rw closed_words (omega (arith, staying_most d))

  pub closed_marks_length : d.used ≤ length d.marks → length (closed_up d).marks ≡ length d.marks
  closed_marks_length h = rw closed_marks (omega (arith, staying_most d))

-- the document
module _ (d : Document) where
  idents : length (staying_ids d d.tables.used) ≡ staying d.tables
  unfolding staying
  idents = ids_length d d.tables.used

  pub compacted_tables : (compacted d).tables ≡ closed_up d.tables
  unfolding compacted
  compacted_tables = refl

  pub compacted-next : (compacted d).next ≡ d.next
  unfolding compacted
  compacted-next = refl

  -- each identity stays with its node
  pub compacted-identity : (v : ℕ) → present d.tables v ≡ true → identity (compacted d) (place d.tables v) ≡ identity d v
  unfolding compacted
  compacted-identity v e =
      get_or-append (staying_ids d d.tables.used) (drop (staying d.tables) d.ids) 0 (place d.tables v)
      (rw idents (place_below d.tables v e))
      ∙ ids_at d d.tables.used v (present_used d.tables v e) e

  -- identities behind the new used count stay
  pub compacted-behind : (v : ℕ) → staying d.tables ≤ v → identity (compacted d) v ≡ identity d v
  unfolding compacted
  compacted-behind = get_or-behind (staying_ids d d.tables.used) d.ids (staying d.tables) idents

  pub compacted_ids : length (compacted d).ids ≡ staying d.tables + (length d.ids - staying d.tables)
  unfolding compacted
  compacted_ids = length-behind (staying_ids d d.tables.used) d.ids (staying d.tables) idents

  pub compacted-length : d.tables.used ≤ length d.ids → length (compacted d).ids ≡ length d.ids
  compacted-length h = rw compacted_ids (omega (arith, staying_most d.tables))

  -- the room gained is the number dropped: so much less is used
  pub compacted_gains : (compacted d).tables.used + dropped d.tables ≡ d.tables.used
  unfolding compacted closed_up
  compacted_gains = staying-dropped d.tables

  -- of a room that stays
  pub compacted_room : 2 * d.tables.used ≤ length d.tables.rows → d.tables.used ≤ length d.tables.marks → d.tables.used ≤ length d.ids → room_of (compacted d) ≡ room_of d
  compacted_room h k l =
      rw (compacted-length l, compacted_tables, closed_rows_length d.tables h, closed_marks_length d.tables k) refl
