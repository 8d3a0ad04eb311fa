-- A document without removed nodes stays as it is, so a second compaction changes nothing.
use Prim.Native.Nat.{ℕ, zero, suc, ◌+◌, ◌*◌, ◌<◌, ◌≤◌}
use mathlib.Core.Path.{◌≡◌, refl, sym, ◌∙◌}
use mathlib.Core.Bool.{Bool, true, false, not}
use mathlib.Core.List.{List, [], ◌∷◌, ◌++◌}
use native.Mathlib.Omega.{arith}
use lib.ListN.{length, take, take-append-drop}
use lib.Seq.{take-suc}
use Rattle.tables.specs.Words.{parent}
use Rattle.tables.specs.Documents.{Doc, mark, present, Sound}
use Rattle.selection.specs.Lists.{tab, front}
use Rattle.selection.proofs.Lists.{tab_ext, front-take, count_holds}
use Rattle.selection.proofs.Presence.{present-mark}
use Rattle.identities.specs.Documents.{Document, SoundDocument}
use Rattle.identities.specs.Compaction.{place, staying, dropped, staying_words, staying_ids, closed_up, compacted}
use Rattle.compaction.proofs.Places.{place_start, place_taken, words_taken, ids_taken}
use Rattle.compaction.proofs.Closing.{closed_used, closed_present, closed_marks, compacted_tables}
use Rattle.compaction.proofs.Keeping.{compacted_sound}

-- no used node is removed
abbrev Whole : Doc → Type 0
Whole d = (v : ℕ) → v < d.used → present d v ≡ true

module _ (d : Doc) (whole : Whole d) where
  -- every node has its own number
  same_place : (n : ℕ) → n ≤ d.used → place d n ≡ n
  same_place zero h = place_start d
  same_place (suc n) h = rw (place_taken d n (whole n h), same_place n (omega arith)) refl

  same_used : staying d ≡ d.used
  unfolding staying
  same_used = same_place d.used (omega arith)

  module _ (sound : Sound d) where
    same-parent : (v : ℕ) → v < d.used → place d (parent d.rows v) ≡ parent d.rows v
    same-parent zero h = rw sound.top (place_start d)
    same-parent (suc v) h = same_place (parent d.rows (suc v)) (omega (arith, sound.parents (suc v) (omega arith) h))

    -- and its own words
    same_words : (n : ℕ) → n ≤ d.used → staying_words d n ≡ take (2 * n) d.rows
    unfolding staying_words
    same_words zero h = refl
    same_words (suc n) h =
        let e : 2 * suc n ≡ suc (suc (2 * n)) = omega arith in
        let o : 2 * n + 1 ≡ suc (2 * n) = omega arith in
        rw (
          words_taken d n (whole n h),
          same_words n (omega arith),
          same-parent n h,
          e,
          take-suc d.rows (suc (2 * n)) 0 (omega (arith, sound.room)),
          take-suc d.rows (2 * n) 0 (omega (arith, sound.room)),
          o,
        )
        (two (take (2 * n) d.rows) _ _)
      where
        two : (xs : List ℕ) (a b : ℕ) → xs ++ (a ∷ b ∷ []) ≡ (xs ++ (a ∷ [])) ++ (b ∷ [])
        two [] a b = refl
        two (x ∷ xs) a b = rw (two xs a b) refl

    same_marks : d.used ≤ length d.marks → tab (λ v. 0) d.used ≡ take d.used d.marks
    unfolding front
    same_marks h =
        tab_ext (λ v. 0) (λ v. mark d v) d.used (λ v l. sym (present-mark d v (whole v l))) ∙ front-take d.used d.marks h

    -- so the tables stay as they are
    whole_closed : d.used ≤ length d.marks → closed_up d ≡ d
    unfolding closed_up
    whole_closed h = rw (same_used, same_words d.used (omega arith), same_marks h, take-append-drop (2 * d.used) d.rows, take-append-drop d.used d.marks) refl

module _ (d : Document) (whole : Whole d.tables) where
  same_ids : d.tables.used ≤ length d.ids → (n : ℕ) → n ≤ d.tables.used → staying_ids d n ≡ take n d.ids
  unfolding staying_ids
  same_ids row zero h = refl
  same_ids row (suc n) h = rw (ids_taken d n (whole n h), same_ids row n (omega arith), take-suc d.ids n 0 (omega arith)) refl

  -- and so does the document
  whole-compacted : SoundDocument d → d.tables.used ≤ length d.tables.marks → compacted d ≡ d
  unfolding compacted
  whole-compacted sound h =
      rw (
        whole_closed d.tables whole sound.tables h,
        same_used d.tables whole,
        same_ids sound.identities.row d.tables.used (omega arith),
        take-append-drop,
      )
      refl

-- where none is dropped, all are there
none_dropped : (d : Doc) → dropped d ≡ 0 → Whole d
unfolding dropped
none_dropped d e v h = go (present d v) refl
  where
    go : (b : Bool) → present d v ≡ b → b ≡ true
    go true q = refl
    go false q = absurd (omega (arith, count_holds (λ u. not (present d u)) v d.used h (rw q)))

-- a document of which nothing is removed stays as it is
pub compacted_none : (d : Document) → SoundDocument d → d.tables.used ≤ length d.tables.marks → dropped d.tables ≡ 0 → compacted d ≡ d
compacted_none d sound h e = whole-compacted d (none_dropped d.tables e) sound h

-- a second compaction changes nothing
pub compacted_twice : {d : Document} → SoundDocument d → compacted (compacted d) ≡ compacted d
compacted_twice {d} sound =
    whole-compacted (compacted d)
    (λ v h. rw (compacted_tables d) (closed_present d.tables v (rw (compacted_tables d, closed_used d.tables) at h)))
    (compacted_sound sound)
    (rw (compacted_tables d, closed_used d.tables, closed_marks d.tables) (omega arith))
