-- A compaction leaves a sound document sound, every way as it was, and a document that meets no refusal meets none after it.
use Prim.Native.Nat.{ℕ, ◌<◌, ◌≤◌}
use mathlib.Core.Path.{◌≡◌}
use mathlib.Core.Bool.{true}
use mathlib.Core.List.{List}
use native.Mathlib.Omega.{arith}
use Rattle.tables.specs.Limits.{word_limit}
use Rattle.tables.specs.Words.{parent, tag}
use Rattle.tables.specs.Documents.{Doc, present, Sound}
use Rattle.tables.specs.Checks.{document_check, Fine}
use Rattle.tables.proofs.Soundness.{used_facts, sound_accepted}
use Rattle.selection.specs.Ways.{up}
use Rattle.selection.proofs.Presence.{present_used}
use Rattle.selection.proofs.Up.{Up, top, node, way_is, way_of}
use Rattle.identities.specs.Documents.{Document, identity, Identified, SoundDocument}
use Rattle.identities.specs.Compaction.{place, staying, closed_up, compacted}
use Rattle.compaction.proofs.Places.{staying_most, place_start, place_rises, place_below, place-back, placed}
use Rattle.compaction.proofs.Closing.{closed_used, closed_parent, closed_tag, closed_mark, closed_present, closed_words, closed_marks, compacted_tables, compacted-next, compacted-identity, compacted_ids}

-- the tables of a sound document
module _ {d : Doc} (sound : Sound d) where
  -- the root is number 0 still, and no other node is
  pub place_later : (v : ℕ) → 0 < v → 0 < place d v
  place_later v h = omega (arith, place_rises d 0 v h sound.root)

  root-stays : 0 < staying d
  root-stays = omega (arith, place_below d 0 sound.root)

  -- a parent that stays has the smaller number
  above_less : (v : ℕ) → 0 < place d v → present d v ≡ true → parent (closed_up d).rows (place d v) < place d v
  above_less v h e =
      let some : 0 < v = place-back d 0 v (rw place_start h) in
      rw (closed_parent d v e)
      (place_rises d (parent d.rows v) v (sound.parents v some (present_used d v e)) (sound.closed v some e))

  pub closed_sound : Sound (closed_up d)
  closed_sound =
      let inside : (m : ℕ) → m < (closed_up d).used → m < staying d = λ m h. rw (closed_used d) at h in
      record {
        room = rw (closed_used d, closed_words d) (omega arith);
        root = closed_present d 0 root-stays;
        top = rw (sound.top, place_start d) at (closed_parent d 0 sound.root);
        parents = λ m some h. placed d (λ n. 0 < n → parent (closed_up d).rows n < n) (λ v e k. above_less v k e) m (inside m h) some;
        named = λ m h. placed d (λ n. 0 < tag (closed_up d).rows n) (λ v e. rw (closed_tag d v e) (sound.named v (present_used d v e))) m (inside m h);
        labels = λ m h. placed d (λ n. tag (closed_up d).rows n < word_limit) (λ v e. rw (closed_tag d v e) (sound.labels v (present_used d v e))) m (inside m h);
        closed = λ m some e.
            let h : m < staying d = inside m (present_used (closed_up d) m e) in
            placed d (λ n. 0 < n → n ≤ m → present (closed_up d) (parent (closed_up d).rows n) ≡ true)
            (λ v here k l. closed_present d _ (omega (arith, above_less v k here)))
            m
            h
            some
            (omega arith);
      }

  -- the way of a present node is that of its new number
  closed_up_lem : {v : ℕ} {w : List ℕ} → present d v ≡ true → Up d.rows v w → Up (closed_up d).rows (place d v) w
  closed_up_lem e top = rw (place_start d, ← (rw (place_start d) at (closed_tag d 0 e))) top
  closed_up_lem e (node {v = v} {w = rest} h u) =
      rw (← closed_tag d v e)
      (node {w = rest} (place_later v h) (rw (closed_parent d v e) (closed_up_lem (sound.closed v h e) u)))

  pub closed_way : (v : ℕ) → present d v ≡ true → up (closed_up d).rows (place d v) ≡ up d.rows v
  closed_way v e =
      way_of closed_sound (rw (closed_used d) (place_below d v e)) (closed_up_lem e (way_is sound v (present_used d v e)))

-- identities
module _ {d : Document} (ided : Identified d) where
  -- of two present nodes
  pub identity_rises : (u v : ℕ) → present d.tables u ≡ true → present d.tables v ≡ true → place d.tables u < place d.tables v →
      identity (compacted d) (place d.tables u) < identity (compacted d) (place d.tables v)
  identity_rises u v e f h =
      rw (compacted-identity d u e, compacted-identity d v f)
      (ided.rising u v (place-back d.tables u v h) (present_used d.tables v f))

  pub compacted_identified : Identified (compacted d)
  compacted_identified =
      let n = staying d.tables in
      let inside : (m : ℕ) → m < (compacted d).tables.used → m < n = λ m h. rw (compacted_tables d, closed_used d.tables) at h in
      record {
        row = rw (compacted_tables d, closed_used d.tables, compacted_ids d) (omega arith);
        rising = λ m k h l.
            placed d.tables (λ b. m < b → identity (compacted d) m < identity (compacted d) b)
            (λ v f. placed d.tables (λ a. a < place d.tables v → identity (compacted d) a < identity (compacted d) (place d.tables v)) (λ u e. identity_rises u v e f) m (omega (arith, inside k l)))
            k
            (inside k l)
            h;
        below = λ m h.
            placed d.tables (λ a. identity (compacted d) a < (compacted d).next)
            (λ v e. rw (compacted-identity d v e, compacted-next d) (ided.below v (present_used d.tables v e)))
            m
            (inside m h);
      }

pub compacted_sound : {d : Document} → SoundDocument d → SoundDocument (compacted d)
compacted_sound {d} sound = record {
  tables = rw (compacted_tables d) (closed_sound sound.tables);
  identities = compacted_identified sound.identities;
}

-- the tables of a document that meets no refusal meet none
pub closed_accepted : {d : Doc} → Sound d → document_check d ≡ Fine → document_check (closed_up d) ≡ Fine
closed_accepted {d} sound fine =
    sound_accepted (closed_up d) (closed_sound sound)
    (rw (closed_used d) (omega (arith, staying_most d, (used_facts d fine).1)))
    (rw (closed_used d, closed_marks d) (omega arith))
    (λ m h. rw (closed_mark d m (rw (closed_used d) at h)) (omega arith))
