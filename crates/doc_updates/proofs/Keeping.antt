-- A document that meets no refusal meets none after a delete of two or more steps, nor after an insert that has room.
use Prim.Native.Nat.{ℕ, ◌<◌, ◌≤◌}
use mathlib.Core.Path.{◌≡◌}
use mathlib.Core.Bool.{Bool, true, false, cond}
use mathlib.Core.List.{List}
use native.Mathlib.Omega.{arith}
use Rattle.tables.specs.Words.{steps}
use Rattle.tables.specs.Documents.{Doc, bare, mark, Sound}
use Rattle.tables.specs.Checks.{document_check, Fine}
use Rattle.tables.proofs.Soundness.{used_facts, mark-bit, sound_accepted}
use Rattle.selection.specs.Operations.{struck, deleted, inserted, copies}
use Rattle.selection.proofs.Deleting.{deleted_used, deleted-mark, deleted-length, deleted_sound}
use Rattle.selection.proofs.Inserting.{Placed, old, copied, Room, inserted_placed, inserted_used, inserted_marks_length, inserted_sound, inserted_kept, inserted_copy}

-- a document that meets no refusal, its labels of 16 bits
pub record Accepted (d : Doc) : Type 0 where
  pub sound : Sound d
  pub fine : document_check d ≡ Fine

module _ {d : Doc} (accepted : Accepted d) where
  bit : (v : ℕ) → v < d.used → mark d v ≤ 1
  bit = mark-bit d accepted.fine

  deleted-bit : (p : List ℕ) (v : ℕ) → v < d.used → mark (deleted p d) v ≤ 1
  deleted-bit p v h = rw (deleted-mark p d v h) (go (struck p d v))
    where
      go : (b : Bool) → cond b 1 (mark d v) ≤ 1
      go true = omega arith
      go false = bit v h

  pub deleted_accepted : (p : List ℕ) → 1 < steps p → Accepted (deleted p d)
  deleted_accepted p two =
      let facts = used_facts d accepted.fine in
      let sound = deleted_sound p d two accepted.sound in
      record {
        sound = sound;
        fine = sound_accepted (deleted p d) sound (rw (deleted_used p d) facts.1)
            (rw (deleted_used p d, deleted-length p d facts.3) facts.3)
            (λ v h. deleted-bit p v (rw (deleted_used p d) at h));
      }

  module _ (p x : List ℕ) (tree : Sound (bare x)) where
    inserted-bit : (v : ℕ) → Placed x d.used (copies p d) v → mark (inserted p x d) v ≤ 1
    inserted-bit v (old h) = rw ((inserted_kept p x d tree accepted.sound).marks v h) (bit v h)
    inserted-bit v (copied c k h l e) = rw (e, (inserted_copy p x d tree accepted.sound c h).marks k l) (omega arith)

    pub inserted_accepted : Room p x d → Accepted (inserted p x d)
    inserted_accepted room =
        let sound = inserted_sound p x d tree accepted.sound in
        record {
          sound = sound;
          fine = sound_accepted (inserted p x d) sound (rw (inserted_used p x d) room.limit)
              (rw (inserted_used p x d, inserted_marks_length p x d room.marks) room.marks)
              (λ v h. inserted-bit v (inserted_placed p x d v h));
        }
