-- What holds after a compaction: of one that was refused, and of one that was accepted. The promise settles answer and rows.
use Rattle.std.specs.Prelude.{Result, Ok, Err}
use Rattle.outcomes.specs.declared.updates.Compacted.{Compacted}
use Rattle.tables.specs.Checks.{Checked, Fine}
use Prim.Native.Nat.{ℕ, ◌+◌}
use mathlib.Core.Path.{◌≡◌, refl, sym, ◌∙◌, ap}
use mathlib.Core.List.{List}
use native.Mathlib.Omega.{arith}
use Rattle.tables.specs.Words.{Bits16}
use Rattle.tables.specs.Patterns.{Pattern}
use Rattle.tables.specs.declared.refusal.Refusal.{Refusal}
use Rattle.identities.specs.Documents.{Document, document, SoundDocument}
use Rattle.identities.specs.Checks.{whole_check}
use Rattle.identities.specs.Updates.{room_of}
use Rattle.identities.specs.Showing.{SameIdentities, SameIdentitiesBelow}
use Rattle.identities.specs.Compaction.{staying, dropped, closed_up, compacted}
use Rattle.identities.proofs.Checks.{whole_sound}
use Rattle.compaction.specs.Alike.{Alike}
use Rattle.compaction.proofs.Places.{staying-dropped}
use Rattle.compaction.proofs.Keeping.{compacted_sound}
use Rattle.compaction.proofs.Checking.{accepted_room, compacted_accepted}
use Rattle.compaction.proofs.Compacting.{compacted_alike, compacted-same, compacted-same_below}
use Rattle.doc_compact.specs.Compacting.{compact_answer, Compact}

-- two that meet the promise are the same
pub compact_one : {d : Document} {rows₀ marks₀ ids₀ rows₁ marks₁ ids₁ rows₂ marks₂ ids₂ : List ℕ} {a b : Result Compacted Refusal} →
    Compact d rows₀ marks₀ ids₀ rows₁ marks₁ ids₁ a → Compact d rows₀ marks₀ ids₀ rows₂ marks₂ ids₂ b → (a ≡ b) × (rows₁ ≡ rows₂) × (marks₁ ≡ marks₂) × (ids₁ ≡ ids₂)
compact_one f g = (f.answered ∙ sym g.answered, f.rows ∙ sym g.rows, f.marks ∙ sym g.marks, f.ids ∙ sym g.ids)

-- one that answers a refusal met it, one that answers counts met none
refused_told : (c : Checked) (a b : ℕ) {r : Refusal} → Err r ≡ compact_answer c a b → c ≡ Err r
refused_told (Ok tt) a b e = let z : ◌≡◌ {A = ℕ} 0 1 = cc in absurd (omega arith)
refused_told (Err r) a b e = cc

pub closed_fine : (c : Checked) (a b : ℕ) {n gone : ℕ} → Ok (record { used = n; dropped = gone }) ≡ compact_answer c a b → c ≡ Fine
closed_fine (Ok tt) a b e = refl
closed_fine (Err r) a b e = let z : ◌≡◌ {A = ℕ} 0 1 = cc in absurd (omega arith)

-- a refused compaction tells the document's refusal and changes no row
module _ {d : Document} {rows₀ marks₀ ids₀ rows₁ marks₁ ids₁ : List ℕ} {r : Refusal} (done : Compact d rows₀ marks₀ ids₀ rows₁ marks₁ ids₁ (Err r)) where
  pub compact_told : whole_check d ≡ Err r
  compact_told = refused_told (whole_check d) (staying d.tables) (dropped d.tables) done.answered

  pub compact_same : (rows₁ ≡ rows₀) × (marks₁ ≡ marks₀) × (ids₁ ≡ ids₀)
  compact_same = (rw compact_told at done.rows, rw compact_told at done.marks, rw compact_told at done.ids)

-- an accepted one met no refusal
module _ (d : Document) {rows marks ids : List ℕ} {n gone : ℕ} (done : Compact d d.tables.rows d.tables.marks d.ids rows marks ids (Ok (record { used = n; dropped = gone }))) where
  pub compact_fine : whole_check d ≡ Fine
  compact_fine = closed_fine (whole_check d) (staying d.tables) (dropped d.tables) done.answered

  -- it answers how many nodes stay and how many were dropped, which are all of them
  pub compact_numbers : (n ≡ staying d.tables) × (gone ≡ dropped d.tables)
  compact_numbers =
      let e : ◌≡◌ {A = Result Compacted Refusal} (Ok (record { used = n; dropped = gone })) (Ok (record { used = staying d.tables; dropped = dropped d.tables })) =
      rw compact_fine at done.answered
      in
      let told : ◌≡◌ {A = Compacted} (record { used = n; dropped = gone }) (record { used = staying d.tables; dropped = dropped d.tables }) = cc in
      (ap (λ (done : Compacted). done.used) told, ap (λ (done : Compacted). done.dropped) told)

  pub compact_gains : n + gone ≡ d.tables.used
  compact_gains = rw (compact_numbers.0, compact_numbers.1) (staying-dropped d.tables)

  -- the document after it
  pub compact_document : document rows marks n ids d.next ≡ compacted d
  unfolding compacted closed_up
  compact_document =
      rw (compact_numbers.0, rw compact_fine at done.rows, rw compact_fine at done.marks, rw compact_fine at done.ids) refl

  pub compact_room : room_of (document rows marks n ids d.next) ≡ room_of d
  compact_room = ap (λ (e : Document). room_of e) compact_document ∙ accepted_room d compact_fine

  module _ (words : Bits16 d.tables.rows) where
    before : SoundDocument d
    before = whole_sound d compact_fine words

    pub compact_sound : SoundDocument (document rows marks n ids d.next)
    compact_sound = rw compact_document (compacted_sound before)

    -- it meets no refusal
    pub compact_accepted : whole_check (document rows marks n ids d.next) ≡ Fine
    compact_accepted = rw compact_document (compacted_accepted d compact_fine before.tables)

    -- it holds the same things by identity, so every read selects the same before and after
    pub compact_alike : Alike d (document rows marks n ids d.next)
    compact_alike = rw compact_document (compacted_alike before)

    pub compact_identities : {r : List ℕ} → Pattern r → SameIdentities r d (document rows marks n ids d.next)
    compact_identities pattern = rw compact_document (compacted-same before pattern)

    pub compact_below : {r : List ℕ} → Pattern r → SameIdentitiesBelow r d (document rows marks n ids d.next)
    compact_below pattern = rw compact_document (compacted-same_below before pattern)
