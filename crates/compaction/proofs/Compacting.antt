-- A compaction leaves the same things by identity: every read selects the same before and after it.
use Prim.Native.Nat.{ℕ}
use mathlib.Core.Path.{◌≡◌, refl, sym, ◌∙◌}
use mathlib.Core.Bool.{true}
use mathlib.Core.List.{List}
use mathlib.Core.Logic.{◌↔◌}
use Rattle.tables.specs.Words.{parent}
use Rattle.tables.specs.Patterns.{Pattern}
use Rattle.tables.specs.Documents.{present}
use Rattle.selection.proofs.Presence.{present_used}
use Rattle.identities.specs.Documents.{Document, identity, SoundDocument}
use Rattle.identities.specs.Showing.{SelectsIdentity, IdentityBelow, SameIdentities, SameIdentitiesBelow}
use Rattle.identities.specs.Compaction.{place, compacted}
use Rattle.identities.proofs.Showing.{identity_one}
use Rattle.compaction.specs.Alike.{Paired, Alike}
use Rattle.compaction.proofs.Places.{place_start, place_below, Stays, place_all}
use Rattle.compaction.proofs.Closing.{closed_used, closed_parent, closed_tag, closed_present, compacted_tables, compacted-next, compacted-identity}
use Rattle.compaction.proofs.Keeping.{compacted_sound}
use Rattle.compaction.proofs.Alike.{alike_selects, alike_below, alike_same, alike_same_below}

module _ {d : Document} (sound : SoundDocument d) where
  -- a present node's like stands at its new number
  place_pairs : (v : ℕ) → present d.tables v ≡ true → Paired d (compacted d) v (place d.tables v)
  place_pairs v e = record {
    here = e;
    there = rw (compacted_tables d) (closed_present d.tables (place d.tables v) (place_below d.tables v e));
    same = sym (compacted-identity d v e);
  }

  stays : (m : ℕ) → present (compacted d).tables m ≡ true → Stays d.tables m
  stays m e =
      place_all d.tables m
      (rw (compacted_tables d, closed_used d.tables) at (present_used (compacted d).tables m e))

  -- and there only
  paired_place : {v m : ℕ} → Paired d (compacted d) v m → place d.tables v ≡ m
  paired_place {v} {m} p =
      let s : Stays d.tables m = stays m p.there in
      let named : identity (compacted d) m ≡ identity d s.node = rw s.number at (compacted-identity d s.node s.here) in
      let one : v ≡ s.node =
      identity_one sound.identities (present_used d.tables v p.here) (present_used d.tables s.node s.here) (p.same ∙ named)
      in rw one s.number

  -- the same things before and after
  pub compacted_alike : Alike d (compacted d)
  compacted_alike = record {
    next = rw (compacted-next d) refl;
    there = λ v e. record { node = place d.tables v; paired = place_pairs v e };
    here = λ m e.
        let s : Stays d.tables m = stays m e in
        record {
          node = s.node;
          paired = record { here = e; there = s.here; same = rw s.number at (compacted-identity d s.node s.here) };
        };
    root = rw (place_start d.tables) at (sym (compacted-identity d 0 sound.tables.root));
    tags = λ {v} p. rw (compacted_tables d, ← paired_place p) (sym (closed_tag d.tables v p.here));
    parents = λ {v} p h k.
        rw (compacted_tables d, ← paired_place p, closed_parent d.tables v p.here)
        (sym (compacted-identity d (parent d.tables.rows v) (sound.tables.closed v h p.here)));
  }

  -- every read selects the same identities before and after, with the same below each
  pub compacted_selects : {r : List ℕ} → Pattern r → (i : ℕ) → SelectsIdentity r d i ↔ SelectsIdentity r (compacted d) i
  compacted_selects = alike_selects compacted_alike sound (compacted_sound sound)

  pub compacted_below : (i j : ℕ) → IdentityBelow d i j ↔ IdentityBelow (compacted d) i j
  compacted_below = alike_below compacted_alike sound (compacted_sound sound)

  pub compacted-same : {r : List ℕ} → Pattern r → SameIdentities r d (compacted d)
  compacted-same = alike_same compacted_alike sound (compacted_sound sound)

  pub compacted-same_below : {r : List ℕ} → Pattern r → SameIdentitiesBelow r d (compacted d)
  compacted-same_below = alike_same_below compacted_alike sound (compacted_sound sound)
