-- Documents that hold the same things by identity show every read the same; and it is an equivalence between sound documents.
use Prim.Native.Nat.{ℕ, zero, suc, pred, ◌<◌}
use mathlib.Core.Path.{◌≡◌, refl, sym, ◌∙◌}
use mathlib.Core.Bool.{true}
use mathlib.Core.List.{List}
use mathlib.Core.Logic.{◌↔◌}
use native.Mathlib.Nat.{le_of_eq, suc-pred-eq_of_pos}
use native.Mathlib.Omega.{arith}
use Rattle.tables.specs.Words.{steps, parent}
use Rattle.tables.specs.Patterns.{Pattern}
use Rattle.tables.specs.Documents.{present}
use Rattle.selection.specs.Embeddings.{Below, Below.one, Below.more}
use Rattle.selection.specs.Ways.{up}
use Rattle.selection.proofs.Presence.{present_used}
use Rattle.selection.proofs.Selecting.{selects_by_labels}
use Rattle.selection.proofs.Up.{Up, top, node, way_is, way_of}
use Rattle.identities.specs.Documents.{Document, SoundDocument}
use Rattle.identities.specs.Showing.{SelectsIdentity, IdentityBelow, SameIdentities, SameIdentitiesBelow}
use Rattle.identities.proofs.Showing.{identity_one}
use Rattle.compaction.specs.Alike.{Paired, Partner, Alike}

-- a node has no like in its own document but itself
pub paired_one : {d : Document} → SoundDocument d → {v w : ℕ} → Paired d d v w → v ≡ w
paired_one {d} sound {v} {w} p = identity_one sound.identities (present_used d.tables v p.here) (present_used d.tables w p.there) p.same

pub paired_sym : {d e : Document} {v w : ℕ} → Paired d e v w → Paired e d w v
paired_sym p = record { here = p.there; there = p.here; same = sym p.same }

pub paired_on : {c d e : Document} {u v w : ℕ} → Paired c d u v → Paired d e v w → Paired c e u w
paired_on p q = record { here = p.here; there = q.there; same = p.same ∙ q.same }

pub alike_refl : {d : Document} → SoundDocument d → Alike d d
alike_refl {d} sound =
    let self : (v : ℕ) → present d.tables v ≡ true → Partner d d v = λ v e. record { node = v; paired = record { here = e; there = e; same = refl } } in
    record {
      next = refl;
      there = self;
      here = self;
      root = refl;
      tags = λ p. rw (paired_one sound p) refl;
      parents = λ p h k. rw (paired_one sound p) refl;
    }

pub alike_sym : {d e : Document} → Alike d e → Alike e d
alike_sym same = record {
  next = sym same.next;
  there = same.here;
  here = same.there;
  root = sym same.root;
  tags = λ p. sym (same.tags (paired_sym p));
  parents = λ p h k. sym (same.parents (paired_sym p) k h);
}

module _ {d e : Document} (same : Alike d e) (sound : SoundDocument d) where
  -- the root's like is the root: any other has a greater identity
  pub root_only : {v : ℕ} → Paired d e v 0 → v ≡ 0
  root_only {v} p =
      identity_one sound.identities (present_used d.tables v p.here) (present_used d.tables 0 sound.tables.root) (p.same ∙ sym same.root)

  pub later : {v w : ℕ} → Paired d e v w → 0 < v → 0 < w
  later {v} {w} p h = go w p
    where
      go : (k : ℕ) → Paired d e v k → 0 < k
      go zero q = absurd (omega (arith, root_only q))
      go (suc k) q = omega arith

module _ {d e : Document} (same : Alike d e) (sound : SoundDocument d) (sound' : SoundDocument e) where
  -- parents of likes are likes
  pub paired_above : {v w : ℕ} → Paired d e v w → 0 < v → Paired d e (parent d.tables.rows v) (parent e.tables.rows w)
  paired_above {v} {w} p h = record {
    here = sound.tables.closed v h p.here;
    there = sound'.tables.closed w (later same sound p h) p.there;
    same = same.parents p h (later same sound p h);
  }

  -- likes have the same way
  paired_up : {v w : ℕ} {way : List ℕ} → Paired d e v w → Up d.tables.rows v way → Up e.tables.rows w way
  paired_up {w} p top =
      let z : w ≡ 0 = root_only (alike_sym same) sound' (paired_sym p) in
      rw (same.tags p, z) top
  paired_up p (node {w = rest} h u) = rw (same.tags p) (node {w = rest} (later same sound p h) (paired_up (paired_above p h) u))

  pub paired_way : {v w : ℕ} → Paired d e v w → up d.tables.rows v ≡ up e.tables.rows w
  paired_way {v} {w} p =
      sym
      (way_of sound'.tables (present_used e.tables w p.there)
      (paired_up p (way_is sound.tables v (present_used d.tables v p.here))))

  -- a node has one like
  one_like : {v w x : ℕ} → Paired d e v w → Paired d e v x → w ≡ x
  one_like p q = paired_one sound' (paired_on (paired_sym p) q)

  -- what is below a node is below its like
  paired_below : {u v x w : ℕ} → Below d.tables.rows u v → Paired d e u x → Paired d e v w → Below e.tables.rows x w
  paired_below (one c) a b = one (record { not_root = later same sound b c.not_root; under = one_like (rw c.under at (paired_above b c.not_root)) a })
  paired_below (more below c) a b =
      more
      (paired_below below a (rw c.under at (paired_above b c.not_root)))
      (record { not_root = later same sound b c.not_root; under = refl })

  -- a node with a present one below it is present
  upper_here : {u v : ℕ} → Below d.tables.rows u v → present d.tables v ≡ true → present d.tables u ≡ true
  upper_here {v = v} (one c) e = rw c.under at (sound.tables.closed v c.not_root e)
  upper_here {v = v} (more below c) e = upper_here below (rw c.under at (sound.tables.closed v c.not_root e))

  -- so a read selects the like of what it selects, and below it lie the likes of what lies there
  like_selected : {r : List ℕ} → Pattern r → (i : ℕ) → SelectsIdentity r d i → SelectsIdentity r e i
  like_selected {r} pattern i s =
      let last : pred (steps r) < steps r = le_of_eq (suc-pred-eq_of_pos pattern.some) in
      let here : present d.tables s.node ≡ true = rw s.selects.output at (s.selects.embeds.on_present (pred (steps r)) last) in
      let like : Partner d e s.node = same.there s.node here in
      record {
        node = like.node;
        selects = (selects_by_labels pattern sound.tables sound'.tables s.node like.node here like.paired.there (paired_way like.paired)).0 s.selects;
        named = sym like.paired.same ∙ s.named;
      }

  like_below : (i j : ℕ) → IdentityBelow d i j → IdentityBelow e i j
  like_below i j b =
      let upper : Partner d e b.upper = same.there b.upper (upper_here b.below.below b.below.there) in
      let lower : Partner d e b.lower = same.there b.lower b.below.there in
      record {
        upper = upper.node;
        lower = lower.node;
        below = record { below = paired_below b.below.below upper.paired lower.paired; there = lower.paired.there };
        named_upper = sym upper.paired.same ∙ b.named_upper;
        named_lower = sym lower.paired.same ∙ b.named_lower;
      }

-- alike, and on from a third
pub alike_trans : {c d e : Document} → SoundDocument c → Alike c d → Alike d e → Alike c e
alike_trans {c} {d} {e} sound first second = record {
  next = first.next ∙ second.next;
  there = λ u h. let a = first.there u h in let b = second.there a.node a.paired.there in record { node = b.node; paired = paired_on a.paired b.paired };
  here = λ w h. let a = second.here w h in let b = first.here a.node a.paired.there in record { node = b.node; paired = paired_on a.paired b.paired };
  root = first.root ∙ second.root;
  tags = λ p. let a = first.there _ p.here in first.tags a.paired ∙ second.tags (paired_on (paired_sym a.paired) p);
  parents = λ p h k.
      let a = first.there _ p.here in
      let some = later first sound a.paired h in
      first.parents a.paired h some ∙ second.parents (paired_on (paired_sym a.paired) p) some k;
}

module _ {d e : Document} (same : Alike d e) (sound : SoundDocument d) (sound' : SoundDocument e) where
  -- every read selects the same identities
  pub alike_selects : {r : List ℕ} → Pattern r → (i : ℕ) → SelectsIdentity r d i ↔ SelectsIdentity r e i
  alike_selects pattern i = (like_selected same sound sound' pattern i, like_selected (alike_sym same) sound' sound pattern i)

  -- and the same identities lie below each
  pub alike_below : (i j : ℕ) → IdentityBelow d i j ↔ IdentityBelow e i j
  alike_below i j = (like_below same sound sound' i j, like_below (alike_sym same) sound' sound i j)

  pub alike_same : {r : List ℕ} → Pattern r → SameIdentities r d e
  alike_same pattern = record { identities = alike_selects pattern }

  pub alike_same_below : {r : List ℕ} → Pattern r → SameIdentitiesBelow r d e
  alike_same_below pattern = record { identities = alike_selects pattern; below = λ i s j. alike_below i j }
