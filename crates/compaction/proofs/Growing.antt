-- An insert into alike documents leaves them alike: the copies have the same identities, and hang under likes.
use Prim.Native.Nat.{ℕ, zero, suc, ◌+◌, ◌*◌, ◌<◌}
use mathlib.Core.Path.{◌≡◌, refl, sym, ◌∙◌}
use mathlib.Core.Bool.{true}
use mathlib.Core.List.{List}
use native.Mathlib.Omega.{arith}
use lib.ListN.{get_or}
use Rattle.tables.specs.Words.{nodes, parent, tag}
use Rattle.tables.specs.Documents.{bare, present, Sound}
use Rattle.selection.specs.Ways.{up}
use Rattle.selection.specs.Operations.{points, copies, inserted}
use Rattle.selection.proofs.Presence.{present_used}
use Rattle.selection.proofs.Keeping.{Kept, Copy, kept_present, copy_present}
use Rattle.selection.proofs.Grafting.{copied_below}
use Rattle.selection.proofs.Inserting.{Placed, old, copied, inserted_placed, inserted_kept, inserted_copy, point_present}
use Rattle.identities.specs.Documents.{Document, identity, SoundDocument}
use Rattle.identities.specs.Updates.{inserted_in}
use Rattle.identities.proofs.Updates.{old_identity, copy_identity}
use Rattle.compaction.specs.Alike.{Paired, Partner, Alike}
use Rattle.compaction.proofs.Alike.{alike_sym}
use Rattle.compaction.proofs.Updating.{same-copies, same_points, same-written}

-- one document
module _ (p x : List ℕ) (d : Document) (tree : Sound (bare x)) (sound : SoundDocument d) where
  base : ℕ → ℕ
  base c = d.tables.used + c * nodes x

  kept : Kept d.tables (inserted_in p x d).tables
  unfolding inserted_in
  kept = inserted_kept p x d.tables tree sound.tables

  module _ (c : ℕ) (h : c < copies p d.tables) where
    copy : Copy x (up d.tables.rows (get_or (points p d.tables) c 0)) (get_or (points p d.tables) c 0) (base c) (inserted_in p x d).tables
    unfolding inserted_in base
    copy = inserted_copy p x d.tables tree sound.tables c h

    -- node k of copy c has the identity that its place in the order written gives
    new_identity : (k : ℕ) → k < nodes x → identity (inserted_in p x d) (base c + k) ≡ d.next + (c * nodes x + k)
    unfolding base
    new_identity k l = copy_identity p x d c k h l ∙ omega arith

    -- its node 0 hangs under the point, every other under a node of the copy
    first_above : 0 < nodes x → identity (inserted_in p x d) (parent (inserted_in p x d).tables.rows (base c + 0)) ≡ identity d (get_or (points p d.tables) c 0)
    unfolding copies
    first_above l =
        rw (copy.parents 0 l)
        (old_identity p x d (get_or (points p d.tables) c 0) (present_used d.tables _ (point_present p d.tables c h)))

    later_above : (k : ℕ) → 0 < k → k < nodes x →
        identity (inserted_in p x d) (parent (inserted_in p x d).tables.rows (base c + k)) ≡ d.next + (c * nodes x + parent x k)
    later_above k some l =
        rw (copy.parents k l, copied_below x (get_or (points p d.tables) c 0) (base c) k some)
        (new_identity (parent x k) (omega (arith, tree.parents k some l)))

  -- the nodes after it are old ones or copied ones
  grown_placed : (v : ℕ) → present (inserted_in p x d).tables v ≡ true → Placed x d.tables.used (copies p d.tables) v
  unfolding inserted_in
  grown_placed v e = inserted_placed p x d.tables v (present_used (inserted p x d.tables) v e)

-- two nodes of alike documents after an insert: likes before it, or the same node of the same copy
data Grown (p x : List ℕ) (d e : Document) (v w : ℕ) : Type 0 where
  olds : Paired d e v w → Grown p x d e v w
  news : (c k : ℕ) → c < copies p d.tables → k < nodes x → v ≡ d.tables.used + c * nodes x + k → w ≡ e.tables.used + c * nodes x + k → Grown p x d e v w

module _ {d e : Document} (alike : Alike d e) (sound : SoundDocument d) (sound' : SoundDocument e) (p x : List ℕ) (tree : Sound (bare x)) where
  as_many : (c : ℕ) → c < copies p d.tables → c < copies p e.tables
  as_many c h = rw (same-copies alike sound sound' p) at h

  -- they are likes after it
  grown_pairs : {v w : ℕ} → Grown p x d e v w → Paired (inserted_in p x d) (inserted_in p x e) v w
  unfolding base
  grown_pairs {v} {w} (olds q) =
      let a : v < d.tables.used = present_used d.tables v q.here in
      let b : w < e.tables.used = present_used e.tables w q.there in
      record {
        here = kept_present (kept p x d tree sound) v a ∙ q.here;
        there = kept_present (kept p x e tree sound') w b ∙ q.there;
        same = old_identity p x d v a ∙ q.same ∙ sym (old_identity p x e w b);
      }
  grown_pairs (news c k h l a b) =
      rw (a, b)
      (record {
        here = copy_present (copy p x d tree sound c h) k l;
        there = copy_present (copy p x e tree sound' c (as_many c h)) k l;
        same = new_identity p x d tree sound c h k l ∙ rw alike.next (sym (new_identity p x e tree sound' c (as_many c h) k l));
      })

  -- and there are no others
  pairs_grown : {v w : ℕ} → Paired (inserted_in p x d) (inserted_in p x e) v w → Grown p x d e v w
  unfolding base
  pairs_grown {v} {w} q = go (grown_placed p x d tree sound v q.here) (grown_placed p x e tree sound' w q.there)
    where
      go : Placed x d.tables.used (copies p d.tables) v → Placed x e.tables.used (copies p e.tables) w → Grown p x d e v w
      go (old a) (old b) =
          olds
          (record {
            here = sym (kept_present (kept p x d tree sound) v a) ∙ q.here;
            there = sym (kept_present (kept p x e tree sound') w b) ∙ q.there;
            same = sym (old_identity p x d v a) ∙ q.same ∙ old_identity p x e w b;
          })
      go (old a) (copied c k h l b) =
          let named : identity (inserted_in p x e) w ≡ e.next + (c * nodes x + k) = rw b (new_identity p x e tree sound' c h k l) in
          absurd (omega (arith, sound.identities.below v a, old_identity p x d v a, q.same, named, alike.next))
      go (copied c k h l a) (old b) =
          let named : identity (inserted_in p x d) v ≡ d.next + (c * nodes x + k) = rw a (new_identity p x d tree sound c h k l) in
          absurd (omega (arith, sound'.identities.below w b, old_identity p x e w b, q.same, named, alike.next))
      go (copied c k h l a) (copied c' k' h' l' b) =
          let named : identity (inserted_in p x d) v ≡ d.next + (c * nodes x + k) = rw a (new_identity p x d tree sound c h k l) in
          let also : identity (inserted_in p x e) w ≡ e.next + (c' * nodes x + k') = rw b (new_identity p x e tree sound' c' h' k' l') in
          news c k h l a (omega (arith, q.same, named, also, alike.next))

  grown_tags : {v w : ℕ} → Grown p x d e v w → tag (inserted_in p x d).tables.rows v ≡ tag (inserted_in p x e).tables.rows w
  unfolding base
  grown_tags {v} {w} (olds q) =
      (kept p x d tree sound).tags v (present_used d.tables v q.here) ∙ alike.tags q ∙ sym ((kept p x e tree sound').tags w (present_used e.tables w q.there))
  grown_tags (news c k h l a b) = rw (a, b) ((copy p x d tree sound c h).tags k l ∙ sym ((copy p x e tree sound' c (as_many c h)).tags k l))

  -- the parent of an old node is old
  above_old : (c : Document) → SoundDocument c → (v : ℕ) → present c.tables v ≡ true → 0 < v → identity (inserted_in p x c) (parent (inserted_in p x c).tables.rows v) ≡ identity c (parent c.tables.rows v)
  above_old c is v here some =
      let a : v < c.tables.used = present_used c.tables v here in
      rw ((kept p x c tree is).parents v a)
      (old_identity p x c (parent c.tables.rows v) (omega (arith, is.tables.parents v some a)))

  above_new : (c k : ℕ) → c < copies p d.tables → k < nodes x →
      identity (inserted_in p x d) (parent (inserted_in p x d).tables.rows (d.tables.used + c * nodes x + k)) ≡ identity (inserted_in p x e) (parent (inserted_in p x e).tables.rows (e.tables.used + c * nodes x + k))
  unfolding base
  above_new c zero h l =
      first_above p x d tree sound c h l ∙ (same_points alike sound sound' p c h).same ∙ sym (first_above p x e tree sound' c (as_many c h) l)
  above_new c (suc k) h l =
      later_above p x d tree sound c h (suc k) (omega arith) l
      ∙ rw alike.next (sym (later_above p x e tree sound' c (as_many c h) (suc k) (omega arith) l))

  grown_parents : {v w : ℕ} → Grown p x d e v w → 0 < v → 0 < w →
      identity (inserted_in p x d) (parent (inserted_in p x d).tables.rows v) ≡ identity (inserted_in p x e) (parent (inserted_in p x e).tables.rows w)
  grown_parents {v} {w} (olds q) h k = above_old d sound v q.here h ∙ alike.parents q h k ∙ sym (above_old e sound' w q.there k)
  grown_parents (news c k h l a b) some also = rw (a, b) (above_new c k h l)

  grown_partner : (v : ℕ) → present (inserted_in p x d).tables v ≡ true → Partner (inserted_in p x d) (inserted_in p x e) v
  grown_partner v here = go (grown_placed p x d tree sound v here)
    where
      go : Placed x d.tables.used (copies p d.tables) v → Partner (inserted_in p x d) (inserted_in p x e) v
      go (old a) =
          let like : Partner d e v = alike.there v (sym (kept_present (kept p x d tree sound) v a) ∙ here) in
          record { node = like.node; paired = grown_pairs (olds like.paired) }
      go (copied c k h l a) = record { node = e.tables.used + c * nodes x + k; paired = grown_pairs (news c k h l a refl) }

-- an insert leaves them alike
pub inserted_alike : {d e : Document} → Alike d e → SoundDocument d → SoundDocument e → (p x : List ℕ) → Sound (bare x) → Alike (inserted_in p x d) (inserted_in p x e)
unfolding inserted_in
inserted_alike {d} {e} alike sound sound' p x tree = record {
  next = rw (alike.next, same-written alike sound sound' p x) refl;
  there = grown_partner alike sound sound' p x tree;
  here = grown_partner (alike_sym alike) sound' sound p x tree;
  root =
      old_identity p x d 0 (present_used d.tables 0 sound.tables.root) ∙ alike.root
      ∙ sym (old_identity p x e 0 (present_used e.tables 0 sound'.tables.root));
  tags = λ q. grown_tags alike sound sound' p x tree (pairs_grown alike sound sound' p x tree q);
  parents = λ q h k. grown_parents alike sound sound' p x tree (pairs_grown alike sound sound' p x tree q) h k;
}
