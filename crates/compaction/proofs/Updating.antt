-- Updates of alike documents: they answer the same, and leave them alike.
use Prim.Native.Nat.{ℕ, ◌<◌}
use mathlib.Core.Path.{◌≡◌, refl, sym, ◌∙◌, ap}
use mathlib.Core.Bool.{true, false, not}
use mathlib.Core.List.{List}
use lib.ListN.{get_or}
use borrow.Author.Tests.{not-true}
use Rattle.tables.specs.Documents.{present}
use Rattle.selection.specs.Ways.{up, sel, selected}
use Rattle.selection.specs.Operations.{hits, struck, deleted, removed, points, copies}
use Rattle.selection.proofs.Runs.{both}
use Rattle.selection.proofs.Selecting.{selected_by_labels}
use Rattle.selection.proofs.Deleting.{present-deleted, stays-present}
use Rattle.selection.proofs.Inserting.{copies-count}
use Rattle.identities.specs.Documents.{Document, SoundDocument}
use Rattle.identities.specs.Updates.{deleted_in, written, nameable}
use Rattle.compaction.specs.Alike.{Paired, Partner, Alike}
use Rattle.compaction.proofs.Alike.{alike_sym, paired_way}
use Rattle.compaction.proofs.Listing.{Agree, same_count, same-listed}

module _ {d e : Document} (alike : Alike d e) (sound : SoundDocument d) (sound' : SoundDocument e) (p : List ℕ) where
  -- a pattern hits both of two likes or none, and selects both or none
  pub like_hits : {v w : ℕ} → Paired d e v w → hits p (up d.tables.rows v) ≡ hits p (up e.tables.rows w)
  like_hits q = ap (hits p) (paired_way alike sound sound' q)

  struck-agree : Agree d e (struck p d.tables) (struck p e.tables)
  unfolding struck
  struck-agree = record {
    here = λ v h. both (present d.tables v) (hits p (up d.tables.rows v)) h (λ a b. a);
    there = λ w h. both (present e.tables w) (hits p (up e.tables.rows w)) h (λ a b. a);
    same = λ q. rw (q.here, q.there, like_hits q);
  }

  selected-agree : Agree d e (selected p d.tables) (selected p e.tables)
  unfolding selected
  selected-agree = record {
    here = λ v h. both (present d.tables v) (sel p (up d.tables.rows v)) h (λ a b. a);
    there = λ w h. both (present e.tables w) (sel p (up e.tables.rows w)) h (λ a b. a);
    same = λ {v} {w} q. selected_by_labels p d.tables e.tables v w q.here q.there (paired_way alike sound sound' q);
  }

  -- a delete removes as many nodes
  pub same-removed : removed p d.tables ≡ removed p e.tables
  unfolding removed
  same-removed = same_count alike sound sound' struck-agree

  -- an insert makes as many copies, under likes, place for place
  pub same-copies : copies p d.tables ≡ copies p e.tables
  same-copies = copies-count p d.tables ∙ same_count alike sound sound' selected-agree ∙ sym (copies-count p e.tables)

  pub same_points : (c : ℕ) → c < copies p d.tables → Paired d e (get_or (points p d.tables) c 0) (get_or (points p e.tables) c 0)
  unfolding points
  same_points c h = same-listed alike sound sound' selected-agree c (rw (copies-count p d.tables) at h)

  -- so it writes as many nodes, and there are identities enough for both or for none
  pub same-written : (x : List ℕ) → written p x d.tables ≡ written p x e.tables
  unfolding written
  same-written x = rw same-copies refl

  pub same-nameable : (x : List ℕ) → nameable p x d ≡ nameable p x e
  unfolding nameable
  same-nameable x = rw (same-written x, alike.next) refl

-- what is present after a delete was, and is not hit
module _ (p : List ℕ) (d : Document) (v : ℕ) (here : present (deleted_in p d).tables v ≡ true) where
  was_here : present d.tables v ≡ true
  unfolding deleted_in
  was_here = both (present d.tables v) (not (hits p (up d.tables.rows v))) (rw (present-deleted p d.tables v) at here) (λ a b. a)

  not_hit : hits p (up d.tables.rows v) ≡ false
  unfolding deleted_in
  not_hit = both (present d.tables v) (not (hits p (up d.tables.rows v))) (rw (present-deleted p d.tables v) at here) (λ a b. not-true (hits p (up d.tables.rows v)) b)

deleted_pairs : {d e : Document} (p : List ℕ) {v w : ℕ} → Paired (deleted_in p d) (deleted_in p e) v w → Paired d e v w
unfolding deleted_in
deleted_pairs {d} {e} p {v} {w} q = record { here = was_here p d v q.here; there = was_here p e w q.there; same = q.same }

deleted_partner : {d e : Document} → Alike d e → SoundDocument d → SoundDocument e → (p : List ℕ) (v : ℕ) → present (deleted_in p d).tables v ≡ true → Partner (deleted_in p d) (deleted_in p e) v
unfolding deleted_in
deleted_partner {d} {e} alike sound sound' p v h =
    let like : Partner d e v = alike.there v (was_here p d v h) in
    record {
      node = like.node;
      paired = record {
        here = h;
        there = stays-present p e.tables like.node like.paired.there (sym (like_hits alike sound sound' p like.paired) ∙ not_hit p d v h);
        same = like.paired.same;
      };
    }

-- a delete leaves them alike
pub deleted_alike : {d e : Document} → Alike d e → SoundDocument d → SoundDocument e → (p : List ℕ) → Alike (deleted_in p d) (deleted_in p e)
unfolding deleted_in deleted
deleted_alike {d} {e} alike sound sound' p = record {
  next = alike.next;
  there = deleted_partner alike sound sound' p;
  here = deleted_partner (alike_sym alike) sound' sound p;
  root = alike.root;
  tags = λ q. alike.tags (deleted_pairs p q);
  parents = λ q h k. alike.parents (deleted_pairs p q) h k;
}
