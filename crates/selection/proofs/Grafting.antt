-- One copy of a tree x under a present node q: the nodes already there stay as they are, and the copy's ways go on from x's to that of q.
use Prim.Native.Nat.{ℕ, zero, suc, ◌+◌, ◌*◌, ◌-◌, ◌<◌, ◌≤◌}
use mathlib.Core.Path.{◌≡◌, refl, sym, ◌∙◌}
use mathlib.Core.Bool.{true}
use mathlib.Core.List.{List, [], ◌∷◌, ◌++◌}
use native.Mathlib.Decide.{dec_lt}
use native.Mathlib.Nat.{not-suc-le-zero}
use native.Mathlib.Omega.{arith}
use borrow.Author.Tests.{ne_eqb}
use lib.ListN.{length, get_or, replicate, length-append, length-replicate, get_or-replicate, get_or-append}
use lib.Seq.{get_or_at, get_or-append-add}
use Rattle.tables.specs.Limits.{word_limit}
use Rattle.tables.specs.Words.{nodes, parent, tag}
use Rattle.tables.specs.Documents.{Doc, bare, mark, present, Sound}
use Rattle.selection.specs.Ways.{up}
use Rattle.selection.specs.Operations.{copied_parent, copy_words, graft}
use Rattle.selection.proofs.Lists.{below_suc, get_or_placed_before, get_or_placed, get_or_placed_behind, length_placed_all}
use Rattle.selection.proofs.Presence.{present_used}
use Rattle.selection.proofs.Keeping.{Kept, Copy, kept_present, copy_present}
use Rattle.selection.proofs.Up.{Up, top, node, Falls, up_of, way_is, hung}

-- two words a node
pub length-copy_words : (x : List ℕ) (q base n : ℕ) → length (copy_words x q base n) ≡ 2 * n
unfolding copy_words
length-copy_words x q base zero = refl
length-copy_words x q base (suc n) = rw (length-append, length-copy_words x q base n) (omega arith)

-- the words of node k
pub copy_words-parent : (x : List ℕ) (q base n k : ℕ) → k < n → get_or (copy_words x q base n) (2 * k) 0 ≡ copied_parent x q base k
unfolding copy_words
copy_words-parent x q base zero k h = absurd (not-suc-le-zero h)
copy_words-parent x q base (suc n) k h = below_suc k n h
    (λ l. get_or-append (copy_words x q base n) _ 0 (2 * k) (rw length-copy_words (omega arith)) ∙ copy_words-parent x q base n k l)
    (λ e. rw e (get_or_at (copy_words x q base n) (copied_parent x q base n) (tag x n ∷ []) 0 (2 * n) (length-copy_words x q base n)))

pub copy_words-tag : (x : List ℕ) (q base n k : ℕ) → k < n → get_or (copy_words x q base n) (2 * k + 1) 0 ≡ tag x k
unfolding copy_words
copy_words-tag x q base zero k h = absurd (not-suc-le-zero h)
copy_words-tag x q base (suc n) k h = below_suc k n h
    (λ l. get_or-append (copy_words x q base n) _ 0 (2 * k + 1) (rw length-copy_words (omega arith)) ∙ copy_words-tag x q base n k l)
    (λ e. rw e (rw (length-copy_words x q base n) at (get_or-append-add (copy_words x q base n) (copied_parent x q base n ∷ tag x n ∷ []) 1 0)))

-- node 0 of a copy hangs under q, every other one under the copy of its parent
pub copied_below : (x : List ℕ) (q base k : ℕ) → 0 < k → copied_parent x q base k ≡ base + parent x k
copied_below x q base k h = rw (ne_eqb k 0 (λ e. omega arith)) refl

-- the words and marks of the copy, and of all that is not in it
module _ (x : List ℕ) (q : ℕ) (d : Doc) where
  words_fill : 2 * (d.used + nodes x) ≡ 2 * d.used + length (copy_words x q d.used (nodes x))
  words_fill = rw length-copy_words (omega arith)

  marks_fill : d.used + nodes x ≡ d.used + length {A = ℕ} (replicate (nodes x) 0)
  marks_fill = rw length-replicate refl

  pub graft_used : (graft x q d).used ≡ d.used + nodes x
  unfolding graft
  graft_used = refl

  pub graft_word_before : (i : ℕ) → i < 2 * d.used → get_or (graft x q d).rows i 0 ≡ get_or d.rows i 0
  unfolding graft
  graft_word_before = get_or_placed_before d.rows (copy_words x q d.used (nodes x)) (2 * d.used) (2 * (d.used + nodes x)) words_fill

  pub graft_word_behind : (i : ℕ) → 2 * (d.used + nodes x) ≤ i → get_or (graft x q d).rows i 0 ≡ get_or d.rows i 0
  unfolding graft
  graft_word_behind = get_or_placed_behind d.rows (copy_words x q d.used (nodes x)) (2 * d.used) (2 * (d.used + nodes x)) words_fill

  graft_word : (i : ℕ) → i < 2 * nodes x → get_or (graft x q d).rows (2 * d.used + i) 0 ≡ get_or (copy_words x q d.used (nodes x)) i 0
  unfolding graft
  graft_word i h =
      get_or_placed d.rows (copy_words x q d.used (nodes x)) (2 * d.used) (2 * (d.used + nodes x)) words_fill i (rw length-copy_words h)

  -- old nodes keep their words
  pub old_parent : (v : ℕ) → v < d.used → parent (graft x q d).rows v ≡ parent d.rows v
  old_parent v h = graft_word_before (2 * v) (omega arith)

  pub old_tag : (v : ℕ) → v < d.used → tag (graft x q d).rows v ≡ tag d.rows v
  old_tag v h = graft_word_before (2 * v + 1) (omega arith)

  -- copied nodes have the copy's
  pub copy_parent : (k : ℕ) → k < nodes x → parent (graft x q d).rows (d.used + k) ≡ copied_parent x q d.used k
  copy_parent k h =
      let e : 2 * (d.used + k) ≡ 2 * d.used + 2 * k = omega arith in
      rw e (graft_word (2 * k) (omega arith) ∙ copy_words-parent x q d.used (nodes x) k h)

  pub copy_tag : (k : ℕ) → k < nodes x → tag (graft x q d).rows (d.used + k) ≡ tag x k
  copy_tag k h =
      let e : 2 * (d.used + k) + 1 ≡ 2 * d.used + (2 * k + 1) = omega arith in
      rw e (graft_word (2 * k + 1) (omega arith) ∙ copy_words-tag x q d.used (nodes x) k h)

  -- old nodes keep their marks, copied nodes have mark 0
  pub old_mark : (v : ℕ) → v < d.used → mark (graft x q d) v ≡ mark d v
  unfolding graft
  old_mark = get_or_placed_before d.marks (replicate (nodes x) 0) d.used (d.used + nodes x) marks_fill

  pub copy_mark : (k : ℕ) → k < nodes x → mark (graft x q d) (d.used + k) ≡ 0
  unfolding graft
  copy_mark k h =
      get_or_placed d.marks (replicate (nodes x) 0) d.used (d.used + nodes x) marks_fill k (rw length-replicate h) ∙ get_or-replicate (nodes x) k 0 0 h

  pub graft-mark-behind : (v : ℕ) → d.used + nodes x ≤ v → mark (graft x q d) v ≡ mark d v
  unfolding graft
  graft-mark-behind = get_or_placed_behind d.marks (replicate (nodes x) 0) d.used (d.used + nodes x) marks_fill

  -- lengths: at least what the copy needs, and unchanged where there is room
  graft_words : length (graft x q d).rows ≡ 2 * (d.used + nodes x) + (length d.rows - 2 * (d.used + nodes x))
  unfolding graft
  graft_words = length_placed_all d.rows (copy_words x q d.used (nodes x)) (2 * d.used) (2 * (d.used + nodes x)) words_fill

  pub graft_room : d.used + nodes x ≤ nodes (graft x q d).rows
  graft_room = rw graft_words (omega arith)

  pub graft_rows_length : 2 * (d.used + nodes x) ≤ length d.rows → length (graft x q d).rows ≡ length d.rows
  graft_rows_length h = rw graft_words (omega arith)

  pub graft_marks_length : d.used + nodes x ≤ length d.marks → length (graft x q d).marks ≡ length d.marks
  unfolding graft
  graft_marks_length h =
      rw (length_placed_all d.marks (replicate (nodes x) 0) d.used (d.used + nodes x) marks_fill) (omega arith)

  -- a node of the graft is an old one or a copied one
  pub old_or_copied : (P : ℕ → Type 0) → ((v : ℕ) → v < d.used → P v) → ((k : ℕ) → k < nodes x → P (d.used + k)) → (v : ℕ) → v < (graft x q d).used → P v
  unfolding graft
  old_or_copied P old copied v h = go (dec_lt v d.used)
    where
      go : Dec (v < d.used) → P v
      go (yes l) = old v l
      go (no l) =
          let e : v ≡ d.used + (v - d.used) = omega arith in
          rw e (copied (v - d.used) (omega arith))

-- ways, and soundness
module _ (x : List ℕ) (q : ℕ) (d : Doc) (tree : Sound (bare x)) (sound : Sound d) (point : present d q ≡ true) where
  point_used : q < d.used
  point_used = present_used d q point

  -- what holds of q and of the copies of parents holds of the parent of every copied node
  hangs : (P : ℕ → Type 0) (k : ℕ) → k < nodes x → P q → (0 < k → parent x k < k → P (d.used + parent x k)) → P (parent (graft x q d).rows (d.used + k))
  hangs P k h under inside = rw (copy_parent x q d k h) (go k h inside)
    where
      go : (j : ℕ) → j < nodes x → (0 < j → parent x j < j → P (d.used + parent x j)) → P (copied_parent x q d.used j)
      go zero l f = under
      go (suc j) l f = rw (copied_below x q d.used (suc j) (omega arith)) (f (omega arith) (tree.parents (suc j) (omega arith) l))

  graft_falls : Falls (graft x q d).rows (graft x q d).used
  graft_falls v k b =
      old_or_copied x q d (λ u. 0 < u → parent (graft x q d).rows u < u)
      (λ u h l. rw (old_parent x q d u h) (sound.parents u l h))
      (λ j h l. hangs (λ u. u < d.used + j) j h (omega (arith, point_used)) (λ i less. omega arith))
      v
      b
      k

  old_up : {v : ℕ} {w : List ℕ} → v < d.used → Up d.rows v w → Up (graft x q d).rows v w
  old_up b top = rw (← old_tag x q d 0 b) top
  old_up b (node {v = v} h u) =
      let less : parent d.rows v < v = sound.parents v h b in
      hung h (old_parent x q d v b) (old_tag x q d v b) (old_up (omega arith) u)

  copy_up : {k : ℕ} {w : List ℕ} → k < nodes x → Up x k w → Up (graft x q d).rows (d.used + k) (w ++ up d.rows q)
  copy_up b top = hung (omega (arith, point_used)) (copy_parent x q d 0 b) (copy_tag x q d 0 b) (old_up point_used (way_is sound q point_used))
  copy_up b (node {v = k} h u) =
      let less : parent x k < k = tree.parents k h b in
      hung (omega arith) (copy_parent x q d k b ∙ copied_below x q d.used k h) (copy_tag x q d k b) (copy_up (omega arith) u)

  -- old nodes keep their ways
  pub old_way : (v : ℕ) → v < d.used → up (graft x q d).rows v ≡ up d.rows v
  old_way v h = up_of (graft x q d).rows (graft x q d).used graft_falls (rw graft_used (omega arith)) (old_up h (way_is sound v h))

  -- the way of a copied node is its way in x and then the way of q
  pub copy_way : (k : ℕ) → k < nodes x → up (graft x q d).rows (d.used + k) ≡ up x k ++ up d.rows q
  copy_way k h = up_of (graft x q d).rows (graft x q d).used graft_falls (rw graft_used (omega arith)) (copy_up h (way_is tree k h))

  -- old nodes are kept
  pub graft_kept : Kept d (graft x q d)
  graft_kept = record {
    inside = rw graft_used (omega arith);
    parents = old_parent x q d;
    tags = old_tag x q d;
    marks = old_mark x q d;
    ways = old_way;
  }

  -- the others are a copy of x
  pub graft_copy : Copy x (up d.rows q) q d.used (graft x q d)
  graft_copy = record {
    inside = rw graft_used (omega arith);
    parents = copy_parent x q d;
    tags = copy_tag x q d;
    marks = copy_mark x q d;
    ways = copy_way;
  }

  graft_closed : (v : ℕ) → v < (graft x q d).used → 0 < v → present (graft x q d) v ≡ true → present (graft x q d) (parent (graft x q d).rows v) ≡ true
  graft_closed =
      old_or_copied x q d (λ u. 0 < u → present (graft x q d) u ≡ true → present (graft x q d) (parent (graft x q d).rows u) ≡ true)
      (λ u h l r.
      let less : parent d.rows u < u = sound.parents u l h in
      rw (old_parent x q d u h, kept_present graft_kept (parent d.rows u) (omega arith)) (sound.closed u l (sym (kept_present graft_kept u h) ∙ r)))
      (λ k h l r.
      hangs (λ u. present (graft x q d) u ≡ true) k h (kept_present graft_kept q point_used ∙ point)
      (λ i less. copy_present graft_copy (parent x k) (omega arith)))

  -- and the graft is sound
  pub graft_sound : Sound (graft x q d)
  graft_sound =
      let root-used : 0 < d.used = present_used d 0 sound.root in
      record {
        room = rw graft_used (graft_room x q d);
        root = kept_present graft_kept 0 root-used ∙ sound.root;
        top = old_parent x q d 0 root-used ∙ sound.top;
        parents = graft_falls;
        named = old_or_copied x q d (λ v. 0 < tag (graft x q d).rows v)
            (λ v h. rw (old_tag x q d v h) (sound.named v h)) (λ k h. rw (copy_tag x q d k h) (tree.named k h));
        labels = old_or_copied x q d (λ v. tag (graft x q d).rows v < word_limit)
            (λ v h. rw (old_tag x q d v h) (sound.labels v h)) (λ k h. rw (copy_tag x q d k h) (tree.labels k h));
        closed = λ v k e. graft_closed v (present_used (graft x q d) v e) k e;
      }
