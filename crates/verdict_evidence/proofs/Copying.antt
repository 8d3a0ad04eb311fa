-- One copy of an accepted tree x under a node q of an accepted tree t, in tables with room for both: it is the graft, no read of it is refused, and the
-- read selects a node of the copy exactly as its way over the copy and then over q's way says.
use Prim.Native.Nat.{ℕ, zero, suc, ◌+◌, ◌*◌, ◌<◌, ◌≤◌}
use mathlib.Core.Path.{◌≡◌, ◌∙◌}
use mathlib.Core.Bool.{true}
use mathlib.Core.List.{List, ◌++◌}
use native.Mathlib.Decide.{dec_lt}
use native.Mathlib.Omega.{arith}
use lib.ListN.{length, get_or, drop}
use borrow.Author.Tests.{le-leb}
use Rattle.tables.specs.Limits.{tree_limit, word_limit}
use Rattle.tables.specs.Words.{nodes, parent, tag, Bits16}
use Rattle.tables.specs.Documents.{Doc, doc, bare, mark, present, capacity, Sound}
use Rattle.tables.specs.Checks.{document_check, Checked, Fine}
use Rattle.tables.proofs.Soundness.{accepted_tree, accepted_nodes, accepted_some, accepted_whole, sound_accepted}
use Rattle.selection.specs.Lists.{tab}
use Rattle.selection.specs.Ways.{up}
use Rattle.selection.specs.Operations.{copied_parent, graft}
use Rattle.selection.proofs.Lists.{get_or-tab-before, get_or-tab-behind, length-tab-drop}
use Rattle.selection.proofs.Presence.{is_present, present_used}
use Rattle.selection.proofs.Up.{Up, top, node, up_is, up_of}
use Rattle.selection.proofs.Keeping.{copy_selected}
use Rattle.selection.proofs.Grafting.{copied_below, graft_used, old_mark, copy_mark, old_or_copied, graft_marks_length, graft_copy, graft_sound}
use Rattle.doc_read.specs.Reading.{ReadTables}
use Rattle.doc_copy.specs.Copying.{fitting, copied}
use Rattle.doc_copy.proofs.Laws.{copied-graft}
use Rattle.verdict_evidence.specs.Finding.{picks}
use Rattle.verdict_evidence.specs.Rows.{Blank, Hung, Picked}
use Rattle.verdict_evidence.proofs.Unmarked.{row_fine}

-- tables that hold the same first nodes have the same ways there
module _ (t rows : List ℕ) (n : ℕ) (falls : (v : ℕ) → 0 < v → v < n → parent t v < v)
    (parents : (v : ℕ) → v < n → parent rows v ≡ parent t v) (tags : (v : ℕ) → v < n → tag rows v ≡ tag t v) where
  same_up : {v : ℕ} {w : List ℕ} → v < n → Up t v w → Up rows v w
  same_up b top = rw (← tags 0 b) top
  same_up b (node {v = v} {w = w} h u) =
      let less : parent t v < v = falls v h b in
      rw (← tags v b) (node {w = w} h (rw (parents v b) (same_up (omega arith) u)))

  same_way : (v : ℕ) → v < n → up rows v ≡ up t v
  same_way v b =
      up_of rows n (λ u h l. rw (parents u l) (falls u h l)) b (same_up b (up_is t n falls v b))

module _ (r x t : List ℕ) (q : ℕ) (hung : Hung r x t q) where
  few : nodes t ≤ tree_limit
  few = accepted_nodes t tree_limit 5 hung.proposed

  more : nodes x ≤ tree_limit
  more = accepted_nodes x tree_limit 3 hung.inserted

  whole : 2 * nodes t ≡ length t
  whole = accepted_whole t tree_limit 5 hung.proposed

  -- there is room for the tree, and the nodes of both are words
  pub laid_room : {blank : List ℕ} → Blank (2 * (tree_limit + tree_limit)) blank → length t ≤ length blank
  laid_room zeros = rw zeros.long (omega (arith, whole, few))

  pub both_most : nodes t + nodes x ≤ word_limit
  both_most = omega (arith, few, more)

module _ (r x t : List ℕ) (q : ℕ) (hung : Hung r x t q) (tags : Bits16 x) (words : Bits16 t)
    {blank rows marks : List ℕ} (zeros : Blank (2 * (tree_limit + tree_limit)) blank) (laid : rows ≡ tab (λ i. get_or t i 0) (length t) ++ drop (length t) blank)
    (clear : Blank (tree_limit + tree_limit) marks) where
  small : (nodes t ≤ tree_limit) × (nodes x ≤ tree_limit) × (2 * nodes t ≡ length t)
  small = (few r x t q hung, more r x t q hung, whole r x t q hung)

  tree : Sound (bare x)
  tree = accepted_tree x tree_limit 3 hung.inserted tags

  old : Sound (bare t)
  old = accepted_tree t tree_limit 5 hung.proposed words

  -- the tree in its tables
  word_laid : (i : ℕ) → i < length t → get_or rows i 0 ≡ get_or t i 0
  word_laid i h = rw laid (get_or-tab-before (λ j. get_or t j 0) (length t) (drop (length t) blank) i h)

  laid_words : Bits16 rows
  laid_words i = go (dec_lt i (length t))
    where
      go : Dec (i < length t) → get_or rows i 0 < word_limit
      go (yes h) = rw (word_laid i h) (words i)
      go (no h) = rw (laid, get_or-tab-behind (λ j. get_or t j 0) (length t) blank i (omega arith), zeros.each i) (omega arith)

  laid_long : length rows ≡ 2 * (tree_limit + tree_limit)
  laid_long = rw laid (length-tab-drop (λ j. get_or t j 0) (length t) blank (laid_room r x t q hung zeros) ∙ zeros.long)

  before : Doc
  before = doc rows marks (nodes t)

  laid_way : (v : ℕ) → v < nodes t → up rows v ≡ up t v
  laid_way = same_way t rows (nodes t) old.parents (λ v h. word_laid (2 * v) (omega (arith, small))) (λ v h. word_laid (2 * v + 1) (omega (arith, small)))

  here : (v : ℕ) → v < nodes t → present before v ≡ true
  unfolding before
  here v h = is_present before v h (clear.each v)

  sound : Sound before
  unfolding before
  sound =
      record {
        room = rw laid_long (omega (arith, small));
        root = here 0 (accepted_some t tree_limit 5 hung.proposed);
        top = word_laid 0 (omega (arith, small, accepted_some t tree_limit 5 hung.proposed)) ∙ old.top;
        parents = λ v h l. rw (word_laid (2 * v) (omega (arith, small))) (old.parents v h l);
        named = λ v h. rw (word_laid (2 * v + 1) (omega (arith, small))) (old.named v h);
        labels = λ v h. laid_words (2 * v + 1);
        closed = λ v h e. closed v h e (dec_lt v (nodes t));
      }
    where
      closed : (v : ℕ) → 0 < v → present before v ≡ true → Dec (v < nodes t) → present before (parent rows v) ≡ true
      closed v h e (yes l) = rw (word_laid (2 * v) (omega (arith, small))) (here (parent t v) (omega (arith, old.parents v h l)))
      closed v h e (no l) = absurd (omega (arith, present_used before v e))

  -- the copy is the graft
  parent_word : (k : ℕ) → k < nodes x → copied_parent x q (nodes t) k < word_limit
  parent_word zero h = omega (arith, hung.under, small)
  parent_word (suc k) h = rw (copied_below x q (nodes t) (suc k) (omega arith)) (omega (arith, small, tree.parents (suc k) (omega arith) h))

  fits : fitting x before ≡ true
  unfolding fitting before
  fits = le-leb (nodes t + nodes x) (capacity (length rows) (length marks)) (omega (arith, small, laid_long, clear.long))

  is_graft : copied x q before ≡ graft x q before
  unfolding before
  is_graft = copied-graft x q before (λ k h. (parent_word k h, tags (2 * k + 1))) fits laid_words

  behind : Sound (graft x q before)
  behind = graft_sound x q before tree sound (here q hung.under)

  marked : (v : ℕ) → v < (graft x q before).used → mark (graft x q before) v ≡ 0
  unfolding before
  marked = old_or_copied x q before (λ v. mark (graft x q before) v ≡ 0) (λ v h. old_mark x q before v h ∙ clear.each v) (copy_mark x q before)

  accepted : document_check (graft x q before) ≡ Fine
  unfolding before
  accepted =
      sound_accepted (graft x q before) behind (rw (graft_used x q before) (omega (arith, small)))
      (rw (graft_used x q before, graft_marks_length x q before (omega (arith, small, clear.long)), clear.long) (omega (arith, small)))
      (λ v h. rw (marked v h) (omega arith))

  -- and the row of a read of it picks the nodes of the copy
  pub row_picked : {words' marks' start row : List ℕ} {used : ℕ} {answer : Checked} → doc words' marks' used ≡ copied x q (doc rows marks (nodes t))
      → Blank (tree_limit + tree_limit) start → ReadTables r 1 (doc words' marks' used) start row answer → Picked r x t q row
  unfolding before picks
  row_picked {start = start} {row = row} {answer = answer} e room read =
      record {
        byte = λ k h.
            row_fine r 1 (graft x q before) accepted hung.reads (rw (room.long, graft_used x q before) (omega (arith, small)))
            (rw (e ∙ is_graft) at read) (nodes t + k) (rw (graft_used x q before) (omega arith))
            ∙ rw (copy_selected (graft_copy x q before tree sound (here q hung.under)) r k h, laid_way q hung.under);
      }
