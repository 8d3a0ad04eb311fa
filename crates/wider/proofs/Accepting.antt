-- What is accepted stays accepted where it is made wider: every pattern, and so every read with a delete; an insert where its wider tree is accepted. A verdict needs no more room.
use Prim.Native.Nat.{ℕ, zero, suc, ◌+◌, ◌*◌, ◌/◌, ◌%◌, ◌<◌, ◌≤◌}
use mathlib.Core.Path.{◌≡◌}
use mathlib.Core.List.{List}
use mathlib.Core.Logic.{inl, inr}
use native.Mathlib.Decide.{dec_lt, ℕ_discrete}
use native.Mathlib.Omega.{arith}
use borrow.Author.Tests.{lt-ltb, le-leb}
use lib.ListN.{length, get_or}
use Rattle.tables.specs.Limits.{word_limit, step_limit, tree_limit}
use Rattle.tables.specs.Words.{steps, axis, Bits16}
use Rattle.tables.specs.Checks.{pattern_check, tree_check, Fine}
use Rattle.tables.proofs.Outside.{outside}
use Rattle.tables.proofs.Soundness.{accepted_pattern, accepted_steps, accepted_pairs, pattern_fine, accepted_tree}
use Rattle.conflict.specs.Conflict.{Update, delete, insert}
use Rattle.check_verdict.specs.Order.{needed, room_check, patterns_check, deep_delete_check, deep_insert_check, delete_verdict_check, insert_verdict_check, deep_check, verdict_check}
use Rattle.check_verdict.proofs.Accepting.{read_fine, update_fine, delete_patterns, delete_two, insert_patterns, insert_tree, delete_room, insert_room}
use Rattle.order.specs.Fitting.{Fit, FitUpdate}
use Rattle.wider.specs.Wider.{WiderLabel, WiderAxis, WiderPattern, WiderUpdate, deletes, inserts, Wider, Accepted}
use Rattle.wider.proofs.Selecting.{same-steps, pattern_wider}

-- a word of a wider pattern is the same, 0 or 2
label_bits : {n w : ℕ} → WiderLabel n w → n < word_limit → w < word_limit
label_bits (inl e) h = rw e h
label_bits (inr e) h = omega arith

axis_bits : {n w : ℕ} → WiderAxis n w → n < word_limit → w < word_limit
axis_bits (inl e) h = rw e h
axis_bits (inr e) h = omega (arith, e.1)

module _ {p q : List ℕ} (wider : WiderPattern p q) where
  -- a pattern
  pub check_wider : (limit table : ℕ) → pattern_check p limit table ≡ Fine → pattern_check q limit table ≡ Fine
  check_wider limit table e =
      pattern_fine q limit table (pattern_wider wider (accepted_pattern p limit table e))
      (rw wider.long (accepted_pairs p limit table e))
      (rw wider.long (accepted_steps p limit table e))

  axis_word : Bits16 p → (i : ℕ) → i < steps p → axis q i < word_limit
  axis_word words zero h = rw wider.first (words 0)
  axis_word words (suc i) h = axis_bits (wider.axes i h) (words (2 * suc i))

  -- its words have 16 bits
  pub bits_wider : 2 * steps p ≡ length p → Bits16 p → Bits16 q
  bits_wider whole words i = go (dec_lt i (length q)) (ℕ_discrete (i % 2) 0)
    where
      go : Dec (i < length q) → Dec (i % 2 ≡ 0) → get_or q i 0 < word_limit
      go (no h) d = rw (← outside q i (omega arith)) (omega arith)
      go (yes h) (yes even) =
          let at : i ≡ 2 * (i / 2) = omega arith in
          rw at (axis_word words (i / 2) (omega (arith, wider.long)))
      go (yes h) (no odd) =
          let at : i ≡ 2 * (i / 2) + 1 = omega arith in
          rw at (label_bits (wider.labels (i / 2) (omega (arith, wider.long))) (words (2 * (i / 2) + 1)))

-- accepted patterns, updates and trees are what the laws of conflicts ask for
fit : {p : List ℕ} (table : ℕ) → pattern_check p step_limit table ≡ Fine → Bits16 p → Fit p
fit {p} table e words = record { pattern = accepted_pattern p step_limit table e; labels = λ i. words (2 * i + 1) }

pub fit_read : (r : List ℕ) (u : Update) → Accepted r u → Fit r
fit_read r (delete p) a = fit 1 (read_fine r p (delete_patterns r p a.fine)) a.read_words
fit_read r (insert p x) a = fit 1 (read_fine r p (insert_patterns r p x a.fine)) a.read_words

pub fit_update : (r : List ℕ) (u : Update) → Accepted r u → FitUpdate u
fit_update r (delete p) a = record { fit = fit 2 (update_fine r p (delete_patterns r p a.fine)) a.update_words; two = delete_two r p a.fine }
fit_update r (insert p x) a = record {
  fit = fit 2 (update_fine r p (insert_patterns r p x a.fine)) a.update_words.0;
  tree = accepted_tree x tree_limit 3 (insert_tree r p x a.fine) a.update_words.1;
}

module _ {r s p q : List ℕ} (wider_read : WiderPattern r s) (wider : WiderPattern p q) where
  patterns_wider : patterns_check r p ≡ Fine → patterns_check s q ≡ Fine
  unfolding patterns_check
  patterns_wider e = rw (check_wider wider_read step_limit 1 (read_fine r p e), check_wider wider step_limit 2 (update_fine r p e))

  -- a read and a delete
  pub delete_wider : Accepted r (delete p) → Accepted s (delete q)
  unfolding deep_delete_check
  delete_wider a =
      let e : patterns_check r p ≡ Fine = delete_patterns r p a.fine in
      record {
        read_words = bits_wider wider_read (accepted_pairs r step_limit 1 (read_fine r p e)) a.read_words;
        update_words = bits_wider wider (accepted_pairs p step_limit 2 (update_fine r p e)) a.update_words;
        fine = rw (patterns_wider e, lt-ltb 1 (steps q) (rw (same-steps wider) (delete_two r p a.fine)));
      }

  -- a read and an insert
  pub insert_wider : {x y : List ℕ} → Accepted r (insert p x) → Bits16 y → tree_check y tree_limit 3 ≡ Fine → Accepted s (insert q y)
  unfolding deep_insert_check
  insert_wider {x} a words tree =
      let e : patterns_check r p ≡ Fine = insert_patterns r p x a.fine in
      record {
        read_words = bits_wider wider_read (accepted_pairs r step_limit 1 (read_fine r p e)) a.read_words;
        update_words = (bits_wider wider (accepted_pairs p step_limit 2 (update_fine r p e)) a.update_words.0, words);
        fine = rw (patterns_wider e, tree);
      }

  -- the longest witness has as many words
  same_room : (m n : ℕ) → needed r p ≤ m → m ≤ n → room_check s q n ≡ Fine
  unfolding room_check
  same_room m n h k = rw (le-leb (needed s q) n (rw (same-steps wider_read, same-steps wider) (omega arith)))

-- so a verdict on the wider pair has room where the one on the narrow pair had it
pub room_wider : {r s : List ℕ} {u v : Update} → Wider r u s v → Accepted s v → (m n : ℕ) → verdict_check r u m ≡ Fine → m ≤ n → verdict_check s v n ≡ Fine
unfolding delete_verdict_check insert_verdict_check
room_wider {r} {s} {u} {v} w a m n e h = go u v w.update e a.fine
  where
    go : (u v : Update) → WiderUpdate u v → verdict_check r u m ≡ Fine → deep_check s v ≡ Fine → verdict_check s v n ≡ Fine
    go (delete p) (delete q) (deletes wider) e fine = rw (fine, same_room w.read wider m n (delete_room r p m e) h)
    go (insert p x) (insert q y) (inserts wider more) e fine = rw (fine, same_room w.read wider m n (insert_room r p m x e) h)
    go (delete p) (insert q y) x6 e fine = elim x6 [ ]
    go (insert p x) (delete q) x6 e fine = elim x6 [ ]
