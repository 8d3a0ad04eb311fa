-- One word after another: what is carried on, and what the row shows.
use Prim.Native.Nat.{ℕ, ◌+◌, ◌≤◌}
use mathlib.Core.Path.{◌≡◌, refl, ◌∙◌, ap}
use mathlib.Core.Bool.{Bool, true, false, cond}
use mathlib.Core.List.{List, ◌++◌}
use lib.Dec.{eqb}
use lib.ListN.{length, drop, get_or, replicate, get_or-replicate}
use native.Mathlib.Nat.{lt_of_lt_of_le}
use mir.Val.{bool_byte}
use Rattle.tables.specs.Limits.{used_limit}
use Rattle.tables.specs.Words.{steps}
use Rattle.tables.specs.Documents.{doc}
use Rattle.selection.specs.Lists.{tab}
use Rattle.selection.proofs.Lists.{tab_ext}
use Rattle.selection.proofs.Filling.{row_new, row_long, row_twice, row_again}
use Rattle.pattern_set.specs.Sets.{bit, moved, word_steps, Word}
use Rattle.pattern_set.proofs.Many.{word_carry}
use Rattle.pattern_masks.specs.Masks.{slots, wild, Noted}
use Rattle.pattern_masks.proofs.Masks.{table_new}
use Rattle.doc_read.specs.Wanted.{stands_at, wanted_row}
use Rattle.doc_read.specs.Standing.{shown_byte, shown_row, Held, Carried, Readable, Carrying, Passable, Passed}
use Rattle.doc_read.proofs.Finding.{stood_none, shown_all}

-- the word's masks
pub passable : {p : List ℕ} {from : ℕ} {wanted t marks : List ℕ} {used : ℕ} {carry sets row : List ℕ} → Carrying p from wanted t marks used carry sets row → {w : ℕ} {low high : List ℕ} → Word (wild p) from w → Noted false p from (replicate slots w) low → Noted true p from (replicate slots w) high → Passable p from wanted low high t marks used carry sets row
passable {p} {from} carrying {w} wilds lows highs =
    record {
      carrying = carrying;
      lows = table_new false p from w wilds lows;
      highs = table_new true p from w wilds highs;
    }

byte_is : (b : Bool) → eqb (bool_byte b) 1 ≡ b
byte_is true = refl
byte_is false = refl

module _ (p t : List ℕ) (used : ℕ) where
  -- nothing is carried into the first word
  pub carried_first : used ≤ used_limit → Carried p t 0 used (replicate used_limit 0)
  unfolding moved
  carried_first h = record { at = λ u l. rw (get_or-replicate {A = ℕ} used_limit u 0 0 (lt_of_lt_of_le l h)) }

  -- into the next word the last step of this one
  pub carried-next : (from : ℕ) {sets carry : List ℕ} (old : List ℕ) → Held p t from used sets → carry ≡ tab (λ v. bool_byte (bit (get_or sets v 0) 63)) used ++ drop used old → Carried p t (from + word_steps) used carry
  carried-next from {sets} {carry} old held e =
      record {
        at =
            λ u l. ap (λ (b : ℕ). eqb b 1) (row_new (λ v. bool_byte (bit (get_or sets v 0) 63)) old used e u l)
            ∙ byte_is (bit (get_or sets u 0) 63)
            ∙ word_carry (held.set u l) false;
      }

-- a row as long as one that can be read into
readable_long : {p t marks : List ℕ} {used : ℕ} {old row : List ℕ} → Readable p t marks used old → length row ≡ length old → Readable p t marks used row
readable_long able e =
    record {
      some = able.some;
      few = able.few;
      within = able.within;
      words = able.words;
      marked = able.marked;
      long = rw e able.long;
      parents = able.parents;
    }

-- a row whose bytes are cleared can be read into
pub clear_readable : {p t marks : List ℕ} (used : ℕ) (old : List ℕ) {start : List ℕ} → start ≡ tab (λ v. 0) used ++ drop used old → Readable p t marks used old → Readable p t marks used start
clear_readable used old e able = readable_long able (row_long (λ v. 0) old used e able.long)

module _ (p wanted t marks : List ℕ) (used : ℕ) (old : List ℕ) {start : List ℕ} (e : start ≡ tab (λ v. 0) used ++ drop used old) where
  -- it shows no step
  pub clear_shown : start ≡ shown_row p wanted (doc t marks used) 0 start
  clear_shown =
      row_again (λ v. 0) old used e
      ∙ ap (λ (first : List ℕ). first ++ drop used start)
      (tab_ext (λ v. 0) (shown_byte p wanted (doc t marks used) 0) used (λ v l. stood_none p wanted (doc t marks used) v))

  -- behind the used nodes it is as it was
  pub clear_row : {row : List ℕ} → row ≡ wanted_row p wanted (doc t marks used) start → row ≡ wanted_row p wanted (doc t marks used) old
  unfolding wanted_row
  clear_row = row_twice (λ v. 0) old used e (λ v. cond (stands_at p wanted (doc t marks used) v) 1 0)

module _ (p wanted t marks : List ℕ) (used : ℕ) (old : List ℕ) where
  -- the row keeps its length
  pub wanted_long : {row : List ℕ} → row ≡ wanted_row p wanted (doc t marks used) old → used ≤ length old → length row ≡ length old
  unfolding wanted_row
  wanted_long e = row_long (λ v. cond (stands_at p wanted (doc t marks used) v) 1 0) old used e

  module _ (from : ℕ) {row : List ℕ} (e : row ≡ shown_row p wanted (doc t marks used) from old) where
    -- what the word from `from` on asks
    pub carrying : Readable p t marks used old → {carry sets : List ℕ} → Carried p t from used carry → length carry ≡ used_limit → length sets ≡ used_limit → Carrying p from wanted t marks used carry sets row
    carrying able carried many room =
        record {
          readable = readable_long able (row_long (shown_byte p wanted (doc t marks used) from) old used e able.long);
          carried = carried;
          carries = rw many able.within;
          room = rw room able.within;
          shown = row_new (shown_byte p wanted (doc t marks used) from) old used e;
        }

    module _ {sets after : List ℕ} (passed : Passed p from wanted t marks used row sets after) where
      -- behind it the row shows one word more
      pub shown_next : after ≡ shown_row p wanted (doc t marks used) (from + word_steps) old
      shown_next =
          row_twice (shown_byte p wanted (doc t marks used) from) old used e
          (shown_byte p wanted (doc t marks used) (from + word_steps))
          passed.row

      -- and behind the last word every wanted step
      pub shown_last : steps p ≤ from + word_steps → after ≡ wanted_row p wanted (doc t marks used) old
      shown_last h = shown_next ∙ shown_all p wanted (doc t marks used) (from + word_steps) h old
