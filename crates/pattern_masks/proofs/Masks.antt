-- A table of masks, and the steps that agree with a label by it.
use Prim.Native.Nat.{ℕ, ◌+◌, ◌/◌, ◌%◌, ◌<◌}
use mathlib.Core.Path.{◌≡◌, refl, ◌∙◌}
use mathlib.Core.Bool.{Bool, true, false, ◌&&◌, ◌||◌, and-false}
use mathlib.Core.List.{List}
use native.Mathlib.Decide.{ℕ_discrete}
use native.Mathlib.Omega.{arith}
use lib.Dec.{eqb, ltb}
use lib.ListN.{get_or, replicate, length-replicate, get_or-replicate}
use borrow.Author.Tests.{eq-eqb, ne_eqb, lt-ltb}
use Rattle.tables.specs.Limits.{word_limit}
use Rattle.tables.specs.Words.{steps, label}
use Rattle.selection.specs.Ways.{takes}
use Rattle.pattern_set.specs.Sets.{bit, Word}
use Rattle.pattern_set.proofs.Words.{first_word, first_bit}
use Rattle.pattern_masks.specs.Masks.{byte_of, slots, wild, has_byte, named, agrees, shared, Noted, Table}
use Rattle.pattern_masks.proofs.Passing.{whether}

-- a table of n words w, once the names are put in
module _ (high : Bool) (p : List ℕ) (from w n : ℕ) (wilds : Word (wild p) from w) {t : List ℕ} (noted : Noted high p from (replicate n w) t) where
  new_slot : (k : ℕ) → k < n → Word (λ i. wild p i || named high p k i) from (get_or t k 0)
  new_slot k h =
      record {
        at =
            λ i l. first_bit (noted.slot k (rw (length-replicate n w) h)) i l
            ∙ rw (get_or-replicate n k w 0 h, wilds.at i l);
      }

-- a table of wildcards, once the names are put in, is a table of masks
pub table_new : (high : Bool) (p : List ℕ) (from w : ℕ) → Word (wild p) from w → {t : List ℕ} → Noted high p from (replicate slots w) t → Table high p from t
table_new high p from w wilds noted = record { slot = new_slot high p from w slots wilds noted }

-- two labels are the same exactly if both their bytes are
other_byte : (a l : ℕ) → (a ≡ l → ⊥) → (eqb (byte_of false a) (byte_of false l) && eqb (byte_of true a) (byte_of true l)) ≡ false
other_byte a l n =
    whether (ℕ_discrete (byte_of false a) (byte_of false l))
    (λ e. rw (ne_eqb (byte_of true a) (byte_of true l) (λ q. n (omega arith)), and-false (eqb (byte_of false a) (byte_of false l))))
    (λ m. rw (ne_eqb (byte_of false a) (byte_of false l) m))

same_bytes : (a l : ℕ) → (eqb (byte_of false a) (byte_of false l) && eqb (byte_of true a) (byte_of true l)) ≡ eqb a l
same_bytes a l =
    whether (ℕ_discrete a l)
    (λ e. rw (e, eq-eqb (byte_of false l) (byte_of false l) refl, eq-eqb (byte_of true l) (byte_of true l) refl, eq-eqb l l refl))
    (λ n. rw (ne_eqb a l n) (other_byte a l n))

-- a step whose label is a takes l exactly if it is in the slots of both bytes of l
both_bytes : (a l : ℕ) → ((eqb a 0 || has_byte false a (byte_of false l)) && (eqb a 0 || has_byte true a (byte_of true l))) ≡ (eqb a 0 || eqb a l)
unfolding has_byte
both_bytes a l =
    whether (ℕ_discrete a 0)
    (λ e. rw (eq-eqb a 0 e))
    (λ n. rw (ne_eqb a 0 n, lt-ltb 0 a (omega arith)) (same_bytes a l))

-- the same of a step that may not be there
module _ (any low high takes : Bool) (e : ((any || low) && (any || high)) ≡ takes) where
  if_there : (there : Bool) → (((there && any) || (there && low)) && ((there && any) || (there && high))) ≡ (there && takes)
  if_there true = e
  if_there false = refl

bytes_agree : (p : List ℕ) (l i : ℕ) → ((wild p i || named false p (byte_of false l) i) && (wild p i || named true p (byte_of true l) i)) ≡ agrees p l i
unfolding wild named agrees
bytes_agree p l i =
    if_there (eqb (label p i) 0) (has_byte false (label p i) (byte_of false l)) (has_byte true (label p i) (byte_of true l)) (takes p i l)
    (both_bytes (label p i) l)
    (ltb i (steps p))

-- what two slots have in common
module _ (low high : List ℕ) (l : ℕ) {a b r : ℕ} (w : Word (λ i. bit a i && bit b i) 0 r) where
  pub slots-shared : a ≡ get_or low (l % 256) 0 → b ≡ get_or high (l / 256) 0 → Word (shared low high l) 0 r
  unfolding shared
  slots-shared e f = first_word (λ i h. first_bit w i h ∙ rw (e, f))

-- what a label's two slots have in common is what agrees with it
pub table_agrees : (p : List ℕ) (from : ℕ) {low high : List ℕ} → Table false p from low → Table true p from high → (l : ℕ) → l < word_limit → {r : ℕ} → Word (shared low high l) 0 r → Word (agrees p l) from r
unfolding shared
table_agrees p from low high l small w =
    record {
      at =
          λ i h. first_bit w i h
          ∙ rw ((low.slot (l % 256) (omega arith)).at i h, (high.slot (l / 256) (omega arith)).at i h)
          (bytes_agree p l (from + i));
    }

-- a byte of a label by its branch
module _ (l : ℕ) {high : Bool} where
  pub high_byte : high ≡ true → l / 256 ≡ byte_of high l
  high_byte e = rw e

  pub low_byte : high ≡ false → l % 256 ≡ byte_of high l
  low_byte e = rw e
