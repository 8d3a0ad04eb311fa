-- Steps put into the slots of a table.
use Prim.Native.Nat.{ℕ, ◌+◌, ◌-◌, ◌^◌, ◌<◌, ◌≤◌, min}
use mathlib.Core.Path.{◌≡◌, refl, sym, ◌∙◌}
use mathlib.Core.Bool.{Bool, false, ◌&&◌, ◌||◌, or-false, or_assoc}
use mathlib.Core.List.{List}
use native.Mathlib.Decide.{ℕ_discrete}
use native.Mathlib.Omega.{arith}
use lib.Dec.{eqb}
use lib.ListN.{length, get_or, set, length-set}
use lib.Seq.{get_or-set_same, get_or-set_other, ext_get_or}
use borrow.Author.Tests.{eq-eqb, ne_eqb, lt-ltb, le-ltb}
use Rattle.tables.specs.Words.{steps, label}
use Rattle.pattern_set.specs.Sets.{bit, word_steps, Word}
use Rattle.pattern_set.proofs.Words.{first_word, first_bit}
use Rattle.pattern_set.proofs.Many.{word_one}
use Rattle.pattern_masks.specs.Masks.{byte_of, has_byte, named, Added, Noted}
use Rattle.pattern_masks.proofs.Passing.{whether, Below, passed, passed_none, passed_more, passed_all}

-- nothing new
added_none : {new : ℕ → ℕ → Bool} (t : List ℕ) → ((k : ℕ) → k < length t → (i : ℕ) → new k i ≡ false) → Added new t t
added_none t e = record { long = refl; slot = λ k h. first_word (λ i l. rw (e k h i, or-false (bit (get_or t k 0) i))) }

-- something new, and then more
added_both : {f g h : ℕ → ℕ → Bool} {a b c : List ℕ} → ((k i : ℕ) → (f k i || g k i) ≡ h k i) → Added f a b → Added g b c → Added h a c
added_both {f} {g} {a = a} e p q =
    record {
      long = q.long ∙ p.long;
      slot =
          λ k l. first_word (λ i m. first_bit (q.slot k (rw p.long l)) i m
          ∙ rw (first_bit (p.slot k l) i m, or_assoc (bit (get_or a k 0) i) (f k i) (g k i), e k i));
    }

-- of numbers of 64 bits two tables with the same new steps are one
pub added_one : {new : ℕ → ℕ → Bool} {before a b : List ℕ} → Added new before a → Added new before b → ((k : ℕ) → get_or a k 0 < 2 ^ word_steps) → ((k : ℕ) → get_or b k 0 < 2 ^ word_steps) → a ≡ b
added_one {a = a} {b} p q small less =
    ext_get_or 0 a b (p.long ∙ sym q.long)
    (λ k h. word_one (p.slot k (rw p.long at h)) (q.slot k (rw p.long at h)) (small k) (less k))

-- step i put into slot k
module _ (t : List ℕ) (k i : ℕ) where
  pub note_out : length t ≤ k → Added (λ j b. eqb k j && eqb b i) t t
  note_out h = added_none t (λ j l b. rw (ne_eqb k j (λ e. omega arith)))

  module _ {r : ℕ} (h : k < length t) (w : Word (λ b. bit (get_or t k 0) b || eqb b i) 0 r) where
    other_slot : (j : ℕ) → (k ≡ j → ⊥) → Word (λ b. bit (get_or t j 0) b || (eqb k j && eqb b i)) 0 (get_or (set t k r) j 0)
    other_slot j n = rw (get_or-set_other t k j r 0 (λ e. n (sym e)), ne_eqb k j n) (first_word (λ b l. sym (or-false (bit (get_or t j 0) b))))

    own-slot : (j : ℕ) → k ≡ j → Word (λ b. bit (get_or t j 0) b || (eqb k j && eqb b i)) 0 (get_or (set t k r) j 0)
    own-slot j e = rw (← e, get_or-set_same t k r 0 h, eq-eqb k k refl) w

    pub note_in : Added (λ j b. eqb k j && eqb b i) t (set t k r)
    note_in =
        record {
          long = length-set t k r;
          slot = λ j l. whether (ℕ_discrete k j) (own-slot j) (other_slot j);
        }

-- step i put into the slot of a byte of its label
module _ (high : Bool) (l i : ℕ) where
  pub note_wildcard : l ≡ 0 → (t : List ℕ) → Added (λ j b. has_byte high l j && eqb b i) t t
  unfolding has_byte
  note_wildcard e t = added_none t (λ j h b. rw e)

  pub note_name : (l ≡ 0 → ⊥) → {k : ℕ} {a b : List ℕ} → k ≡ byte_of high l → Added (λ j s. eqb k j && eqb s i) a b → Added (λ j s. has_byte high l j && eqb s i) a b
  unfolding has_byte
  note_name n e w =
      record {
        long = w.long;
        slot = λ j h. first_word (λ s m. first_bit (w.slot j h) s m ∙ rw (lt-ltb 0 l (omega arith), e));
      }

-- the first i steps of a word are put into their slots
abbrev pub Begun : Bool → List ℕ → ℕ → ℕ → List ℕ → List ℕ → Type 0
Begun high p from i before after = Added (λ k. passed (named high p k) from i) before after

module _ (high : Bool) (p : List ℕ) (from : ℕ) where
  named_there : (k i : ℕ) → i < steps p → has_byte high (label p i) k ≡ named high p k i
  unfolding named
  named_there k i h = rw (lt-ltb i (steps p) h)

  named_below : (k : ℕ) → Below (steps p) (named high p k)
  unfolding named
  named_below k i h = rw (le-ltb i (steps p) h)

  pub slots_start : (t : List ℕ) → Begun high p from 0 t t
  slots_start t = added_none t (λ k h j. passed_none (named high p k) from j)

  module _ (i : ℕ) {a b : List ℕ} (w : Begun high p from i a b) where
    pub slots_more : {l : ℕ} {c : List ℕ} → l ≡ label p (from + i) → from + i < steps p → Added (λ k j. has_byte high l k && eqb j i) b c → Begun high p from (i + 1) a c
    slots_more e h more =
        added_both (λ k j. rw (e, named_there k (from + i) h) (passed_more (named high p k) from i j)) w more

    pub slots_end : {m : ℕ} → i ≤ m → m ≤ i → m ≡ min word_steps (steps p - from) → Noted high p from a b
    slots_end h l e =
        record {
          long = w.long;
          slot =
              λ k r. first_word (λ j m. first_bit (w.slot k r) j m
              ∙ rw (passed_all (named high p k) from (steps p) {m = i} (omega arith) (named_below k) j m));
        }
