-- Laws of scans and of the longest start that some right text has, whatever a right text is.
use Prim.Native.Nat.{ℕ, zero, suc, ◌<◌, ◌≤◌, zero-le, suc-le-suc}
use mathlib.Core.Path.{◌≡◌, refl, sym, ap, ◌∙◌}
use mathlib.Core.Bool.{Bool, true, false, cond, false≢true}
use mathlib.Core.List.{List, [], ◌∷◌, ◌++◌, append_assoc}
use native.Mathlib.Decide.{dec_lt}
use native.Mathlib.Nat.{le_of_suc-le-suc, not-suc-le-zero}
use native.Mathlib.Omega.{arith}
use lib.ListN.{length, get_or, take, drop, take-append-drop}
use lib.Seq.{take-take}
use Rattle.text_parts.specs.Starts.{Begins, Longest}
use Rattle.text_parts.specs.Scans.{scanned, lasting}

-- the scan of two texts, one behind the other
pub scanned-append : {S : Type 0} (next : S → ℕ → S) (q : S) (a b : List ℕ) → scanned next q (a ++ b) ≡ scanned next (scanned next q a) b
unfolding scanned
scanned-append next q [] b = refl
scanned-append next q (c ∷ a) b = scanned-append next (next q c) a b

-- there is one longest start
module _ (Right : List ℕ → Type 0) where
  -- a right text that begins with a text begins with each start of it
  pub begins_front : (a c : List ℕ) → Begins Right (a ++ c) → Begins Right a
  begins_front a c b = record { rest = c ++ b.rest; right = rw (append_assoc a c b.rest) at b.right }

  begins_less : (s : List ℕ) (m n : ℕ) → m ≤ n → Begins Right (take n s) → Begins Right (take m s)
  begins_less s m n h b =
      let split : take m s ++ drop m (take n s) ≡ take n s = rw (take-take m n s h) at (take-append-drop m (take n s)) in
      begins_front (take m s) (drop m (take n s)) (rw split b)

  pub longest_one : (s : List ℕ) (m n : ℕ) → Longest Right s m → Longest Right s n → m ≡ n
  longest_one s m n a b = go (dec_lt m n) (dec_lt n m)
    where
      go : Dec (m < n) → Dec (n < m) → m ≡ n
      go (yes h) k = absurd (a.no_more (omega (arith, b.within)) (begins_less s (suc m) n h b.begins))
      go (no h) (yes k) = absurd (b.no_more (omega (arith, a.within)) (begins_less s (suc n) m k a.begins))
      go (no h) (no k) = omega arith

module _ {S : Type 0} (next : S → ℕ → S) (on : S → Bool) where
  -- the scan goes on for a byte more, or stops there
  lasting-next : (P : ℕ → Type 0) (q : S) (c : ℕ) (s : List ℕ)
      → (on (next q c) ≡ true → P (suc (lasting next on (next q c) s))) → (on (next q c) ≡ false → P 0) → P (lasting next on q (c ∷ s))
  unfolding lasting
  lasting-next P q c s goes stops = go (on (next q c)) refl
    where
      go : (b : Bool) → on (next q c) ≡ b → P (cond b (suc (lasting next on (next q c) s)) 0)
      go true e = goes e
      go false e = stops e

  pub lasting-within : (q : S) (s : List ℕ) → lasting next on q s ≤ length s
  unfolding lasting
  lasting-within q [] = zero-le
  lasting-within q (c ∷ s) = lasting-next (λ n. n ≤ suc (length s)) q c s (λ h. suc-le-suc (lasting-within (next q c) s)) (λ h. zero-le)

  -- it is on for so many bytes, and off with one more
  lasting-on : (q : S) (s : List ℕ) → on q ≡ true → on (scanned next q (take (lasting next on q s) s)) ≡ true
  unfolding lasting scanned
  lasting-on q [] h = h
  lasting-on q (c ∷ s) h =
      lasting-next (λ n. on (scanned next q (take n (c ∷ s))) ≡ true) q c s (lasting-on (next q c) s) (λ l. h)

  lasting_off : (q : S) (s : List ℕ) → lasting next on q s < length s → on (scanned next q (take (suc (lasting next on q s)) s)) ≡ false
  unfolding scanned
  lasting_off q [] = λ h. absurd (not-suc-le-zero h)
  lasting_off q (c ∷ s) =
      lasting-next (λ n. n < suc (length s) → on (scanned next q (take (suc n) (c ∷ s))) ≡ false) q c s
      (λ h l. lasting_off (next q c) s (le_of_suc-le-suc l))
      (λ h l. h)

  -- where it is on exactly behind what a right text begins with, it goes on for the longest start
  module _ (Right : List ℕ → Type 0) (q0 : S) (here : on q0 ≡ true)
      (on_begins : (s : List ℕ) → on (scanned next q0 s) ≡ true → Begins Right s)
      (begins_on : (s : List ℕ) → Begins Right s → on (scanned next q0 s) ≡ true) where
    pub longest_start : (s : List ℕ) → Longest Right s (lasting next on q0 s)
    longest_start s =
        record {
          within = lasting-within q0 s;
          begins = on_begins (take (lasting next on q0 s) s) (lasting-on q0 s here);
          no_more = λ h b. false≢true (sym (lasting_off q0 s h) ∙ begins_on (take (suc (lasting next on q0 s)) s) b);
        }

  -- where no byte turns it on again
  module _ (stays : (q : S) (c : ℕ) → on q ≡ false → on (next q c) ≡ false) where
    pub off_stays : (q : S) (s : List ℕ) → on q ≡ false → on (scanned next q s) ≡ false
    unfolding scanned
    off_stays q [] e = e
    off_stays q (c ∷ s) e = off_stays (next q c) s (stays q c e)

    -- a scan that is on behind the last byte goes on for all
    pub lasting-whole : (q : S) (s : List ℕ) → on (scanned next q s) ≡ true → lasting next on q s ≡ length s
    unfolding lasting scanned
    lasting-whole q [] e = refl
    lasting-whole q (c ∷ s) e =
        lasting-next (λ n. n ≡ suc (length s)) q c s
        (λ h. ap suc (lasting-whole (next q c) s e))
        (λ h. absurd (false≢true (sym (off_stays (next q c) s h) ∙ e)))

    -- a scan that is on behind i bytes and off behind the next goes on for i
    pub lasting_at : (q : S) (s : List ℕ) (i : ℕ) → i < length s
        → on (scanned next q (take i s)) ≡ true → on (next (scanned next q (take i s)) (get_or s i 0)) ≡ false → lasting next on q s ≡ i
    unfolding lasting scanned
    lasting_at q [] i h e f = absurd (not-suc-le-zero h)
    lasting_at q (c ∷ s) zero h e f = rw f
    lasting_at q (c ∷ s) (suc i) h e f =
        lasting-next (λ n. n ≡ suc i) q c s
        (λ k. ap suc (lasting_at (next q c) s i (le_of_suc-le-suc h) e f))
        (λ k. absurd (false≢true (sym (off_stays (next q c) (take i s) k) ∙ e)))
