-- The set of each node by the set of its parent, one word of it.
use Prim.Native.Nat.{ℕ, zero, suc, ◌+◌, ◌<◌}
use mathlib.Core.Path.{◌≡◌, refl, sym, ◌∙◌}
use mathlib.Core.Bool.{Bool, true, false, ◌&&◌, ◌||◌, and-false}
use mathlib.Core.List.{List, [], ◌∷◌}
use native.Mathlib.Omega.{arith}
use lib.Dec.{eqb, ltb}
use borrow.Author.Tests.{ltb-true, lt-ltb, ne_eqb}
use Rattle.tables.specs.Words.{steps, parent, tag}
use Rattle.selection.specs.Ways.{empty, up, runs, run, takes, stays}
use Rattle.selection.proofs.Up.{Falls, up_top, up_node, some_up}
use Rattle.pattern_set.specs.Sets.{bit, moved, next_set, Word}
use Rattle.pattern_set.proofs.Bits.{zero_bit}
use Rattle.pattern_set.proofs.Many.{word_next-set}
use Rattle.pattern_masks.specs.Masks.{agrees}
use Rattle.doc_read.specs.Standing.{stands_on, standing, set_above, carried_above, enters, Held, Carried}

-- a step that is not there lands nowhere and stays nowhere
there : (b x s r m n : Bool) → (b ≡ true → m ≡ n) → (((b && x) && m) || (s && (b && r))) ≡ (b && ((x && n) || (s && r)))
there true x s r m n e = rw (e refl)
there false x s r m n e = rw (and-false s)

module _ (p : List ℕ) where
  -- one label more on a way
  pub run_on : (l : ℕ) (w : List ℕ) (first : Bool) → first ≡ empty w → (i : ℕ) → next_set (agrees p l) (stays p false) first (stands_on p w) i ≡ stands_on p (l ∷ w) i
  unfolding next_set moved agrees stands_on run runs
  run_on l w first e zero = there (ltb 0 (steps p)) (takes p 0 l) (stays p false 0) (runs (takes p) (stays p false) 0 w) first (empty w) (λ _. e)
  run_on l w first e (suc i) =
      there (ltb (suc i) (steps p)) (takes p (suc i) l) (stays p false (suc i)) (runs (takes p) (stays p false) (suc i) w)
      (ltb i (steps p) && runs (takes p) (stays p false) i w) (runs (takes p) (stays p false) i w)
      (λ b. rw (lt-ltb i (steps p) (omega (arith, ltb-true (suc i) (steps p) b))))

  -- nothing stands on no way
  none_stands : (i : ℕ) → stands_on p [] i ≡ false
  unfolding stands_on run runs
  none_stands i = and-false (ltb i (steps p))

-- the way above a node
above_way : List ℕ → ℕ → List ℕ
above_way t zero = []
above_way t (suc v) = up t (parent t (suc v))

first_way : (t : List ℕ) (v : ℕ) → eqb v 0 ≡ empty (above_way t v)
unfolding above_way
first_way t zero = refl
first_way t (suc v) = rw (ne_eqb (suc v) 0 (λ e. omega arith), some_up t (parent t (suc v)))

module _ (p t : List ℕ) (n : ℕ) (falls : Falls t n) where
  way_on : (v : ℕ) → v < n → up t v ≡ tag t v ∷ above_way t v
  unfolding above_way
  way_on zero h = up_top t
  way_on (suc v) h = up_node t n falls (suc v) (omega arith) h

  module _ (from : ℕ) where
    above_set : (sets : List ℕ) (v : ℕ) → v < n → Held p t from v sets → Word (stands_on p (above_way t v)) from (set_above t sets v)
    unfolding set_above above_way
    above_set sets zero h held = record { at = λ i k. zero_bit i ∙ sym (none_stands p (from + i)) }
    above_set sets (suc v) h held = held.set (parent t (suc v)) (falls (suc v) (omega arith) h)

  -- what moves into a word is what stood above at the step before it
  above_carry : (from : ℕ) (carry : List ℕ) → Carried p t from n carry → (v : ℕ) → v < n → enters from t carry v ≡ moved (eqb v 0) (stands_on p (above_way t v)) from
  unfolding enters carried_above moved above_way
  above_carry zero carry carried zero h = refl
  above_carry zero carry carried (suc v) h = rw (ne_eqb (suc v) 0 (λ e. omega arith))
  above_carry (suc from) carry carried zero h = rw (ne_eqb (suc from) 0 (λ e. omega arith), none_stands p from)
  above_carry (suc from) carry carried (suc v) h =
      let u : parent t (suc v) < n = omega (arith, falls (suc v) (omega arith) h) in
      rw (lt-ltb 0 (suc from) (omega arith)) (carried.at (parent t (suc v)) u)

  -- the word that is made at a node says what stands there
  pub node_set : {from : ℕ} {carry sets : List ℕ} → Carried p t from n carry → (v : ℕ) → v < n → Held p t from v sets → {g s r : ℕ} → Word (agrees p (tag t v)) from g → Word (stays p false) from s → Word (next_set (bit g) (bit s) (enters from t carry v) (bit (set_above t sets v))) 0 r → Word (standing p t v) from r
  node_set {from} {carry} {sets} carried v h held agree stay w =
      let made : Word (next_set (agrees p (tag t v)) (stays p false) (eqb v 0) (stands_on p (above_way t v))) from _ =
      word_next-set (agrees p (tag t v)) (stays p false) (stands_on p (above_way t v)) from
      agree.at stay.at (above_set from sets v h held).at (eqb v 0) (enters from t carry v) (above_carry from carry carried v h) w in
      record { at = λ i k. made.at i k ∙ rw (way_on v h) (run_on p (tag t v) (above_way t v) (eqb v 0) (first_way t v) (from + i)) }
