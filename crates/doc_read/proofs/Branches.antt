-- The branches of the code, held against those of the definitions.
use Prim.Native.Nat.{ℕ, zero, suc, pred, ◌-◌, ◌/◌, ◌<◌, ◌≤◌}
use mathlib.Core.Path.{◌≡◌, refl}
use mathlib.Core.Bool.{Bool, false}
use mathlib.Core.List.{List}
use native.Mathlib.Decide.{ℕ_discrete}
use native.Mathlib.Numerals.{sub-one}
use native.Mathlib.Omega.{arith}
use lib.Dec.{eqb}
use lib.ListN.{length, get_or, set, replicate, length-replicate, get_or-replicate}
use lib.Seq.{get_or-set_same, get_or-set_other}
use borrow.Author.Tests.{eq-eqb, ne_eqb, lt-ltb, le-ltb}
use Rattle.tables.specs.Limits.{step_limit}
use Rattle.tables.specs.Words.{steps, parent}
use Rattle.selection.specs.Ways.{last}
use Rattle.pattern_set.specs.Sets.{bit, next_set, Word}
use Rattle.pattern_masks.proofs.Passing.{whether, Below}
use Rattle.doc_read.specs.Wanted.{wants}
use Rattle.doc_read.specs.Standing.{set_above, carried_above, enters, asked, LastWanted, Placed}

-- the set of the parent: that of the node before, or another before it
module _ (t sets : List ℕ) (v : ℕ) {near u : ℕ} (some : 0 < v) (placed : Placed t v sets near) (e : u ≡ parent t v) where
  pub above_less : u < v
  above_less = rw e (placed.above some)

  pub above_near : u ≡ v - 1 → near ≡ get_or sets (parent t v) 0
  above_near q =
      let same : pred v ≡ parent t v = omega arith in
      rw same at (placed.near some)

  pub above_other : {r : ℕ} → r ≡ get_or sets u 0 → r ≡ get_or sets (parent t v) 0
  above_other q = rw e at q

-- below the root the parent is before the node
pub above_parent : (t sets : List ℕ) (v : ℕ) {near : ℕ} → (v ≡ 0 → ⊥) → Placed t v sets near → (carries : ℕ) → v < carries → (v < length t / 2) × (parent t v < v) × (v < carries)
above_parent t sets v n placed carries h = (placed.node, placed.above (omega arith), h)

-- its carry
module _ (from : ℕ) (t carry : List ℕ) (v : ℕ) where
  pub carried_none : from ≡ 0 → false ≡ carried_above from t carry v
  unfolding carried_above
  carried_none z = rw z

  pub carried-parent : (from ≡ 0 → ⊥) → {u b : ℕ} → u ≡ parent t v → b ≡ get_or carry u 0 → eqb b 1 ≡ carried_above from t carry v
  unfolding carried_above
  carried-parent n e q = rw (lt-ltb 0 from (omega arith), q, e)

above_under : (t sets : List ℕ) (v : ℕ) → (v ≡ 0 → ⊥) → set_above t sets v ≡ get_or sets (parent t v) 0
unfolding set_above
above_under t sets zero n = absurd (n refl)
above_under t sets (suc v) n = refl

enters_under : (from : ℕ) (t carry : List ℕ) (v : ℕ) → (v ≡ 0 → ⊥) → enters from t carry v ≡ carried_above from t carry v
unfolding enters
enters_under from t carry zero n = absurd (n refl)
enters_under from t carry (suc v) n = refl

-- the set of a node, on the root and below it
module _ (from : ℕ) (t carry sets : List ℕ) (v g s : ℕ) {r : ℕ} where
  pub set-root : v ≡ 0 → Word (next_set (bit g) (bit s) (eqb from 0) (bit 0)) 0 r → Word (next_set (bit g) (bit s) (enters from t carry v) (bit (set_above t sets v))) 0 r
  unfolding set_above enters
  set-root z w = rw z w

  pub set_under : (v ≡ 0 → ⊥) → {a : ℕ} {b : Bool} → b ≡ carried_above from t carry v → a ≡ get_or sets (parent t v) 0 → Word (next_set (bit g) (bit s) b (bit a)) 0 r → Word (next_set (bit g) (bit s) (enters from t carry v) (bit (set_above t sets v))) 0 r
  set_under n q e w = rw (enters_under from t carry v n, above_under t sets v n) (rw (q, e) at w)

-- the wanted steps are steps of the pattern
module _ (p wanted : List ℕ) where
  pub asked_below : Below (steps p) (asked p wanted)
  unfolding asked
  asked_below i h = rw (le-ltb i (steps p) h)

  pub asked_there : (i : ℕ) {b : ℕ} → b ≡ get_or wanted i 0 → i < steps p → eqb b 1 ≡ asked p wanted i
  unfolding asked wants
  asked_there i e h = rw (lt-ltb i (steps p) h, e)

-- the bytes of a read: 0, but for the last step
module _ (p : List ℕ) where
  pub wants_none : steps p ≡ 0 → (wanted : List ℕ) → LastWanted p wanted
  wants_none z wanted = record { only = λ few i h. absurd (omega arith) }

  pub wants_many : step_limit < steps p → (wanted : List ℕ) → LastWanted p wanted
  wants_many m wanted = record { only = λ few i h. absurd (omega arith) }

  module _ (n : ℕ) (e : n ≡ steps p) (some : n ≡ 0 → ⊥) where
    wants-same : steps p ≤ step_limit → (i : ℕ) → i ≡ n - 1 → wants (set (replicate step_limit 0) (n - 1) 1) i ≡ eqb i (last p)
    unfolding wants
    wants-same few i q =
        let same : last p ≡ n - 1 = rw (e, sub-one) in
        rw (q, same, get_or-set_same {A = ℕ} (replicate step_limit 0) (n - 1) 1 0 (rw (length-replicate {A = ℕ} step_limit 0) (omega arith)), eq-eqb (n - 1) (n - 1) refl)

    wants_other : (i : ℕ) → i < step_limit → (i ≡ n - 1 → ⊥) → wants (set (replicate step_limit 0) (n - 1) 1) i ≡ eqb i (last p)
    unfolding wants
    wants_other i h q =
        let same : last p ≡ n - 1 = rw (e, sub-one) in
        rw (get_or-set_other {A = ℕ} (replicate step_limit 0) (n - 1) i 1 0 q, get_or-replicate {A = ℕ} step_limit i 0 0 h, same, ne_eqb i (n - 1) q)

    pub wants-last : LastWanted p (set (replicate step_limit 0) (n - 1) 1)
    wants-last =
        record {
          only = λ few i h. whether (ℕ_discrete i (n - 1)) (wants-same few i) (wants_other i (omega arith));
        }
