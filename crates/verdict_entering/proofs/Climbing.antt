-- Climbing an inserted tree: what a stored byte changes, when the row of a state is whole, and that the root answers from which states the read enters.
use Prim.Native.Nat.{ℕ, suc, pred, ◌+◌, ◌-◌, ◌<◌, ◌≤◌}
use mathlib.Core.Path.{◌≡◌, refl, sym, ◌∙◌}
use mathlib.Core.Bool.{Bool, true, false, ◌&&◌, false≢true, or-true}
use mathlib.Core.List.{List}
use mathlib.Core.Logic.{◌≢◌}
use native.Mathlib.Decide.{dec_le, ℕ_discrete}
use native.Mathlib.Omega.{arith}
use lib.Dec.{eqb}
use lib.ListN.{length, get_or, set, length-set}
use lib.Seq.{get_or-set_same, get_or-set_other}
use borrow.Author.Tests.{eq-eqb, eqb-true}
use Rattle.tables.specs.Limits.{step_limit, word_limit}
use Rattle.tables.specs.Words.{steps, nodes, parent, tag}
use Rattle.selection.specs.Ways.{up, takes, stays, last}
use Rattle.selection.proofs.Up.{Up, top, node, up_is, up_node, up_top}
use Rattle.selection.proofs.Somewhere.{Somewhere, of-somewhere, to_somewhere}
use Rattle.selection.proofs.Runs.{either, both}
use Rattle.conflict.specs.Crossing.{over, goes_further, enters}
use Rattle.conflict.proofs.Crossing.{Over, cut, lands, passes, of-over, to_over}
use Rattle.verdict_entering.specs.Climbing.{Fitting, has, leaves, Climb, Filled, Clear, Reached, Climbed}
use Rattle.verdict_entering.specs.Climbing as climbing

pub holds_is : {y : ℕ} (row : List ℕ) (v : ℕ) → y ≡ get_or row v 0 → eqb y 1 ≡ has row v
holds_is row v e = rw e

-- a node stored in a row
module _ (row : List ℕ) (u : ℕ) where
  has_other : (v : ℕ) → v ≢ u → has (set row u 1) v ≡ has row v
  has_other v n = rw (get_or-set_other row u v 1 0 n)

  module _ (inside : u < length row) where
    has_same : (v : ℕ) → v ≡ u → has (set row u 1) v ≡ true
    has_same v e = rw (e, get_or-set_same row u 1 0 inside)

    has_more : (v : ℕ) → has row v ≡ true → has (set row u 1) v ≡ true
    has_more v h = go (ℕ_discrete v u)
      where
        go : Dec (v ≡ u) → has (set row u 1) v ≡ true
        go (yes e) = has_same v e
        go (no n) = has_other v n ∙ h

  leaves-same : (r x : List ℕ) (k : ℕ) (above : List ℕ) (v : ℕ) → u < v → leaves r x k above (set row u 1) v ≡ leaves r x k above row v
  unfolding leaves
  leaves-same r x k above v h = rw (has_other v (λ e. omega arith))

-- two tests that hold together are one
pub same_test : (a b : Bool) → (a ≡ true → b ≡ true) → (b ≡ true → a ≡ true) → a ≡ b
same_test true b f g = sym (f refl)
same_test false true f g = g refl
same_test false false f g = refl

pred_below : (n m : ℕ) → 0 < n → n ≤ m → pred n < m
pred_below n m h l = omega arith

pub last_most : (n : ℕ) → n - 1 ≤ pred n
last_most n = omega arith

module _ (r x : List ℕ) (fit : Fitting r x) where
  last_inside : last r < step_limit
  last_inside = pred_below (steps r) step_limit fit.some fit.reads

  -- there is a byte for each state before the last, and its number is a word
  pub state_inside : {room : ℕ} → room ≡ step_limit → (k : ℕ) → k < last r → k < room
  state_inside e k h = omega (arith, last_inside)

  pub state_word : (k : ℕ) → k < last r → k < word_limit
  state_word k h = omega (arith, last_inside)

  pub climb_inside : {v k : ℕ} → Climb r x v k → v < nodes x
  climb_inside (climbing.starts h) = h
  climb_inside (climbing.lands {v = v} h c e) = omega (arith, fit.falls v h (climb_inside c), climb_inside c)
  climb_inside (climbing.passes {v = v} h c e) = omega (arith, fit.falls v h (climb_inside c), climb_inside c)

  -- the row of the last state has every node
  pub reached-last : (row : List ℕ) → Filled 1 row → Reached r x (last r) row
  reached-last row one =
      record {
        room = one.room;
        sound = λ u h q. climbing.starts h;
        full = λ u c. eq-eqb (get_or row u 0) 1 (one.each u (omega (arith, fit.most, climb_inside c)));
      }

  module _ (k : ℕ) (before : k < last r) (above : List ℕ) (next : Reached r x (suc k) above) where
    -- a run that leaves a node comes to its parent
    climb_leaves : (own : List ℕ) → ((u : ℕ) → u < nodes x → has own u ≡ true → Climb r x u k)
        → (v : ℕ) → 0 < v → v < nodes x → leaves r x k above own v ≡ true → Climb r x (parent x v) k
    unfolding leaves
    climb_leaves own sound v some h e =
        either (has above v && takes r (suc k) (tag x v)) (has own v && stays r false k) e
        (λ q. both (has above v) (takes r (suc k) (tag x v)) q (λ a b. climbing.lands some (next.sound v h a) b))
        (λ q. both (has own v) (stays r false k) q (λ a b. climbing.passes some (sound v h a) b))

    -- at first the row has no node
    pub climbed_none : (own : List ℕ) → Clear (nodes x) own → Climbed r x k above (nodes x) own
    climbed_none own clear =
        record {
          room = clear.room;
          sound = λ u h q. absurd (omega (arith, eqb-true (get_or own u 0) 1 q, clear.none u h));
          closed = λ u some i h q. absurd (omega arith);
        }

    module _ (v : ℕ) (own : List ℕ) (some : 0 < v) (inside : v < nodes x) (climbed : Climbed r x k above (v + 1) own) where
      -- where no run leaves v in state k, nothing is to be stored
      pub climb_still : {b : Bool} → b ≡ leaves r x k above own v → b ≡ false → Climbed r x k above v own
      climb_still b none = record { room = climbed.room; sound = climbed.sound; closed = λ u s i h q. go u s i h q (dec_le (v + 1) u) }
        where
          go : (u : ℕ) → 0 < u → u < nodes x → v ≤ u → leaves r x k above own u ≡ true → Dec (v + 1 ≤ u) → has own (parent x u) ≡ true
          go u s i h q (yes d) = climbed.closed u s i d q
          go u s i h q (no d) =
              let same : u ≡ v = omega arith in
              absurd (false≢true (sym none ∙ b ∙ (rw same at q)))

      above_inside : parent x v < length own
      above_inside = rw climbed.room (omega (arith, fit.falls v some inside, fit.most))

      pub mark_inside : {u : ℕ} → u ≡ parent x v → u < length own
      mark_inside e = rw e above_inside

      -- where one leaves, its parent is stored
      pub climb_stored : {b : Bool} {u : ℕ} → b ≡ leaves r x k above own v → b ≡ true → u ≡ parent x v → Climbed r x k above v (set own u 1)
      climb_stored b some-run d =
          rw d
          record {
            room = simp length-set climbed.room;
            sound = λ u h q. sound u h q (ℕ_discrete u (parent x v));
            closed = λ u s i h q. closed u s i h (sym (leaves-same own (parent x v) r x k above u (omega (arith, fit.falls v some inside))) ∙ q) (dec_le (v + 1) u);
          }
        where
          sound : (u : ℕ) → u < nodes x → has (set own (parent x v) 1) u ≡ true → Dec (u ≡ parent x v) → Climb r x u k
          sound u h q (yes s) = rw s (climb_leaves own climbed.sound v some inside (sym b ∙ some-run))
          sound u h q (no n) = climbed.sound u h (sym (has_other own (parent x v) u n) ∙ q)

          closed : (u : ℕ) → 0 < u → u < nodes x → v ≤ u → leaves r x k above own u ≡ true → Dec (v + 1 ≤ u) → has (set own (parent x v) 1) (parent x u) ≡ true
          closed u s i h q (yes n) = has_more own (parent x v) above_inside (parent x u) (climbed.closed u s i n q)
          closed u s i h q (no n) =
              let same : u ≡ v = omega arith in
              has_same own (parent x v) above_inside (parent x u) (rw same)

    -- behind the root's children the row is that of state k
    module _ (v : ℕ) (own : List ℕ) (least : v ≤ 1) (climbed : Climbed r x k above v own) where
      complete : {u m : ℕ} → Climb r x u m → m ≡ k → has own u ≡ true
      unfolding leaves
      complete (climbing.starts h) e = absurd (omega arith)
      complete (climbing.lands {v = u} h c t) e =
          climbed.closed u h (climb_inside c) (omega arith) (rw (← e, next.full u (rw (← e) c), t))
      complete (climbing.passes {v = u} h c t) e =
          climbed.closed u h (climb_inside c) (omega arith) (rw (complete c e, ← e, t, or-true))

      pub climbed_all : Reached r x k own
      climbed_all = record { room = climbed.room; sound = climbed.sound; full = λ u c. complete c refl }

  -- a run that climbs to state k at v, and goes on over the way of v, enters
  climb_enters : {v k i : ℕ} → Climb r x v k → Over (takes r) (stays r false) k (up x v) i → enters r x i ≡ true
  unfolding enters goes_further
  climb_enters {i} (climbing.starts {v = v} h) o = to_somewhere (λ k. over (takes r) (stays r false) (last r) (up x k) i) (nodes x) v h (to_over (takes r) (stays r false) o)
  climb_enters (climbing.lands {v = v} h c e) o = climb_enters c (rw (up_node x (nodes x) fit.falls v h (climb_inside c)) (lands e o))
  climb_enters (climbing.passes {v = v} h c e) o = climb_enters c (rw (up_node x (nodes x) fit.falls v h (climb_inside c)) (passes e o))

  -- a run leaves the root exactly if it enters
  module _ (i : ℕ) (above own : List ℕ) (next : Reached r x (suc i) above) (here : Reached r x i own) where
    root-enters : leaves r x i above own 0 ≡ true → enters r x i ≡ true
    unfolding leaves
    root-enters e =
        either (has above 0 && takes r (suc i) (tag x 0)) (has own 0 && stays r false i) e
        (λ q. both (has above 0) (takes r (suc i) (tag x 0)) q (λ a b. climb_enters (next.sound 0 fit.root a) (rw (up_top x) (lands b cut))))
        (λ q. both (has own 0) (stays r false i) q (λ a b. climb_enters (here.sound 0 fit.root a) (rw (up_top x) (passes b cut))))

    root-leaves : {v k : ℕ} {y : List ℕ} → Up x v y → Climb r x v k → Over (takes r) (stays r false) k y i → leaves r x i above own 0 ≡ true
    unfolding leaves
    root-leaves top c (lands e cut) = rw (next.full 0 c, e)
    root-leaves top c (passes e cut) = rw (here.full 0 c, e, or-true)
    root-leaves (node h u) c (lands e o) = root-leaves u (climbing.lands h c e) o
    root-leaves (node h u) c (passes e o) = root-leaves u (climbing.passes h c e) o

    pub root_is : {b : Bool} → b ≡ leaves r x i above own 0 → b ≡ enters r x i
    unfolding enters goes_further
    root_is e =
        e
        ∙ same_test (leaves r x i above own 0) (enters r x i) root-enters
        (λ q. let s : Somewhere (λ k. over (takes r) (stays r false) (last r) (up x k) i) (nodes x) = of-somewhere (λ k. over (takes r) (stays r false) (last r) (up x k) i) (nodes x) q in
        root-leaves (up_is x (nodes x) fit.falls s.at s.below) (climbing.starts s.below) (of-over (takes r) (stays r false) (last r) (up x s.at) i s.holds))
