-- The bytes of the states: what an accepted read and tree give, and what is written from the rows.
use Rattle.std.specs.Prelude.{Err}
use Prim.Native.Nat.{ℕ, suc, ◌+◌, ◌<◌, ◌≤◌}
use mathlib.Core.Path.{◌≡◌, refl, sym, ◌∙◌}
use mathlib.Core.Bool.{Bool, true, false, cond}
use mathlib.Core.List.{List}
use native.Mathlib.Decide.{ℕ_discrete}
use native.Mathlib.Omega.{arith}
use lib.ListN.{length, get_or, set, length-set, replicate, length-replicate, get_or-replicate}
use lib.Seq.{ext_get_or, get_or-set_same, get_or-set_other}
use mir.Val.{bool_byte}
use borrow.Author.Tests.{lt-ltb, le-ltb}
use Rattle.tables.specs.Limits.{step_limit, tree_limit}
use Rattle.tables.specs.Words.{nodes}
use Rattle.tables.specs.declared.refusal.Refusal.{Refusal}
use Rattle.tables.specs.Checks.{where_fine, each, size_check, pattern_check, node_check, tree_check, Checked, Fine}
use Rattle.tables.proofs.Accepted.{then_first, then_second}
use Rattle.tables.proofs.Soundness.{accepted_pattern, accepted_steps, accepted_nodes, accepted_some, node_falls}
use Rattle.tables.proofs.Branches.{fine_on, fine_off}
use Rattle.selection.specs.Ways.{last}
use Rattle.selection.specs.Lists.{tab}
use Rattle.selection.proofs.Lists.{length-tab, get_or-tab}
use Rattle.verdict_entering.specs.Climbing.{Fitting, leaves, Filled, Clear, Reached, Handed, Written}
use Rattle.verdict_entering.specs.Entering.{entering_check, entered}
use Rattle.verdict_entering.proofs.Climbing.{climb_inside, root_is}

-- an accepted read has steps, and the parents of an accepted tree fall
pub fitting : (r x : List ℕ) → entering_check r x ≡ Fine → Fitting r x
unfolding entering_check tree_check
fitting r x e =
    let read : pattern_check r step_limit 1 ≡ Fine = then_first (pattern_check r step_limit 1) (tree_check x tree_limit 3) e in
    let tree : tree_check x tree_limit 3 ≡ Fine = then_second (pattern_check r step_limit 1) (tree_check x tree_limit 3) e in
    record {
      some = (accepted_pattern r step_limit 1 read).some;
      reads = accepted_steps r step_limit 1 read;
      root = accepted_some x tree_limit 3 tree;
      most = accepted_nodes x tree_limit 3 tree;
      falls = node_falls x 3 (nodes x) (then_second (size_check (length x) tree_limit 3) (each (node_check x 3) 0 (nodes x)) tree);
    }

-- rows of one byte
pub filled_of : (byte n : ℕ) → n ≡ tree_limit → Filled byte (replicate {A = ℕ} n byte)
filled_of byte n e = record { room = length-replicate {A = ℕ} n byte ∙ e; each = λ v h. get_or-replicate n v byte 0 (rw e h) }

-- zeros, by counting
pub zeros : (n : ℕ) → replicate {A = ℕ} n 0 ≡ tab (λ i. 0) n
zeros n =
    ext_get_or 0 (replicate {A = ℕ} n 0) (tab (λ i. 0) n) (length-replicate {A = ℕ} n 0 ∙ sym (length-tab (λ i. 0) n))
    (λ i h. let less : i < n = rw (length-replicate {A = ℕ} n 0) at h in
    get_or-replicate n i 0 0 less ∙ sym (get_or-tab (λ j. 0) n i less))

-- a row of zeros has no node
pub clear_of : (n : ℕ) (row : List ℕ) → n ≤ tree_limit → Filled 0 row → Clear n row
clear_of n row h zero = record { room = zero.room; none = λ v l. zero.each v (omega arith) }

-- the rows are handed over one byte after the other
module _ (before : List ℕ) where
  pub handed_none : (above : List ℕ) → Handed before 0 above before
  handed_none above = record { moved = λ v h. absurd (omega arith); none = λ v h. absurd (omega arith); rest = λ v h. refl }

  module _ {above own : List ℕ} (v : ℕ) (h : Handed before v above own) where
    pub handed_more : v < length above → v < length own → Handed before (v + 1) (set above v (get_or own v 0)) (set own v 0)
    handed_more there here =
        record {
          moved = λ u l. moved u l (ℕ_discrete u v);
          none = λ u l. none u l (ℕ_discrete u v);
          rest = λ u l. get_or-set_other own v u 0 0 (λ e. omega arith) ∙ h.rest u (omega arith);
        }
      where
        moved : (u : ℕ) → u < v + 1 → Dec (u ≡ v) → get_or (set above v (get_or own v 0)) u 0 ≡ get_or before u 0
        moved u l (yes e) = rw (e, get_or-set_same above v (get_or own v 0) 0 there) (h.rest v (omega arith))
        moved u l (no n) = get_or-set_other above v u (get_or own v 0) 0 n ∙ h.moved u (omega arith)

        none : (u : ℕ) → u < v + 1 → Dec (u ≡ v) → get_or (set own v 0) u 0 ≡ 0
        none u l (yes e) = rw e (get_or-set_same own v 0 0 here)
        none u l (no n) = get_or-set_other own v u 0 0 n ∙ h.none u (omega arith)

    pub handed_all : (n : ℕ) → v ≤ n → n ≤ v → Handed before n above own
    handed_all n less most =
        let same : n ≡ v = omega arith in
        rw same h

-- what was handed over is the row of the same state, and what is left is clear
module _ (r x : List ℕ) (fit : Fitting r x) {before above own : List ℕ} (h : Handed before (nodes x) above own) where
  pub handed_reached : (k : ℕ) → length above ≡ tree_limit → Reached r x k before → Reached r x k above
  handed_reached k room row =
      record {
        room = room;
        sound = λ u l q. row.sound u l (rw (h.moved u l) at q);
        full = λ u c. rw (h.moved u (climb_inside r x fit c)) (row.full u c);
      }

  pub handed_clear : length own ≡ tree_limit → Clear (nodes x) own
  handed_clear room = record { room = room; none = h.none }

-- a bool as a byte
byte_is : (b : Bool) → bool_byte b ≡ cond b 1 0
byte_is true = refl
byte_is false = refl

module _ (r x : List ℕ) where
  -- the byte of a state, from what leaves the root
  module _ (fit : Fitting r x) (k : ℕ) (before : k < last r) (above own : List ℕ) (next : Reached r x (suc k) above) (here : Reached r x k own) {b : Bool} (e : b ≡ leaves r x k above own 0) where
    pub byte_entered : {n : ℕ} → n ≡ bool_byte b → n ≡ entered r x k
    unfolding entered
    byte_entered h = rw (lt-ltb k (last r) before, ← root_is r x fit k above own next here e) (h ∙ byte_is b)

  -- from the last state on there is nothing to be written
  pub written_none : (states : List ℕ) → states ≡ tab (λ i. 0) step_limit → Written r x (last r) states
  unfolding entered
  written_none states e =
      record {
        room = rw e (length-tab (λ i. 0) step_limit);
        bytes = λ i h l. rw (e, le-ltb i (last r) h) (get_or-tab (λ j. 0) step_limit i l);
      }

  -- a state more, from the last down
  pub written_more : {states : List ℕ} {next b : ℕ} (k : ℕ) → k + 1 ≡ next → Written r x next states → k < length states → b ≡ entered r x k → Written r x k (set states k b)
  written_more {states} {next} {b} k same w inside e = record { room = simp length-set w.room; bytes = λ i h l. go i h l (ℕ_discrete i k) }
    where
      go : (i : ℕ) → k ≤ i → i < step_limit → Dec (i ≡ k) → get_or (set states k b) i 0 ≡ entered r x i
      go i h l (yes d) = rw (d, get_or-set_same states k b 0 inside) e
      go i h l (no n) = get_or-set_other states k i b 0 n ∙ w.bytes i (omega arith) l

  pub written_all : {states : List ℕ} → Written r x 0 states → states ≡ tab (entered r x) step_limit
  written_all {states} w =
      ext_get_or 0 states (tab (entered r x) step_limit) (w.room ∙ sym (length-tab (entered r x) step_limit))
      (λ i h. let less : i < step_limit = rw w.room at h in
      w.bytes i (omega arith) less ∙ sym (get_or-tab (entered r x) step_limit i less))

module _ {got check : Checked} (e : got ≡ check) (r x : List ℕ) {s : List ℕ} where
  pub states_on : got ≡ Fine → s ≡ tab (entered r x) step_limit → s ≡ tab (where_fine check (entered r x) (λ _. 0)) step_limit
  states_on = fine_on (λ f. s ≡ tab f step_limit) e (entered r x) (λ _. 0)

  pub states_off : {why : Refusal} → got ≡ Err why → s ≡ tab (λ i. 0) step_limit → s ≡ tab (where_fine check (entered r x) (λ _. 0)) step_limit
  states_off = fine_off (λ f. s ≡ tab f step_limit) e (entered r x) (λ _. 0)
