-- From the shortest way over the marked states to the ways that show a conflict, and from its number to the deep verdict's tests.
use Prim.Native.Nat.{ℕ, zero, suc, pred, ◌-◌, ◌<◌, ◌≤◌}
use mathlib.Core.Path.{◌≡◌, refl, ◌∙◌, ap}
use mathlib.Core.Bool.{Bool, true, false, ◌&&◌, cond}
use mathlib.Core.List.{List, [], ◌∷◌}
use native.Mathlib.Nat.{suc-lt_of_lt-pred}
use native.Mathlib.Omega.{arith}
use lib.Dec.{eqb, ltb}
use lib.ListN.{length, get_or, set, replicate, length-replicate, get_or-replicate}
use lib.Seq.{get_or-set_same, get_or-set_other}
use borrow.Author.Tests.{ne_eqb, lt-ltb, le-ltb, le-leb}
use Rattle.tables.specs.Limits.{step_limit, tree_limit}
use Rattle.tables.specs.Words.{steps}
use Rattle.tables.specs.Checks.{where_fine, pattern_check, tree_check, Fine}
use Rattle.tables.proofs.Accepted.{then_both}
use Rattle.selection.specs.Ways.{last}
use Rattle.selection.specs.Lists.{tab}
use Rattle.selection.proofs.Lists.{length-tab, get_or-tab}
use Rattle.conflict.specs.Meeting.{sooner, shorter, meeting_of, fewest_of}
use Rattle.conflict.specs.Crossing.{enters, entering, delete_way, insert_way, touches, delete_deep, insert_deep}
use Rattle.conflict.proofs.Steps.{least_some, length-shorter}
use Rattle.conflict.proofs.Shortest.{length-meeting_of, meeting_of-same}
use Rattle.check_verdict.specs.Admitted.{Bounded}
use Rattle.check_verdict.specs.Order.{needed, patterns_check, deep_delete_check, deep_insert_check, delete_verdict_check, insert_verdict_check}
use Rattle.check_verdict.proofs.Accepting.{read_fine, patterns_bounded, delete_patterns, delete_bounded, delete_deep_lem, delete_room, insert_patterns, insert_bounded, insert_tree, insert_deep_lem, insert_room}
use Rattle.verdict_entering.specs.Entering.{entering_check, entered}
use Rattle.verdict_meeting.specs.Met.{marked_way, nearest, met, Met}
use Rattle.verdict_ways.specs.Marked.{Only}
use Rattle.verdict_ways.specs.Ways.{WayWritten}

-- one state of so many is marked
pub only_set : (i : ℕ) → i < step_limit → {states : List ℕ} → states ≡ set (replicate {A = ℕ} step_limit 0) i 1 → Only i states
only_set i h e =
    rw e
    record {
      this = get_or-set_same (replicate {A = ℕ} step_limit 0) i 1 0 (rw (length-replicate {A = ℕ} step_limit 0) h);
      none = λ k l.
          get_or-set_other (replicate {A = ℕ} step_limit 0) i k 1 0 (λ q. omega arith) ∙ get_or-replicate step_limit k 0 0 (omega arith);
    }

-- an admitted read and update are bounded
pub delete_bounds : (r p : List ℕ) (words : ℕ) → delete_verdict_check r p words ≡ Fine → Bounded r p
delete_bounds r p words e = delete_bounded r p (delete_deep_lem r p words e)

pub insert_bounds : (r p x : List ℕ) (words : ℕ) → insert_verdict_check r p x words ≡ Fine → Bounded r p
insert_bounds r p x words e = insert_bounded r p x (insert_deep_lem r p words x e)

pub last_inside : {r p : List ℕ} {i : ℕ} → Bounded r p → i ≡ steps r - 1 → i < step_limit
last_inside b e = omega (arith, b.reads_some, b.reads)

-- of a way and none the shorter is the way
shorter_none : (w : List ℕ) → shorter w [] ≡ w
unfolding shorter sooner
shorter_none [] = refl
shorter_none (l ∷ w) = rw (ne_eqb (length (l ∷ w)) 0 (λ e. omega arith))

none_shorter : (w : List ℕ) → shorter [] w ≡ w
unfolding shorter sooner
none_shorter w = refl

-- the last state of a pattern
last-suc : (n i : ℕ) → 0 < n → i ≡ n - 1 → n ≡ suc i
last-suc n i h e = omega arith

last_is : (n i : ℕ) → i ≡ n - 1 → i ≡ pred n
last_is n i e = omega arith

last_of : (n : ℕ) → 0 < n → n ≡ suc (pred n)
last_of n h = omega arith

last_limit : (n : ℕ) → 0 < n → n ≤ step_limit → pred n < step_limit
last_limit n h l = omega arith

before_limit : (n i : ℕ) → n ≤ step_limit → i < pred n → i < step_limit
before_limit n i h l = omega arith

last_less : (n i : ℕ) → 0 < n → i ≡ n - 1 → i < n
last_less n i h e = omega arith

module _ (r : List ℕ) (below : Bool) (p : List ℕ) (under : Bool) (states : List ℕ) (j : ℕ) where
  -- over one marked state, its way
  module _ (i : ℕ) (only : Only i states) where
    before_none : (n : ℕ) → n ≤ i → nearest r below p under states j n ≡ []
    unfolding nearest marked_way
    before_none zero h = refl
    before_none (suc n) h = rw (before_none n (omega arith), only.none n h) (shorter_none [])

    nearest_only : nearest r below p under states j (suc i) ≡ meeting_of r below p under i j
    unfolding nearest marked_way
    nearest_only = rw (before_none i (omega arith), only.this) (none_shorter (meeting_of r below p under i j))

  -- what is met of an admitted read and update
  module _ (fine : patterns_check r p ≡ Fine) (inside : j < steps p) {n : ℕ} {before after : List ℕ}
      (m : Met r p (met (patterns_check r p) (ltb j (steps p)) (nearest r below p under states j (steps r))) before after n) where
    met_all : Met r p (nearest r below p under states j (steps r)) before after n
    unfolding met
    met_all = rw (fine, lt-ltb j (steps p) inside) at m

    met-written : needed r p ≤ length before → WayWritten (nearest r below p under states j (steps r)) before after n
    met-written room = record { count = met_all.count; words = rw (le-leb (needed r p) (length before) room) at met_all.words }

-- a delete's way
module _ (r p : List ℕ) {i j n : ℕ} (states before after : List ℕ) (fine : delete_verdict_check r p (length before) ≡ Fine) (d : i ≡ steps r - 1) (e : j ≡ steps p - 1)
    (only : Only i states) (m : Met r p (met (patterns_check r p) (ltb j (steps p)) (nearest r false p true states j (steps r))) before after n) where
  pub delete_written : WayWritten (delete_way r p) before after n
  unfolding delete_way
  delete_written =
      let patterns = delete_patterns r p (delete_deep_lem r p (length before) fine) in
      let bounded = patterns_bounded r p patterns in
      let all = last-suc (steps r) i bounded.reads_some d in
      let way : nearest r false p true states j (steps r) ≡ meeting_of r false p true (last r) (last p) =
      ap (nearest r false p true states j) all ∙ nearest_only r false p true states j i only
      ∙ rw (last_is (steps r) i d, last_is (steps p) j e) in
      rw way at (met-written r false p true states j patterns (last_less (steps p) j bounded.updates_some e) m (delete_room r p (length before) fine))

-- the states of r before its last, marked where r enters x from them: over those below n, the entering way
marked_is : (b : Bool) → eqb (cond b 1 0) 1 ≡ b
marked_is true = refl
marked_is false = refl

nearest-enters : (r : List ℕ) (below : Bool) (p x states : List ℕ) → ((i : ℕ) → i < last r → get_or states i 0 ≡ cond (enters r x i) 1 0)
    → (n : ℕ) → n ≤ last r → nearest r below p false states (last p) n ≡ entering r p x n
unfolding nearest marked_way entering
nearest-enters r below p x states bytes zero h = refl
nearest-enters r below p x states bytes (suc n) h =
    rw (
      nearest-enters r below p x states bytes n (omega arith),
      bytes n h,
      marked_is (enters r x n),
      meeting_of-same r below p false n (last p) (suc-lt_of_lt-pred h),
    )

-- an admitted insert: the bytes of all states, by which the last is not marked
module _ (r p x : List ℕ) (fine : deep_insert_check r p x ≡ Fine) {states : List ℕ} (w : states ≡ tab (where_fine (entering_check r x) (entered r x) (λ _. 0)) step_limit) where
  byte_is : (i : ℕ) → i < step_limit → get_or states i 0 ≡ cond (ltb i (last r) && enters r x i) 1 0
  unfolding entering_check entered
  byte_is i h =
      let enterable : entering_check r x ≡ Fine =
      then_both (pattern_check r step_limit 1) (tree_check x tree_limit 3) (read_fine r p (insert_patterns r p x fine)) (insert_tree r p x fine) in
      rw (w, get_or-tab (where_fine (entering_check r x) (entered r x) (λ _. 0)) step_limit i h, enterable)

  byte_before : (i : ℕ) → i < last r → get_or states i 0 ≡ cond (enters r x i) 1 0
  byte_before i h = byte_is i (before_limit (steps r) i (insert_bounded r p x fine).reads h) ∙ rw (lt-ltb i (last r) h)

  byte_last : get_or states (last r) 0 ≡ 0
  byte_last =
      let bounded = insert_bounded r p x fine in
      byte_is (last r) (last_limit (steps r) bounded.reads_some bounded.reads) ∙ rw (le-ltb (last r) (last r) (omega arith))

  -- so the way over them is the insert's
  nearest-last : nearest r false p false states (last p) (suc (last r)) ≡ insert_way r p x
  unfolding nearest marked_way insert_way
  nearest-last = rw (nearest-enters r false p x states byte_before (last r) (omega arith), byte_last) (shorter_none (entering r p x (last r)))

  -- with the last marked too, its number tells both tests
  nearest_deep : {i : ℕ} → i ≡ steps r - 1 → ltb 0 (length (nearest r true p false (set states i 1) (last p) (suc (last r)))) ≡ insert_deep r p x
  unfolding nearest marked_way insert_deep insert_way touches
  nearest_deep {i} e =
      let at : i ≡ last r = last_is (steps r) i e in
      let other : (k : ℕ) → k < last r → get_or (set states i 1) k 0 ≡ cond (enters r x k) 1 0 =
      λ k h. get_or-set_other states i k 1 0 (λ q. omega arith) ∙ byte_before k h in
      let this : get_or (set states i 1) (last r) 0 ≡ 1 =
      rw (← at) (get_or-set_same states i 1 0 (rw (w, length-tab) (last_inside (insert_bounded r p x fine) e))) in
      rw (
        nearest-enters r true p x (set states i 1) other (last r) (omega arith),
        this,
        length-shorter,
        least_some,
        length-meeting_of r true p false (last r) (last p),
      )

-- an insert's way
module _ (r p x : List ℕ) {j n : ℕ} (states before after : List ℕ) (fine : insert_verdict_check r p x (length before) ≡ Fine) (e : j ≡ steps p - 1)
    (w : states ≡ tab (where_fine (entering_check r x) (entered r x) (λ _. 0)) step_limit)
    (m : Met r p (met (patterns_check r p) (ltb j (steps p)) (nearest r false p false states j (steps r))) before after n) where
  pub insert_written : WayWritten (insert_way r p x) before after n
  insert_written =
      let deep = insert_deep_lem r p (length before) x fine in
      let patterns = insert_patterns r p x deep in
      let bounded = patterns_bounded r p patterns in
      let way : nearest r false p false states j (steps r) ≡ insert_way r p x =
      rw (last_is (steps p) j e, last_of (steps r) bounded.reads_some) (nearest-last r p x deep w) in
      rw way at (met-written r false p false states j patterns (last_less (steps p) j bounded.updates_some e) m (insert_room r p (length before) x fine))

-- the deep verdict's tests: the way is counted
pub delete_counted : (r p : List ℕ) {i j n : ℕ} (states before after : List ℕ) → deep_delete_check r p ≡ Fine → i ≡ steps r - 1 → j ≡ steps p - 1 → Only i states
    → Met r p (met (patterns_check r p) (ltb j (steps p)) (nearest r true p true states j (steps r))) before after n → ltb 0 n ≡ delete_deep r p
unfolding delete_deep
delete_counted r p {i} {j} {n} states before after fine d e only m =
    let bounded = delete_bounded r p fine in
    let all = last-suc (steps r) i bounded.reads_some d in
    let count : n ≡ fewest_of r true p true i j =
    (met_all r true p true states j (delete_patterns r p fine) (last_less (steps p) j bounded.updates_some e) m).count
    ∙ ap (λ (k : ℕ). length (nearest r true p true states j k)) all
    ∙ ap length (nearest_only r true p true states j i only)
    ∙ length-meeting_of r true p true i j in
    rw (count, last_is (steps r) i d, last_is (steps p) j e)

pub insert_counted : (r p x : List ℕ) {i j n : ℕ} (states before after : List ℕ) → deep_insert_check r p x ≡ Fine → i ≡ steps r - 1 → j ≡ steps p - 1
    → states ≡ tab (where_fine (entering_check r x) (entered r x) (λ _. 0)) step_limit
    → Met r p (met (patterns_check r p) (ltb j (steps p)) (nearest r true p false (set states i 1) j (steps r))) before after n → ltb 0 n ≡ insert_deep r p x
insert_counted r p x {i} {j} {n} states before after fine d e w m =
    let bounded = insert_bounded r p x fine in
    let count : n ≡ length (nearest r true p false (set states i 1) j (steps r)) =
    (met_all r true p false (set states i 1) j (insert_patterns r p x fine) (last_less (steps p) j bounded.updates_some e) m).count in
    rw (count, last_is (steps p) j e, last_of (steps r) bounded.reads_some) (nearest_deep r p x fine w d)
