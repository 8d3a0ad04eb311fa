-- The branches of the checks, and what an accepted read, update and tree are.
use Prim.Native.Nat.{ℕ, ◌+◌, ◌*◌, ◌-◌, ◌/◌, ◌<◌, ◌≤◌}
use mathlib.Core.Path.{◌≡◌}
use mathlib.Core.List.{List}
use native.Mathlib.Omega.{arith}
use lib.Dec.{ltb, leb}
use lib.ListN.{length}
use borrow.Author.Tests.{lt-ltb, le-ltb, le-leb, lt-leb, leb-true, ltb-true}
use Rattle.tables.specs.Limits.{step_limit, tree_limit}
use Rattle.tables.specs.Words.{steps}
use Rattle.tables.specs.Patterns.{Pattern}
use Rattle.tables.specs.Checks.{refuse, test, pattern_check, tree_check, Checked, Fine}
use Rattle.tables.proofs.Accepted.{held, then_first, then_second}
use Rattle.tables.proofs.Soundness.{accepted_pattern, accepted_steps}
use Rattle.conflict.specs.Conflict.{Update, delete, insert}
use Rattle.check_verdict.specs.Order.{needed, room_check, patterns_check, deep_delete_check, deep_insert_check, delete_verdict_check, insert_verdict_check, deep_check, verdict_check}
use Rattle.check_verdict.specs.Admitted.{Bounded}

module _ {answer : Checked} (n : ℕ) where
  pub step_one : answer ≡ refuse 6 2 0 → n ≤ 1 → answer ≡ test (ltb 1 n) (refuse 6 2 0)
  step_one e h = rw (le-ltb 1 n h) e

pub steps_two : (n : ℕ) → 1 < n → Fine ≡ test (ltb 1 n) (refuse 6 2 0)
steps_two n h = rw (lt-ltb 1 n h)

short : (m n words : ℕ) → words / 2 + 1 < m + n → words < 2 * (m + n - 1)
short m n words h = omega arith

long : (m n words : ℕ) → m + n ≤ words / 2 + 1 → 2 * (m + n - 1) ≤ words
long m n words h = omega arith

pub room_short : {answer : Checked} (r p : List ℕ) (words : ℕ) → answer ≡ refuse 7 4 0 → words / 2 + 1 < length r / 2 + length p / 2 → answer ≡ room_check r p words
unfolding room_check
room_short r p words e h = rw (lt-leb (needed r p) words (short (steps r) (steps p) words h)) e

pub room_long : (r p : List ℕ) (words : ℕ) → length r / 2 + length p / 2 ≤ words / 2 + 1 → Fine ≡ room_check r p words
unfolding room_check
room_long r p words h = rw (le-leb (needed r p) words (long (steps r) (steps p) words h))

-- an output with room
pub room_fine : (r p : List ℕ) (words : ℕ) → room_check r p words ≡ Fine → needed r p ≤ words
unfolding room_check
room_fine r p words e = leb-true (needed r p) words (held (leb (needed r p) words) _ e)

-- accepted patterns are patterns, and bounded
module _ (r p : List ℕ) (e : patterns_check r p ≡ Fine) where
  pub read_fine : pattern_check r step_limit 1 ≡ Fine
  unfolding patterns_check
  read_fine = then_first (pattern_check r step_limit 1) (pattern_check p step_limit 2) e

  pub update_fine : pattern_check p step_limit 2 ≡ Fine
  unfolding patterns_check
  update_fine = then_second (pattern_check r step_limit 1) (pattern_check p step_limit 2) e

  pub patterns_read : Pattern r
  patterns_read = accepted_pattern r step_limit 1 read_fine

  pub patterns_update : Pattern p
  patterns_update = accepted_pattern p step_limit 2 update_fine

  pub patterns_bounded : Bounded r p
  patterns_bounded =
      record {
        reads_some = patterns_read.some;
        reads = accepted_steps r step_limit 1 read_fine;
        updates_some = patterns_update.some;
        updates = accepted_steps p step_limit 2 update_fine;
      }

module _ (r p : List ℕ) where
  module _ (e : deep_delete_check r p ≡ Fine) where
    pub delete_patterns : patterns_check r p ≡ Fine
    unfolding deep_delete_check
    delete_patterns = then_first (patterns_check r p) (test (ltb 1 (steps p)) (refuse 6 2 0)) e

    pub delete_bounded : Bounded r p
    delete_bounded = patterns_bounded r p delete_patterns

    pub delete_two : 1 < steps p
    unfolding deep_delete_check
    delete_two = ltb-true 1 (steps p) (held (ltb 1 (steps p)) _ (then_second (patterns_check r p) (test (ltb 1 (steps p)) (refuse 6 2 0)) e))

  module _ (x : List ℕ) (e : deep_insert_check r p x ≡ Fine) where
    pub insert_patterns : patterns_check r p ≡ Fine
    unfolding deep_insert_check
    insert_patterns = then_first (patterns_check r p) (tree_check x tree_limit 3) e

    pub insert_bounded : Bounded r p
    insert_bounded = patterns_bounded r p insert_patterns

    pub insert_tree : tree_check x tree_limit 3 ≡ Fine
    unfolding deep_insert_check
    insert_tree = then_second (patterns_check r p) (tree_check x tree_limit 3) e

  -- the same with an output, which then has room
  module _ (words : ℕ) where
    pub delete_deep_lem : delete_verdict_check r p words ≡ Fine → deep_delete_check r p ≡ Fine
    unfolding delete_verdict_check
    delete_deep_lem e = then_first (deep_delete_check r p) (room_check r p words) e

    pub delete_room : delete_verdict_check r p words ≡ Fine → needed r p ≤ words
    unfolding delete_verdict_check
    delete_room e = room_fine r p words (then_second (deep_delete_check r p) (room_check r p words) e)

    pub insert_deep_lem : (x : List ℕ) → insert_verdict_check r p x words ≡ Fine → deep_insert_check r p x ≡ Fine
    unfolding insert_verdict_check
    insert_deep_lem x e = then_first (deep_insert_check r p x) (room_check r p words) e

    pub insert_room : (x : List ℕ) → insert_verdict_check r p x words ≡ Fine → needed r p ≤ words
    unfolding insert_verdict_check
    insert_room x e = room_fine r p words (then_second (deep_insert_check r p x) (room_check r p words) e)

  -- the words of the longest witness are room enough
  longest_room : Bounded r p → Fine ≡ room_check r p (2 * (step_limit + step_limit - 1))
  longest_room b = room_long r p (2 * (step_limit + step_limit - 1)) (omega (arith, b.reads, b.updates))

  module _ {words : ℕ} (long : words ≡ 2 * (step_limit + step_limit - 1)) where
    pub delete_longest : deep_delete_check r p ≡ Fine → delete_verdict_check r p words ≡ Fine
    unfolding delete_verdict_check
    delete_longest e = rw (e, long, ← longest_room (delete_bounded e))

    pub insert_longest : (x : List ℕ) → deep_insert_check r p x ≡ Fine → insert_verdict_check r p x words ≡ Fine
    unfolding insert_verdict_check
    insert_longest x e = rw (e, long, ← longest_room (insert_bounded x e))

-- what a verdict accepts, the deep verdict accepts
pub verdict_deep : (r : List ℕ) (u : Update) (words : ℕ) → verdict_check r u words ≡ Fine → deep_check r u ≡ Fine
verdict_deep r (delete p) words e = delete_deep_lem r p words e
verdict_deep r (insert p x) words e = insert_deep_lem r p words x e
