-- Inside: one state marked, as meeting asks for it.
use Rattle.std.specs.Prelude.{ℕ, ◌<◌, ◌≡◌, List, get_or}

-- state i is marked, and none below it
pub record Only (i : ℕ) (states : List ℕ) : Type 0 where
  pub this : get_or states i 0 ≡ 1
  pub none : (k : ℕ) → k < i → get_or states k 0 ≡ 0
