-- Inside: what counting and writing a shortest way answers.
use Rattle.std.specs.Prelude.{ℕ, ◌*◌, ◌≡◌, List, ◌++◌, length, drop}
use Rattle.conflict.specs.Crossing.{chain}

-- a way is counted, and written as a chain at the front; all behind it stays
pub record WayWritten (way before after : List ℕ) (n : ℕ) : Type 0 where
  pub count : n ≡ length way
  pub words : after ≡ chain way ++ drop (2 * n) before
