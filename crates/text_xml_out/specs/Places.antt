-- Inside: a text in a buffer from a place on.
use Rattle.std.specs.Prelude.{ℕ, ◌+◌, ◌≡◌, List, length}
use Rattle.std.proofs.lemmas.List.Edits.{sets}

-- the text was written from one place on, and ends before another; nothing else changed
pub record Wrote (text before : List ℕ) (at : ℕ) (after : List ℕ) (to : ℕ) : Type 0 where
  pub written : after ≡ sets before at text
  pub behind : to ≡ at + length text
