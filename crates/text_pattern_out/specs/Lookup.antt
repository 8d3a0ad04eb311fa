-- Inside: where a name of a list begins.
use Rattle.std.specs.Prelude.{ℕ, ◌≤◌, ◌≡◌, List, length, drop}
use Rattle.text_names.specs.Names.{lines}

-- line k, from 0, begins here: from here on stand the lines from k on
pub record NameFrom (l : List ℕ) (k from : ℕ) : Type 0 where
  pub within : from ≤ length l
  pub rest : drop k (lines l) ≡ lines (drop from l)
