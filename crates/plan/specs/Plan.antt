-- Inside: what the program's own functions promise each other.
use Rattle.std.specs.Prelude.{ℕ, ◌≤◌, List, length, take}
use Rattle.text_printer.specs.Printer.{Prints}

-- the text of the input s, whole, at the front of the output
pub record TextAt (s out : List ℕ) (n : ℕ) : Type 0 where
  pub within : n ≤ length out
  pub prints : Prints s (take n out)
