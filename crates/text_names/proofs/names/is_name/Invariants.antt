-- The first byte, then the bytes that are left decide.
use mathlib.Core.Path.{◌≡◌}
use lib.ListN.{drop}
use Rattle.text_names.specs.Letters.{all_go, name}
use Rattle.text_names.proofs.names.is_name.Given as goal

abbrev pub invariant-loop-i : goal.invariant-loop-i
invariant-loop-i l = name l.s ≡ all_go (drop l.i l.s)
