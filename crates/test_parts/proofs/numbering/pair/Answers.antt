-- Both places are within the table.
use native.Mathlib.Omega.{arith}
use lib.ListN.{length-set}
use Rattle.test_parts.proofs.numbering.pair.Goals as goal

pub bounds-t-v-2 : goal.bounds-t-v-2
bounds-t-v-2 c = simp length-set (omega arith)
