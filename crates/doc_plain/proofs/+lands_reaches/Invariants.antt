-- Landing and reaching call each other: at each call the step plus the node number falls.
use Prim.Native.Nat.{◌+◌}
use Rattle.doc_plain.proofs.+lands_reaches.Given as goal

abbrev pub decreases-lands : goal.decreases-lands
decreases-lands l = l.i + l.v

abbrev pub decreases-reaches : goal.decreases-reaches
decreases-reaches l = l.i + l.v
