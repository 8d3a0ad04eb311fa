-- At each call the node's distance to the table's end falls; the children so far are written.
use Prim.Native.Nat.{◌-◌}
use mathlib.Core.Path.{◌≡◌}
use mathlib.Core.Bool.{cond}
use lib.Dec.{eqb}
use lib.ListN.{length}
use Rattle.tables.specs.Words.{nodes}
use Rattle.text_xml_out.proofs.Nodes.{Halfway}
use Rattle.text_xml_out.proofs.node.+put_node.Given as goal

abbrev pub decreases-put_node : goal.decreases-put_node
decreases-put_node l = nodes l.t.now - l.v

abbrev pub invariant-loop-child : goal.invariant-loop-child
invariant-loop-child l = (length l.out ≡ length l.initial.out) × Halfway l.t l.v l.initial.out l.initial.to l.out l.child l.to

abbrev pub decreases-loop-child : goal.decreases-loop-child
decreases-loop-child l = cond (eqb l.child 0) 0 (nodes l.t - l.child)
