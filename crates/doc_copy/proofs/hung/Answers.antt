-- The branches of the code are those of the definition.
use Prim.Native.Nat.{◌*◌}
use native.Mathlib.Omega.{arith}
use Rattle.doc_copy.proofs.Copies.{hung_root, hung_below}
use Rattle.doc_copy.proofs.hung.Goals as goal

pub returns-then-k-eq0 : goal.returns-then-k-eq0
returns-then-k-eq0 c = search hung_root

pub overflow_add-result : goal.overflow_add-result
overflow_add-result c = omega (arith, c.shared_slice_known-1.given (2 * c.args.k), c.first_word-above.ensures)

pub returns : goal.returns
returns c = hung_below c.args.x.now c.args.q c.args.base c.args.k c.first_word-above.ensures c.if-k-eq0.false
