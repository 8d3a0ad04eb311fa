-- The point, then the node of its copy.
use native.Mathlib.Omega.{arith}
use Rattle.verdict_evidence.proofs.Opening.{new_none, new_some, new_most}
use Rattle.verdict_evidence.proofs.Granted.{gained_hung, gained_nodes}
use Rattle.verdict_evidence.proofs.gained.first_new.Goals as goal

pub returns-then-n-q : goal.returns-then-n-q
returns-then-n-q c = search new_none

pub copy_node-k-requires : goal.copy_node-k-requires
copy_node-k-requires c = search gained_hung

pub overflow_mul-result : goal.overflow_mul-result
overflow_mul-result c = omega (arith, new_most c.args.points.now c.args.x.now c.args.t.now _ _ (gained_nodes _ _ _ _ c.requires.t_value) c.counted.ensures (omega (arith, c.if-n-q.false)) c.copy_node-k.ensures)

pub overflow_add-result : goal.overflow_add-result
overflow_add-result c = omega (arith, new_most c.args.points.now c.args.x.now c.args.t.now _ _ (gained_nodes _ _ _ _ c.requires.t_value) c.counted.ensures (omega (arith, c.if-n-q.false)) c.copy_node-k.ensures)

pub overflow_add-result-2 : goal.overflow_add-result-2
overflow_add-result-2 c = omega (arith, new_most c.args.points.now c.args.x.now c.args.t.now _ _ (gained_nodes _ _ _ _ c.requires.t_value) c.counted.ensures (omega (arith, c.if-n-q.false)) c.copy_node-k.ensures)

pub returns : goal.returns
returns c = search new_some
