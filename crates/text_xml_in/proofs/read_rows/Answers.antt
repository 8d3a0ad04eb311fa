-- The nodes and the room first; then the rows are put, or nothing changes.
use native.Mathlib.Omega.{arith}
use Rattle.tables.proofs.Branches.{handed}
use Rattle.text_xml_in.proofs.Promise.{rows_few, rows_fillable, rows_put, rows_off}
use Rattle.text_xml_in.proofs.read_rows.Goals as goal

pub fill-requires : goal.fill-requires
fill-requires c = rows_fillable _ _ c.requires c.slashes-k.ensures c.nodes_checked.ensures c.in_ok-nodes_checked.was

pub overflow_mul-result : goal.overflow_mul-result
overflow_mul-result c = omega (arith, rows_few _ c.args.words.now c.requires c.slashes-k.ensures c.nodes_checked.ensures c.in_ok-nodes_checked.was)

pub returns : goal.returns
returns c = rows_put _ _ c.requires c.slashes-k.ensures c.nodes_checked.ensures c.in_ok-nodes_checked.was c.fill.ensures

pub returns-in_err-nodes_checked : goal.returns-in_err-nodes_checked
returns-in_err-nodes_checked c = rw (handed c.from_residual.ensures) (rows_off _ _ c.requires c.slashes-k.ensures c.nodes_checked.ensures c.in_err-nodes_checked.was)
