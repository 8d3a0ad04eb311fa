-- The checks first; then the selected nodes are struck, or nothing changes.
use borrow.Author.Rules.{rules}
use native.Mathlib.Omega.{arith}
use Rattle.doc_delete.proofs.Promises.{strikable, delete_done, delete_refused}
use Rattle.tables.proofs.Branches.{handed}
use Rattle.doc_delete.proofs.deleting.Goals as goal

pub strike-requires : goal.strike-requires
strike-requires c = strikable _ _ c.asked.ensures c.in_ok-asked.was (λ i. omega (arith, c.shared_slice_known-2-1.given i)) (search rules)

pub returns : goal.returns
returns c = delete_done _ _ c.asked.ensures c.in_ok-asked.was c.strike.ensures

pub returns-in_err-asked : goal.returns-in_err-asked
returns-in_err-asked c = rw (handed c.from_residual.ensures) (delete_refused _ _ c.asked.ensures c.in_err-asked.was)
