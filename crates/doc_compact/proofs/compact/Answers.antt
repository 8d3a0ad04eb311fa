-- The check first; then the nodes are closed up, or nothing changes.
use mathlib.Core.Path.{refl}
use native.Mathlib.Omega.{arith}
use Rattle.doc_compact.proofs.Promises.{closable, compact_done, compact_refused}
use Rattle.tables.proofs.Branches.{handed}
use Rattle.doc_compact.proofs.compact.Goals as goal

pub closed_up-requires : goal.closed_up-requires
closed_up-requires c = closable _ c.whole.ensures c.in_ok-whole.was (λ i. omega (arith, c.slice_known-1.given i))

pub returns : goal.returns
returns c = compact_done _ c.whole.ensures c.in_ok-whole.was c.closed_up.ensures refl

pub returns-in_err-whole : goal.returns-in_err-whole
returns-in_err-whole c = rw (handed c.from_residual.ensures) (compact_refused _ c.whole.ensures c.in_err-whole.was)
