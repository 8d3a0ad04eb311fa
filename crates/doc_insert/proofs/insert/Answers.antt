-- The plan first; then the copies are made and named, or nothing changes.
use native.Mathlib.Omega.{arith}
use Rattle.tables.proofs.Branches.{handed}
use Rattle.doc_insert.proofs.Promises.{grows, copies-nameable, insert_done, insert_refused}
use Rattle.doc_insert.proofs.insert.Goals as goal

pub overflow_sub-made : goal.overflow_sub-made
overflow_sub-made c = grows _ _ _ c.planned.ensures c.in_ok-made.was

pub name_copies-requires : goal.name_copies-requires
name_copies-requires c = copies-nameable _ _ _ c.planned.ensures c.in_ok-made.was

pub returns : goal.returns
returns c = insert_done _ _ _ c.planned.ensures c.in_ok-made.was (λ i. omega (arith, c.shared_slice_known-2-1.given i)) (λ i. omega (arith, c.slice_known-1.given i)) c.grafts.ensures c.name_copies.ensures

pub returns-in_err-made : goal.returns-in_err-made
returns-in_err-made c = rw (handed c.from_residual.ensures) (insert_refused _ _ _ c.planned.ensures c.in_err-made.was)
