-- The room decides the answer.
use native.Mathlib.Omega.{arith}
use Rattle.doc_insert.proofs.Branches.{answer_on, answer_off, product_small}
use Rattle.tables.proofs.Branches.{handed}
use Rattle.doc_insert.proofs.answered.Goals as goal

pub overflow_mul-new : goal.overflow_mul-new
overflow_mul-new c = omega (arith, product_small c.requires)

pub overflow_add-end : goal.overflow_add-end
overflow_add-end c = omega (arith, product_small c.requires)

pub overflow_add-last : goal.overflow_add-last
overflow_add-last c = omega (arith, product_small c.requires)

pub returns : goal.returns
returns c = answer_on _ _ _ c.room.ensures c.in_ok-room.was

pub returns-in_err-room : goal.returns-in_err-room
returns-in_err-room c = rw (handed c.from_residual.ensures) (answer_off _ _ _ c.room.ensures c.in_err-room.was)
