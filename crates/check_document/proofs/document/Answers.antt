-- The shape first, then the marks.
use mathlib.Core.Path.{sym, ◌∙◌}
use Rattle.tables.proofs.Branches.{handed, then_on, then_off}
use Rattle.tables.proofs.Soundness.{shape_facts, shape_nodes, document_parts}
use Rattle.check_document.proofs.document.Goals as goal

pub used_marks-requires : goal.used_marks-requires
used_marks-requires c = let fine = sym c.shape.ensures ∙ c.in_ok-shape.was in let used = shape_facts _ fine in (used.0, used.1, used.2, used.3, shape_nodes _ fine)

pub returns : goal.returns
returns c = then_on _ c.shape.ensures c.in_ok-shape.was c.used_marks.ensures ∙ sym (document_parts _)

pub returns-in_err-shape : goal.returns-in_err-shape
returns-in_err-shape c = rw (handed c.from_residual.ensures) (then_off _ c.shape.ensures c.in_err-shape.was ∙ sym (document_parts _))
