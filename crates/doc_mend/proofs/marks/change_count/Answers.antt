-- A row for as many nodes as a document can have.
use native.Mathlib.Omega.{arith}
use Rattle.tables.proofs.Soundness.{shape_facts}
use Rattle.doc_mend.proofs.marks.change_count.Goals as goal

pub count-requires : goal.count-requires
count-requires c = (c.requires, omega (arith, (shape_facts _ c.requires).1))
