-- One byte, and that one.
use mathlib.Core.Path.{◌∙◌}
use borrow.Author.Tests.{ne_eqb}
use Rattle.text_pattern_in.proofs.Branches.{star_long, star_byte}
use Rattle.text_pattern_in.proofs.steps.is_star.Goals as goal

pub returns-then-w-eq1 : goal.returns-then-w-eq1
returns-then-w-eq1 c = star_byte _ c.if-w-eq1.true c.byte.ensures

pub returns-else-w-eq1 : goal.returns-else-w-eq1
returns-else-w-eq1 c = ne_eqb _ 1 c.if-w-eq1.false ∙ star_long _ c.if-w-eq1.false
