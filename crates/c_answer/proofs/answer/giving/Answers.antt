-- The values, and no refusal.
use mathlib.Core.Path.{refl}
use Rattle.c_answer.proofs.answer.giving.Goals as goal

pub returns : goal.returns
returns c = refl
