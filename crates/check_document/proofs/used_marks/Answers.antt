-- No node removed, or no mark wrong: the marks' check is fine.
use Rattle.check_document.proofs.Counts.{all_fine}
use Rattle.check_document.proofs.Marks.{none_fine, some_wrong}
use Rattle.check_document.proofs.used_marks.Goals as goal

pub returns-then-greatest-eq0 : goal.returns-then-greatest-eq0
returns-then-greatest-eq0 c = none_fine _ _ _ c.requires.4 (c.greatest.ensures.0 c.if-greatest-eq0.true)

pub returns-then-wrong_marks-eq0 : goal.returns-then-wrong_marks-eq0
returns-then-wrong_marks-eq0 c = all_fine _ _ (c.wrong_marks.ensures.0 c.if-wrong_marks-eq0.true)

pub returns : goal.returns
returns c = some_wrong _ _ _ c.refused.ensures (λ all. c.if-wrong_marks-eq0.false (c.wrong_marks.ensures.1 all))
