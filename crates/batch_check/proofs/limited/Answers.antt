-- The words first, then the frames.
use Rattle.batch_check.proofs.Left.{words_over, words_within}
use Rattle.batch_check.proofs.limited.Goals as goal

pub returns-then-b-gt-BATCH_LIMIT : goal.returns-then-b-gt-BATCH_LIMIT
returns-then-b-gt-BATCH_LIMIT c = words_over _ c.if-b-gt-BATCH_LIMIT.true

pub returns : goal.returns
returns c = words_within _ c.if-b-gt-BATCH_LIMIT.false c.walked.ensures
