-- The words first, then the end, then the frame.
use Rattle.batch_walk.proofs.Branches.{step_long, step-over, step_frame}
use Rattle.batch_walk.proofs.step.Goals as goal

pub returns-then-b-gt-BATCH_LIMIT : goal.returns-then-b-gt-BATCH_LIMIT
returns-then-b-gt-BATCH_LIMIT c = search step_long

pub returns-then-b-at : goal.returns-then-b-at
returns-then-b-at c = search step-over

pub returns : goal.returns
returns c = search step_frame
