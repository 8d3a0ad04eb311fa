use Rattle.batch_mode.proofs.Branches.{deep_else}
use Rattle.batch_mode.proofs.mode_of.Goals as goal

pub returns : goal.returns
returns c = rw c.unwrap_or.ensures (deep_else _ _ c.try_from.ensures)
