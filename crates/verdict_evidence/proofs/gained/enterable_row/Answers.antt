-- The states from which the read enters, and the nodes at which one of them stands.
use Rattle.verdict_evidence.proofs.Opening.{row_enterable}
use Rattle.verdict_evidence.proofs.Granted.{gained_read, gained_entering, gained_steps}
use Rattle.verdict_evidence.proofs.gained.enterable_row.Goals as goal

pub standing_row-requires : goal.standing_row-requires
standing_row-requires c = gained_read _ _ _ _ c.requires

pub returns : goal.returns
returns c = let some = gained_steps _ _ _ _ c.requires in row_enterable _ _ (gained_entering _ _ _ _ c.requires) c.entering_states-states.ensures some.0 some.1 _ _ c.standing_row.ensures
