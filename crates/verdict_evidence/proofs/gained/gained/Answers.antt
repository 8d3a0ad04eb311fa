-- The update points, and the nodes at which the read can enter.
use Rattle.verdict_evidence.proofs.Granted.{gained_update}
use Rattle.verdict_evidence.proofs.gained.gained.Goals as goal

pub selected_row-points-requires : goal.selected_row-points-requires
selected_row-points-requires c = search gained_update
