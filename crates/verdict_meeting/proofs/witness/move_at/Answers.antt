-- The move of the cell.
use Rattle.verdict_meeting.proofs.Places.{place_read}
use Rattle.verdict_meeting.proofs.witness.move_at.Goals as goal

pub returns : goal.returns
returns c = search place_read
