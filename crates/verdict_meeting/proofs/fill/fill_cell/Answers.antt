-- The number and the move are written where they belong.
use Rattle.verdict_meeting.proofs.Cells.{number_fits, number_inside, move_fits, row_stored, move_stored}
use Rattle.verdict_meeting.proofs.fill.fill_cell.Goals as goal

pub store_number-requires : goal.store_number-requires
store_number-requires c = (search number_fits, search number_inside)

pub overflow_add-start : goal.overflow_add-start
overflow_add-start c = search move_fits

pub returns : goal.returns
returns c = (search row_stored, search move_stored)
