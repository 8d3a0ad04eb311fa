-- The numbers that are read are those of the cells before.
use Rattle.verdict_meeting.proofs.Cells.{both_word, read_word, update_word, cell_number, cell_move}
use Rattle.verdict_meeting.proofs.numbers.cell_of.Goals as goal

pub both_land-both-requires : goal.both_land-both-requires
both_land-both-requires c = search both_word

pub lands_alone-read-requires : goal.lands_alone-read-requires
lands_alone-read-requires c = search read_word

pub lands_alone-update-requires : goal.lands_alone-update-requires
lands_alone-update-requires c = search update_word

pub returns : goal.returns
returns c = (search cell_number, search cell_move)
