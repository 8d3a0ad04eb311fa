-- Places are small numbers.
use Rattle.verdict_meeting.proofs.Places.{product_fits, place-fits, place_is}
use Rattle.verdict_meeting.proofs.fill.cell_at.Goals as goal

pub overflow_mul-result : goal.overflow_mul-result
overflow_mul-result c = search product_fits

pub overflow_add-result : goal.overflow_add-result
overflow_add-result c = search place-fits

pub returns : goal.returns
returns c = search place_is
