-- The numbers first, then the room.
use mathlib.Core.Path.{sym, ◌∙◌}
use Rattle.tables.proofs.Branches.{handed, then_on, then_off}
use Rattle.text_pattern_out.proofs.Promise.{numbered}
use Rattle.text_pattern_out.proofs.check.numbers_and_room.Goals as goal

pub room_checked-requires : goal.room_checked-requires
room_checked-requires c = numbered _ _ (sym c.numbers.ensures ∙ c.in_ok-numbers.was)

pub returns : goal.returns
returns c = then_on _ c.numbers.ensures c.in_ok-numbers.was c.room_checked.ensures

pub returns-in_err-numbers : goal.returns-in_err-numbers
returns-in_err-numbers c = rw (handed c.from_residual.ensures) (then_off _ c.numbers.ensures c.in_err-numbers.was)
