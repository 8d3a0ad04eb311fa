-- The room is enough, so the text lies at the front of it.
use Rattle.text_printer.proofs.Enough.{room_enough, text_front}
use Rattle.plan.proofs.text.Goals as goal

pub returns-in-Err : goal.returns-in-Err
returns-in-Err c = absurd (room_enough c.print.ensures c.in-Err.is c.requires)

pub returns-in-Ok : goal.returns-in-Ok
returns-in-Ok c = let e = text_front c.print.ensures c.in-Ok.is in record { within = e.0; prints = e.1 }
