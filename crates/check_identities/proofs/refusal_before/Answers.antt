-- The refusal of the tables, or this one.
use Rattle.check_identities.proofs.Refusing.{second_left, first_left}
use Rattle.check_identities.proofs.refusal_before.Goals as goal

pub returns-in-Ok : goal.returns-in-Ok
returns-in-Ok c = second_left _ c.document.ensures c.in-Ok.is

pub returns-in-Err : goal.returns-in-Err
returns-in-Err c = first_left _ c.document.ensures c.in-Err.is
