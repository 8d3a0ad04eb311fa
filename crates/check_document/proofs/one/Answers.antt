-- A flag as a number.
use Rattle.check_document.proofs.Counts.{flag_number}
use Rattle.check_document.proofs.one.Goals as goal

pub returns : goal.returns
returns c = flag_number c.args.fault
