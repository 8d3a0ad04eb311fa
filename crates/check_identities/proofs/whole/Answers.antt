-- The tables first, then the identities.
use Rattle.identities.specs.Checks.{whole_check}
use Rattle.tables.proofs.Branches.{handed, then_on, then_off}
use Rattle.check_identities.proofs.whole.Goals as goal

pub returns : goal.returns
unfolding whole_check
returns c = then_on _ c.document.ensures c.in_ok-document.was c.identities.ensures

pub returns-in_err-document : goal.returns-in_err-document
unfolding whole_check
returns-in_err-document c = rw (handed c.from_residual.ensures) (then_off _ c.document.ensures c.in_err-document.was)
