-- A wildcard agrees with any label, a name with its own.
use Rattle.doc_plain.proofs.Landing.{agrees-any, agrees-name}
use Rattle.doc_plain.proofs.agrees.Goals as goal

pub returns-then-asked-eq0 : goal.returns-then-asked-eq0
returns-then-asked-eq0 c = search agrees-any

pub returns : goal.returns
returns c = search agrees-name
