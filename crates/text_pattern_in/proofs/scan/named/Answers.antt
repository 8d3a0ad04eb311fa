-- The branches of the code are those of the definition.
use Rattle.text_pattern_in.proofs.Branches.{named-slash, named_start, named-on, named-lost}
use Rattle.text_pattern_in.proofs.scan.named.Goals as goal

pub returns-then-k-eq1 : goal.returns-then-k-eq1
returns-then-k-eq1 c = search named-slash

pub returns-then-k-eq3 : goal.returns-then-k-eq3
returns-then-k-eq3 c = search named_start

pub returns-then-k-eq4 : goal.returns-then-k-eq4
returns-then-k-eq4 c = search named-on

pub returns : goal.returns
returns c = search named-lost
