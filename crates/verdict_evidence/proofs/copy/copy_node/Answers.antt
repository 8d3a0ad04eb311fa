-- The first byte behind the tree's nodes.
use Rattle.verdict_evidence.proofs.Opening.{copy_first}
use Rattle.verdict_evidence.proofs.Copying.{both_most}
use Rattle.verdict_evidence.proofs.copy.copy_node.Goals as goal

pub first_behind-requires : goal.first_behind-requires
first_behind-requires c = search both_most

pub returns : goal.returns
returns c = search copy_first
