-- Nothing wrong: the nodes' check is fine.
use Rattle.check_document.proofs.Counts.{all_fine}
use Rattle.check_document.proofs.used_nodes.Goals as goal

pub returns-then-wrongs-eq0 : goal.returns-then-wrongs-eq0
returns-then-wrongs-eq0 c = all_fine _ _ (c.wrongs.ensures.0 c.if-wrongs-eq0.true)
