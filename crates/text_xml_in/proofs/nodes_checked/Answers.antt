-- The branches of the code are those of the definition.
use Rattle.text_xml_in.proofs.Promise.{nodes_many, nodes_few}
use Rattle.text_xml_in.proofs.nodes_checked.Goals as goal

pub returns-then-k-gt-TREE_LIMIT : goal.returns-then-k-gt-TREE_LIMIT
returns-then-k-gt-TREE_LIMIT c = nodes_many _ _ c.if-k-gt-TREE_LIMIT.true c.refused.ensures

pub returns : goal.returns
returns c = nodes_few _ _ c.if-k-gt-TREE_LIMIT.false c.output.ensures
