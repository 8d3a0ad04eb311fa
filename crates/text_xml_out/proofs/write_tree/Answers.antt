-- The tree's checks first; then its text, or nothing changes.
use mathlib.Core.Path.{sym, ◌∙◌}
use Rattle.tables.proofs.Branches.{handed}
use Rattle.text_xml_out.proofs.Promise.{tree_refused}
use Rattle.text_xml_out.proofs.write_tree.Goals as goal

pub write_linked-requires : goal.write_linked-requires
write_linked-requires c = sym c.tree.ensures ∙ c.in_ok-tree.was

pub returns-in_err-tree : goal.returns-in_err-tree
returns-in_err-tree c = rw (handed c.from_residual.ensures) (tree_refused _ _ c.tree.ensures c.in_err-tree.was)
