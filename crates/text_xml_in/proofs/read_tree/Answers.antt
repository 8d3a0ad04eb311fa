-- The text first; then the rows, or nothing changes.
use Rattle.tables.proofs.Branches.{handed}
use Rattle.text_xml_in.proofs.Promise.{tags_right, read_on, read_off}
use Rattle.text_xml_in.proofs.read_tree.Goals as goal

pub read_rows-requires : goal.read_rows-requires
read_rows-requires c = tags_right _ c.tags_checked.ensures c.in_ok-tags_checked.was

pub returns : goal.returns
returns c = read_on _ c.tags_checked.ensures c.args.words.now c.in_ok-tags_checked.was c.read_rows.new.words c.read_rows.result c.read_rows.ensures

pub returns-in_err-tags_checked : goal.returns-in_err-tags_checked
returns-in_err-tags_checked c = rw (handed c.from_residual.ensures) (read_off _ c.tags_checked.ensures c.args.words.now c.in_err-tags_checked.was)
