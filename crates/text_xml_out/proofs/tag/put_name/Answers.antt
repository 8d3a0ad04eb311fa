-- A byte, and the digits behind it.
use Rattle.text_xml.specs.Tags.{element_name}
use Rattle.text_xml_out.proofs.Places.{wrote_long}
use Rattle.text_xml_out.proofs.Tagging.{name_first, name_rest, name-put}
use Rattle.text_xml_out.proofs.tag.put_name.Goals as goal

pub bounds-out-at : goal.bounds-out-at
bounds-out-at c = name_first c.args.label c.args.out.now c.args.at c.requires

pub put_decimal-requires : goal.put_decimal-requires
put_decimal-requires c = name_rest c.args.label c.args.out.now c.args.at c.requires

pub shape_of-out : goal.shape_of-out
shape_of-out c = wrote_long (element_name c.args.label) c.args.out.now c.args.at (name-put c.args.label c.args.out.now c.args.at c.put_decimal.ensures)

pub returns : goal.returns
returns c = name-put c.args.label c.args.out.now c.args.at c.put_decimal.ensures
