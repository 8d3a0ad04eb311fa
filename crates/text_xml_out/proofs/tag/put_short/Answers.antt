-- A byte, the name, two bytes.
use native.Mathlib.Omega.{arith}
use Rattle.text_xml.specs.Tags.{short_tag}
use Rattle.text_xml_out.proofs.Places.{wrote_long}
use Rattle.text_xml_out.proofs.Tagging.{short_first, short_name, short_sum, short_slash, short_last, short_put}
use Rattle.text_xml_out.proofs.tag.put_short.Goals as goal

pub bounds-out-at : goal.bounds-out-at
bounds-out-at c = short_first c.args.label c.args.out.now c.args.at c.requires

pub put_name-to-requires : goal.put_name-to-requires
put_name-to-requires c = short_name c.args.label c.args.out.now c.args.at c.requires

pub bounds-out-to : goal.bounds-out-to
bounds-out-to c = short_slash c.args.label c.args.out.now c.args.at c.requires c.put_name-to.ensures

pub overflow_add-out : goal.overflow_add-out
overflow_add-out c = omega (arith, short_sum c.args.label c.args.out.now c.args.at c.requires c.put_name-to.ensures)

pub bounds-out-to-2 : goal.bounds-out-to-2
bounds-out-to-2 c = short_last c.args.label c.args.out.now c.args.at c.requires c.put_name-to.ensures

pub overflow_add-result : goal.overflow_add-result
overflow_add-result c = omega (arith, short_sum c.args.label c.args.out.now c.args.at c.requires c.put_name-to.ensures)

pub shape_of-out : goal.shape_of-out
shape_of-out c = wrote_long (short_tag c.args.label) c.args.out.now c.args.at (short_put c.args.label c.args.out.now c.args.at c.requires c.put_name-to.ensures)

pub returns : goal.returns
returns c = short_put c.args.label c.args.out.now c.args.at c.requires c.put_name-to.ensures
