-- A byte, the name, a byte.
use native.Mathlib.Omega.{arith}
use Rattle.text_xml.specs.Tags.{start_tag}
use Rattle.text_xml_out.proofs.Places.{wrote_long}
use Rattle.text_xml_out.proofs.Tagging.{start_first, start_name, start_sum, start_last, start_put}
use Rattle.text_xml_out.proofs.tag.put_start.Goals as goal

pub bounds-out-at : goal.bounds-out-at
bounds-out-at c = start_first c.args.label c.args.out.now c.args.at c.requires

pub put_name-to-requires : goal.put_name-to-requires
put_name-to-requires c = start_name c.args.label c.args.out.now c.args.at c.requires

pub bounds-out-to : goal.bounds-out-to
bounds-out-to c = start_last c.args.label c.args.out.now c.args.at c.requires c.put_name-to.ensures

pub overflow_add-result : goal.overflow_add-result
overflow_add-result c = omega (arith, start_sum c.args.label c.args.out.now c.args.at c.requires c.put_name-to.ensures)

pub shape_of-out : goal.shape_of-out
shape_of-out c = wrote_long (start_tag c.args.label) c.args.out.now c.args.at (start_put c.args.label c.args.out.now c.args.at c.requires c.put_name-to.ensures)

pub returns : goal.returns
returns c = start_put c.args.label c.args.out.now c.args.at c.requires c.put_name-to.ensures
