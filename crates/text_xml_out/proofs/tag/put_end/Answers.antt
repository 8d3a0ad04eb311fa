-- Two bytes, the name, a byte.
use native.Mathlib.Omega.{arith}
use Rattle.text_xml.specs.Tags.{end_tag}
use Rattle.text_xml_out.proofs.Places.{wrote_long}
use Rattle.text_xml_out.proofs.Tagging.{end_first, end_second, end_name, end_sum, end_last, end_put}
use Rattle.text_xml_out.proofs.tag.put_end.Goals as goal

pub bounds-out-at : goal.bounds-out-at
bounds-out-at c = end_first c.args.label c.args.out.now c.args.at c.requires

pub overflow_add-out : goal.overflow_add-out
overflow_add-out c = omega (arith, end_first c.args.label c.args.out.now c.args.at c.requires)

pub bounds-out-at-2 : goal.bounds-out-at-2
bounds-out-at-2 c = end_second c.args.label c.args.out.now c.args.at c.requires

pub overflow_add-at : goal.overflow_add-at
overflow_add-at c = omega (arith, end_name c.args.label c.args.out.now c.args.at c.requires)

pub put_name-to-requires : goal.put_name-to-requires
put_name-to-requires c = end_name c.args.label c.args.out.now c.args.at c.requires

pub bounds-out-to : goal.bounds-out-to
bounds-out-to c = end_last c.args.label c.args.out.now c.args.at c.requires c.put_name-to.ensures

pub overflow_add-result : goal.overflow_add-result
overflow_add-result c = omega (arith, end_sum c.args.label c.args.out.now c.args.at c.requires c.put_name-to.ensures)

pub shape_of-out : goal.shape_of-out
shape_of-out c = wrote_long (end_tag c.args.label) c.args.out.now c.args.at (end_put c.args.label c.args.out.now c.args.at c.requires c.put_name-to.ensures)

pub returns : goal.returns
returns c = end_put c.args.label c.args.out.now c.args.at c.requires c.put_name-to.ensures
