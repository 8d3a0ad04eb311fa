-- A node between its tags, or by itself: at each call the node's distance to the table's end falls.
use mathlib.Core.Path.{refl, ◌∙◌}
use native.Mathlib.Omega.{arith}
use Rattle.text_xml.specs.Tags.{tags_of}
use Rattle.text_xml_out.proofs.Places.{wrote_long}
use Rattle.text_xml_out.proofs.Nodes.{alone_room, alone-put, open_room, opened, child_writable, child_nearer, one_more, one_less, close_room, closed}
use Rattle.text_xml_out.proofs.node.+put_node.Goals as goal

pub put_short-requires : goal.put_short-requires
put_short-requires t c = alone_room c.args.t.now c.args.first.now c.args.next.now c.args.v c.args.out.now c.args.at c.requires c.second_word-label.ensures c.word-child.ensures c.if-child-eq0.true

pub shape_of-out-then-child-eq0 : goal.shape_of-out-then-child-eq0
shape_of-out-then-child-eq0 t c = wrote_long (tags_of c.args.t.now c.args.v) c.args.out.now c.args.at (alone-put c.args.t.now c.args.first.now c.args.next.now c.args.v c.args.out.now c.args.at c.requires c.second_word-label.ensures c.word-child.ensures c.if-child-eq0.true c.put_short.ensures)

pub returns-then-child-eq0 : goal.returns-then-child-eq0
returns-then-child-eq0 t c = alone-put c.args.t.now c.args.first.now c.args.next.now c.args.v c.args.out.now c.args.at c.requires c.second_word-label.ensures c.word-child.ensures c.if-child-eq0.true c.put_short.ensures

pub put_start-to-requires : goal.put_start-to-requires
put_start-to-requires t c = open_room c.args.t.now c.args.first.now c.args.next.now c.args.v c.args.out.now c.args.at c.requires c.second_word-label.ensures c.word-child.ensures c.if-child-eq0.false

pub loop-child-init : goal.loop-child-init
loop-child-init t c = (refl, opened c.args.t.now c.args.first.now c.args.next.now c.args.v c.args.out.now c.args.at c.requires c.second_word-label.ensures c.word-child.ensures c.if-child-eq0.false _ _)

pub put_node-to-requires : goal.put_node-to-requires
put_node-to-requires t c = (omega (arith, c.decreases, child_nearer c.args.t.now c.args.first.now c.args.next.now c.args.v c.args.out.now c.args.at c.requires c.second_word-label.ensures c.word-child.ensures c.if-child-eq0.false c.put_start-to.ensures c.loop-child.invariant.1 c.loop-child-test.true), child_writable c.args.t.now c.args.first.now c.args.next.now c.args.v c.args.out.now c.args.at c.requires c.second_word-label.ensures c.word-child.ensures c.if-child-eq0.false c.put_start-to.ensures c.loop-child.invariant.1 c.loop-child-test.true)

pub loop-child-smaller : goal.loop-child-smaller
loop-child-smaller t c = one_less c.args.t.now c.args.first.now c.args.next.now c.args.v c.args.out.now c.args.at c.requires c.second_word-label.ensures c.word-child.ensures c.if-child-eq0.false c.put_start-to.ensures c.loop-child.invariant.1 c.loop-child-test.true c.word-child-in-loop-child.ensures

pub loop-child-preserved : goal.loop-child-preserved
loop-child-preserved t c = (wrote_long _ _ _ c.put_node-to.ensures ∙ c.loop-child.invariant.0, one_more c.args.t.now c.args.first.now c.args.next.now c.args.v c.args.out.now c.args.at c.requires c.second_word-label.ensures c.word-child.ensures c.if-child-eq0.false c.put_start-to.ensures c.loop-child.invariant.1 c.loop-child-test.true c.word-child-in-loop-child.ensures c.put_node-to.ensures)

pub put_end-requires : goal.put_end-requires
put_end-requires t c = close_room c.args.t.now c.args.first.now c.args.next.now c.args.v c.args.out.now c.args.at c.requires c.second_word-label.ensures c.word-child.ensures c.if-child-eq0.false c.put_start-to.ensures c.loop-child.invariant.1 c.loop-child-test.false

pub shape_of-out : goal.shape_of-out
shape_of-out t c = wrote_long (tags_of c.args.t.now c.args.v) c.args.out.now c.args.at (closed c.args.t.now c.args.first.now c.args.next.now c.args.v c.args.out.now c.args.at c.requires c.second_word-label.ensures c.word-child.ensures c.if-child-eq0.false c.put_start-to.ensures c.loop-child.invariant.1 c.loop-child-test.false c.put_end.ensures)

pub returns : goal.returns
returns t c = closed c.args.t.now c.args.first.now c.args.next.now c.args.v c.args.out.now c.args.at c.requires c.second_word-label.ensures c.word-child.ensures c.if-child-eq0.false c.put_start-to.ensures c.loop-child.invariant.1 c.loop-child-test.false c.put_end.ensures
