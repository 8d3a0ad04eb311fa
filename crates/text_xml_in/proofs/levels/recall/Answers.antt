use mathlib.Core.Path.{sym, ◌∙◌}
use Rattle.text_xml_in.proofs.Recalling.{recall_start, recall_all, recall_small, recall_depth, recall_next}
use Rattle.text_xml_in.proofs.levels.recall.Goals as goal

pub loop-j-init : goal.loop-j-init
loop-j-init c = recall_start c.requires

pub note-requires : goal.note-requires
note-requires c = (recall_small c.requires c.loop-j.invariant c.loop-j-test.true, c.loop-j.invariant.from.long)

pub depth_on-e-requires : goal.depth_on-e-requires
depth_on-e-requires c = recall_depth c.requires c.loop-j.invariant c.loop-j-test.true

pub number_on-v-requires : goal.number_on-v-requires
number_on-v-requires c = recall_small c.requires c.loop-j.invariant c.loop-j-test.true

pub loop-j-preserved : goal.loop-j-preserved
loop-j-preserved c = recall_next c.requires c.loop-j.invariant c.loop-j-test.true c.byte-c.ensures c.note.ensures c.stage_on-q.ensures c.number_on-v.ensures c.depth_on-e.ensures

pub shape_of-row : goal.shape_of-row
shape_of-row c = c.loop-j.invariant.from.long ∙ sym c.requires.long

pub returns : goal.returns
returns c = recall_all c.requires c.loop-j.invariant c.loop-j-test.false
