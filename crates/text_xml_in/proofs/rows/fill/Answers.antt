use Rattle.text_xml_in.proofs.Standing.{stands_small}
use Rattle.text_xml_in.proofs.Filling.{filled_start, filled-length, filled_puttable, filled_next, filled_end}
use Rattle.text_xml_in.proofs.rows.fill.Goals as goal

pub loop-i-init : goal.loop-i-init
loop-i-init c = filled_start _ _

pub put_on-k-requires : goal.put_on-k-requires
put_on-k-requires c = filled_puttable c.requires c.loop-i.invariant c.loop-i-test.true c.byte-c.ensures

pub number_on-v-requires : goal.number_on-v-requires
number_on-v-requires c = stands_small _ _ _ _ _ c.loop-i.invariant.at

pub loop-i-preserved : goal.loop-i-preserved
loop-i-preserved c = filled_next c.requires c.loop-i.invariant c.loop-i-test.true c.byte-c.ensures c.stage_on-q.ensures c.number_on-v.ensures c.inside_on-inside.ensures c.put_on-k.ensures

pub shape_of-words : goal.shape_of-words
shape_of-words c = filled-length c.requires c.loop-i.invariant

pub returns : goal.returns
returns c = filled_end c.requires c.loop-i.invariant c.loop-i-test.false
