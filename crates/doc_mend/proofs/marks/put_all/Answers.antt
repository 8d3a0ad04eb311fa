use Prim.Native.Nat.{◌-◌}
use Rattle.tables.proofs.Soundness.{shape_facts}
use Rattle.doc_mend.proofs.Passing.{put_start, put_more, put_end, puttable, row_kept, list_kept}
use borrow.Author.Rules.{rules}
use Rattle.doc_mend.proofs.marks.put_all.Goals as goal

pub loop-v-init : goal.loop-v-init
loop-v-init c = (put_start _ c.requires.0 _ c.requires.1, search rules)

pub put_mended-at-requires : goal.put_mended-at-requires
put_mended-at-requires c = puttable _ c.requires.0 _ c.requires.1 c.loop-v-test.true c.loop-v.invariant.0

pub loop-v-preserved : goal.loop-v-preserved
loop-v-preserved c = (put_more _ c.requires.0 _ c.requires.1 c.loop-v-test.true c.loop-v.invariant.0 c.put_mended-at.ensures, search rules)

pub shape_of-marks : goal.shape_of-marks
shape_of-marks c = row_kept _ c.requires.0 _ (shape_facts _ c.requires.0).3 c.loop-v.invariant.1 c.loop-v.invariant.0.written

pub shape_of-list : goal.shape_of-list
shape_of-list c = list_kept _ c.requires.0 _ c.requires.1 c.loop-v.invariant.1 c.loop-v.invariant.0

pub returns : goal.returns
returns c = put_end _ c.requires.0 _ c.requires.1 c.loop-v.invariant.1 c.loop-v-test.false c.loop-v.invariant.0
