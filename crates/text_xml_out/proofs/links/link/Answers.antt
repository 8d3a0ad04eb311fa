use Prim.Native.Nat.{◌-◌, ◌<◌}
use native.Mathlib.Omega.{arith}
use Rattle.text_xml_out.proofs.Linking.{link_none, link_all, link_up, link_more}
use Rattle.text_xml_out.proofs.links.link.Goals as goal

pub loop-v-init : goal.loop-v-init
loop-v-init c = link_none c.requires

pub offset_bounds-first-u : goal.offset_bounds-first-u
offset_bounds-first-u c = let up : c.first_word-u.result < c.loop-v.v - 1 = link_up c.requires c.loop-v.invariant c.loop-v-test.true c.first_word-u.ensures in omega (arith, up)

pub bounds-first-u : goal.bounds-first-u
bounds-first-u c = let up : c.first_word-u.result < c.loop-v.v - 1 = link_up c.requires c.loop-v.invariant c.loop-v-test.true c.first_word-u.ensures in omega (arith, up)

pub offset_bounds-first-u-in-loop-v : goal.offset_bounds-first-u-in-loop-v
offset_bounds-first-u-in-loop-v c = let up : c.first_word-u.result < c.loop-v.v - 1 = link_up c.requires c.loop-v.invariant c.loop-v-test.true c.first_word-u.ensures in omega (arith, up)

pub bounds-first-u-in-loop-v : goal.bounds-first-u-in-loop-v
bounds-first-u-in-loop-v c = let up : c.first_word-u.result < c.loop-v.v - 1 = link_up c.requires c.loop-v.invariant c.loop-v-test.true c.first_word-u.ensures in omega (arith, up)

pub loop-v-preserved : goal.loop-v-preserved
loop-v-preserved c = link_more c.requires c.loop-v.invariant c.loop-v-test.true c.first_word-u.ensures

pub shape_of-first : goal.shape_of-first
shape_of-first c = c.loop-v.invariant.firsts

pub shape_of-next : goal.shape_of-next
shape_of-next c = c.loop-v.invariant.nexts

pub returns : goal.returns
returns c = link_all c.requires c.loop-v.invariant c.loop-v-test.false
