use Prim.Native.Nat.{◌+◌}
use mathlib.Core.Path.{◌≡◌, ◌∙◌}
use native.Mathlib.Omega.{arith}
use Rattle.text_xml_out.proofs.Sizes.{bytes_to, bytes_none, bytes_all, bytes_below, node_digits, node_more}
use Rattle.text_xml_out.proofs.bytes.tree_bytes.Goals as goal

-- a node more

pub loop-v-init : goal.loop-v-init
loop-v-init c = (omega arith, bytes_none c.args.t.now)

pub own-bytes-requires : goal.own-bytes-requires
own-bytes-requires c = node_digits c.requires c.loop-v-test.true c.second_word.ensures c.digits.ensures

pub overflow_add-bytes : goal.overflow_add-bytes
overflow_add-bytes c = let more : c.loop-v.bytes + c.own-bytes.result ≡ bytes_to c.args.t.now (c.loop-v.v + 1) = node_more c.requires c.loop-v-test.true c.second_word.ensures c.digits.ensures c.word.ensures c.own-bytes.ensures c.loop-v.invariant.1 in omega (arith, more, bytes_below c.requires (c.loop-v.v + 1) (omega arith))

pub loop-v-preserved : goal.loop-v-preserved
loop-v-preserved c = let more : c.loop-v.bytes + c.own-bytes.result ≡ bytes_to c.args.t.now (c.loop-v.v + 1) = node_more c.requires c.loop-v-test.true c.second_word.ensures c.digits.ensures c.word.ensures c.own-bytes.ensures c.loop-v.invariant.1 in (omega arith, more)

pub returns : goal.returns
returns c = c.loop-v.invariant.1 ∙ bytes_all _ _ c.loop-v.invariant.0 c.loop-v-test.false
