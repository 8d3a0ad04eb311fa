use Prim.Native.Nat.{◌*◌}
use native.Mathlib.Omega.{arith}
use borrow.Author.Rules.{rules}
use Rattle.text_plan_lines.proofs.Texts.{text_start, text_more, text_long, text_end, rest_room}
use Rattle.text_plan_lines.proofs.write_frames.Goals as goal

pub loop-k-init : goal.loop-k-init
loop-k-init c = (search rules, search rules, text_start _ _ _)

pub write_three-requires : goal.write_three-requires
write_three-requires c = rest_room c.loop-k.out (13 * c.loop-k.k) 13 (omega (arith, c.loop-k.invariant.1, c.requires, c.loop-k-test.true))

pub loop-k-preserved : goal.loop-k-preserved
loop-k-preserved c = let more = text_more _ _ _ _ c.loop-k.invariant.2 (omega (arith, c.requires, c.loop-k-test.true)) c.word.ensures c.word-in-loop-k.ensures c.write_three.ensures in (search rules, text_long _ _ _ _ more (omega (arith, c.requires, c.loop-k-test.true)), more)

pub returns : goal.returns
returns c = text_end _ _ _ _ c.loop-k.invariant.2 _ c.loop-k.invariant.0 c.loop-k-test.false
