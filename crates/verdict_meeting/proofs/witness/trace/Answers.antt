use native.Mathlib.Omega.{arith}
use Rattle.verdict_meeting.proofs.Tracing.{rest_all, rest_inside, rest_move, rest_word, rest_on, rest_none}
use Rattle.verdict_meeting.proofs.witness.trace.Goals as goal

pub loop-rest-init : goal.loop-rest-init
loop-rest-init c = rest_all _ _ _ _ _ _ _ _ _ c.requires

pub move_at-m-requires : goal.move_at-m-requires
move_at-m-requires c = search rest_inside

pub put-requires : goal.put-requires
put-requires c = (omega (arith, c.loop-rest.invariant.to_write.room), rest_word _ _ _ _ _ _ _ _ _ c.loop-rest.invariant.to_write)

pub loop-rest-preserved : goal.loop-rest-preserved
loop-rest-preserved c = rest_on _ _ _ _ _ _ _ _ _ _ _ _ (rest_move _ _ _ _ _ _ _ _ _ c.loop-rest.invariant.to_write c.move_at-m.ensures) c.landing_at.ensures c.put.ensures c.put.auto.out _ (omega arith) c.read_after-a.ensures c.update_after-b.ensures c.loop-rest.invariant

pub shape_of-out : goal.shape_of-out
shape_of-out c = c.loop-rest.invariant.size

pub returns : goal.returns
returns c = search rest_none
