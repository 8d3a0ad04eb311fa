use Prim.Native.Nat.{suc, ◌-◌}
use mathlib.Core.Path.{◌≡◌, refl, ◌∙◌}
use native.Mathlib.Numerals.{sub-one}
use native.Mathlib.Omega.{arith}
use lib.ListN.{length-set}
use Rattle.verdict_entering.proofs.Climbing.{last_most, state_inside}
use Rattle.verdict_entering.proofs.States.{written_more}
use Rattle.verdict_entering.proofs.rows.write_states.Goals as goal

pub loop-k-init : goal.loop-k-init
loop-k-init c = (last_most _, refl, refl, refl, rw sub-one c.requires.reached, c.requires.clear, rw sub-one c.requires.written)

pub state_byte-requires : goal.state_byte-requires
state_byte-requires c = let same : suc (c.loop-k.k - 1) ≡ c.loop-k.k = omega arith in record { fitting = c.requires.fitting; k_bound = omega arith; reached = rw same c.loop-k.invariant.4; clear = c.loop-k.invariant.5 }

pub bounds-states-k : goal.bounds-states-k
bounds-states-k c = state_inside _ _ c.requires.fitting c.loop-k.invariant.6.room _ (omega arith)

pub loop-k-preserved : goal.loop-k-preserved
loop-k-preserved c = (omega arith, c.state_byte.auto.above ∙ c.loop-k.invariant.1, c.state_byte.auto.own ∙ c.loop-k.invariant.2, simp length-set c.loop-k.invariant.3, c.state_byte.ensures.1, c.state_byte.ensures.2, written_more _ _ _ (omega arith) c.loop-k.invariant.6 (state_inside _ _ c.requires.fitting c.loop-k.invariant.6.room _ (omega arith)) c.state_byte.ensures.0)

pub shape_of-above : goal.shape_of-above
shape_of-above c = c.loop-k.invariant.1

pub shape_of-own : goal.shape_of-own
shape_of-own c = c.loop-k.invariant.2

pub shape_of-states : goal.shape_of-states
shape_of-states c = c.loop-k.invariant.3

pub returns : goal.returns
returns c = let done : 0 ≡ c.loop-k.k = omega arith in rw done c.loop-k.invariant.6
