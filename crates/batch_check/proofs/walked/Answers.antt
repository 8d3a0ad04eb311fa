use mathlib.Core.Path.{◌≡◌, refl, sym, ◌∙◌}
use native.Mathlib.Omega.{arith}
use Rattle.batch_frame.specs.Frames.{end_of}
use Rattle.batch_frame.proofs.Ending.{end_behind}
use Rattle.batch_check.proofs.Left.{frame_next, count_start, count-on, count_off, count_end}
use Rattle.tables.proofs.Branches.{handed}
use Rattle.batch_check.proofs.walked.Goals as goal

pub loop-at-init : goal.loop-at-init
loop-at-init c = (omega arith, refl)

pub returns-in_err-f : goal.returns-in_err-f
returns-in_err-f c = rw (handed c.from_residual.ensures) (count_off _ _ _ c.loop-at-test.true c.read_frame.ensures c.in_err-f.was ∙ sym c.loop-at.invariant.1 ∙ count_start _)

pub loop-at-smaller : goal.loop-at-smaller
loop-at-smaller c = let next : c.in_ok-f.f.next ≡ end_of c.args.b.now c.loop-at.at = frame_next _ _ _ c.read_frame.ensures c.in_ok-f.was in omega (arith, next, end_behind c.args.b.now c.loop-at.at)

pub loop-at-preserved : goal.loop-at-preserved
loop-at-preserved c = let next : c.in_ok-f.f.next ≡ end_of c.args.b.now c.loop-at.at = frame_next _ _ _ c.read_frame.ensures c.in_ok-f.was in (omega (arith, next, end_behind c.args.b.now c.loop-at.at), c.loop-at.invariant.1 ∙ count-on _ _ _ c.loop-at-test.true c.read_frame.ensures c.in_ok-f.was)

pub returns : goal.returns
returns c = count_end _ _ _ c.loop-at-test.false ∙ sym c.loop-at.invariant.1 ∙ count_start _
