-- The steps are taken into a table of the function's own, then put into the lent one.
use Prim.Native.Nat.{◌*◌}
use mathlib.Core.Path.{ap}
use native.Mathlib.Nat.{sub-zero}
use lib.ListN.{take}
use Rattle.tables.proofs.Branches.{handed}
use Rattle.text_pattern_in.proofs.Promise.{steps_off, steps_read}
use Rattle.text_pattern_in.proofs.read_steps.Goals as goal

pub returns : goal.returns
returns c = steps_read _ _ _ _ c.take_steps.ensures c.args.words.now c.in_ok-take_steps.was (ap (λ n. 2 * n) c.count_steps-n.ensures) _ (ap (λ n. take n c.take_steps.new.words) (sub-zero (2 * c.count_steps-n.result))) c.put_words.new.words c.put_words.result c.put_words.ensures

pub returns-in_err-take_steps : goal.returns-in_err-take_steps
returns-in_err-take_steps c = rw (handed c.from_residual.ensures) (steps_off _ _ _ _ c.take_steps.ensures c.args.words.now c.in_err-take_steps.was)
