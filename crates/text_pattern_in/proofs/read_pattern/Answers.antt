-- The checks of list and text first; then the steps, or nothing changes.
use Rattle.tables.proofs.Branches.{handed}
use Rattle.text_pattern_in.proofs.Promise.{both_fine, read_on, read_off}
use Rattle.text_pattern_in.proofs.read_pattern.Goals as goal

pub read_steps-requires : goal.read_steps-requires
read_steps-requires c = let fine = both_fine _ _ c.args.words.now c.both_checked.ensures c.in_ok-both_checked.was in record { list_len_bound = fine.0; s_value = fine.1; s_len_bound = fine.2 }

pub returns : goal.returns
returns c = read_on _ _ c.args.words.now c.both_checked.ensures c.in_ok-both_checked.was c.read_steps.new.words c.read_steps.result c.read_steps.ensures

pub returns-in_err-both_checked : goal.returns-in_err-both_checked
returns-in_err-both_checked c = rw (handed c.from_residual.ensures) (read_off _ _ c.args.words.now c.both_checked.ensures c.in_err-both_checked.was)
