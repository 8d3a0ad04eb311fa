-- The checks first; then the text is written, or nothing changes.
use Rattle.tables.proofs.Branches.{handed}
use Rattle.text_pattern_out.proofs.Promise.{writable, written, write_refused}
use Rattle.text_pattern_out.proofs.write_pattern.Goals as goal

pub put_steps-requires : goal.put_steps-requires
put_steps-requires c = let both = writable _ _ c.args.out.now c.write_checked.ensures c.in_ok-write_checked.was in record { numbered = both.0; p_in_bounds = both.1 }

pub returns : goal.returns
returns c = written _ _ _ c.write_checked.ensures c.in_ok-write_checked.was c.put_steps.ensures

pub returns-in_err-write_checked : goal.returns-in_err-write_checked
returns-in_err-write_checked c = rw (handed c.from_residual.ensures) (write_refused _ _ _ c.write_checked.ensures c.in_err-write_checked.was)
