-- The room first; then the line is written, or nothing changes.
use Rattle.tables.proofs.Branches.{handed}
use Rattle.text_line_out.proofs.Promise.{writable, written_as, write_refused}
use Rattle.text_line_out.proofs.write_line.Goals as goal

pub fill_digits-requires : goal.fill_digits-requires
fill_digits-requires c = writable c.args.ws.now c.args.out.now c.output.ensures c.in_ok-output.was

pub returns : goal.returns
returns c = written_as c.args.ws.now c.args.out.now c.output.ensures c.in_ok-output.was c.fill_digits.ensures

pub returns-in_err-output : goal.returns-in_err-output
returns-in_err-output c = rw (handed c.from_residual.ensures) (write_refused c.args.ws.now c.args.out.now c.output.ensures c.in_err-output.was)
