-- The room first; then the line is written, or nothing changes.
use Rattle.tables.proofs.Branches.{handed}
use Rattle.text_plan_lines.specs.Printing.{refusal_text}
use Rattle.text_plan_lines.proofs.Texts.{length-printed_line}
use Rattle.text_plan_lines.proofs.Promise.{text_room, text_refused, text_bytes}
use Rattle.text_plan_lines.proofs.print_refusal.Goals as goal

pub write_four-requires : goal.write_four-requires
write_four-requires c = text_room (refusal_text c.args.line c.args.number c.args.offset) c.args.out.now (length-printed_line _) c.output.ensures c.in_ok-output.was

pub returns-in_err-output : goal.returns-in_err-output
returns-in_err-output c = rw (handed c.from_residual.ensures) (text_refused (refusal_text c.args.line c.args.number c.args.offset) c.args.out.now (length-printed_line _) c.output.ensures c.in_err-output.was)

pub returns : goal.returns
returns c = text_bytes (refusal_text c.args.line c.args.number c.args.offset) c.args.out.now (length-printed_line _) c.output.ensures c.in_ok-output.was c.write_four.ensures
