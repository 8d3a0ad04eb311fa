-- The room first; then the lines are written, or nothing changes.
use mathlib.Core.Path.{◌∙◌}
use lib.ListN.{length}
use borrow.Author.Rules.{rules}
use Rattle.tables.proofs.Branches.{handed}
use Rattle.text_plan_lines.specs.Printing.{plan_text}
use Rattle.text_plan_lines.proofs.Texts.{length-plan_text}
use Rattle.text_plan_lines.proofs.Promise.{lines_room, text_room, text_refused, text_bytes}
use Rattle.text_plan_lines.proofs.print_frames.Goals as goal

pub write_frames-requires : goal.write_frames-requires
write_frames-requires c = text_room (plan_text c.args.kinds.now c.args.plan.now (length c.args.kinds.now)) c.args.out.now (length-plan_text c.args.kinds.now c.args.plan.now (length c.args.kinds.now)) (c.output.ensures ∙ lines_room (length c.args.kinds.now) (length c.args.out.now)) c.in_ok-output.was

pub overflow_mul-result : goal.overflow_mul-result
overflow_mul-result c = search (rules, text_room (plan_text c.args.kinds.now c.args.plan.now (length c.args.kinds.now)) c.args.out.now (length-plan_text c.args.kinds.now c.args.plan.now (length c.args.kinds.now)) (c.output.ensures ∙ lines_room (length c.args.kinds.now) (length c.args.out.now)) c.in_ok-output.was)

pub returns-in_err-output : goal.returns-in_err-output
returns-in_err-output c = rw (handed c.from_residual.ensures) (text_refused (plan_text c.args.kinds.now c.args.plan.now (length c.args.kinds.now)) c.args.out.now (length-plan_text c.args.kinds.now c.args.plan.now (length c.args.kinds.now)) (c.output.ensures ∙ lines_room (length c.args.kinds.now) (length c.args.out.now)) c.in_err-output.was)

pub returns : goal.returns
returns c = text_bytes (plan_text c.args.kinds.now c.args.plan.now (length c.args.kinds.now)) c.args.out.now (length-plan_text c.args.kinds.now c.args.plan.now (length c.args.kinds.now)) (c.output.ensures ∙ lines_room (length c.args.kinds.now) (length c.args.out.now)) c.in_ok-output.was c.write_frames.ensures
