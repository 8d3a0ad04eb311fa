-- The plan of an accepted batch is not refused.
use Rattle.text_printer.proofs.Promise.{plan_is}
use Rattle.text_printer.proofs.print_plan.Goals as goal

pub returns : goal.returns
returns c = record { plan = c.plan_by.new.out; is = plan_is c.args.mode c.args.b.now c.places-words.result c.plan_by.new.out c.places-words.ensures c.requires c.plan_by.result c.plan_by.ensures; answered = c.print_frames.ensures }
