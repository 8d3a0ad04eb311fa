-- Inside the table the label itself, outside it 0.
use Rattle.tables.proofs.Outside.{past_second}
use Rattle.verdict_landing.proofs.label_word.Goals as goal

pub returns : goal.returns
returns c = search past_second
