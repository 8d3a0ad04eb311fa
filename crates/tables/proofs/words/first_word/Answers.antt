-- Inside the table the word itself, outside it 0.
use Rattle.tables.proofs.Outside.{past_first}
use Rattle.tables.proofs.words.first_word.Goals as goal

pub returns : goal.returns
returns c = search past_first
