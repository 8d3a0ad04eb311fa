-- Inside the table the word itself, outside it 0.
use Rattle.tables.proofs.Outside.{outside}
use Rattle.tables.proofs.words.word.Goals as goal

pub returns : goal.returns
returns c = search outside
