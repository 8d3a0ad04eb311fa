-- Inside the row the byte itself, outside it 0.
use Rattle.tables.proofs.Outside.{outside}
use Rattle.tables.proofs.words.byte.Goals as goal

pub returns : goal.returns
returns c = search outside
