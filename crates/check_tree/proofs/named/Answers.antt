-- A label is there where the word is not 0.
use mathlib.Core.Path.{ap}
use lib.Dec.{ltb}
use Rattle.check_tree.proofs.named.Goals as goal

pub returns : goal.returns
returns c = ap (ltb 0) c.second_word.ensures
