-- One byte is set among zeros.
use mathlib.Core.Path.{refl}
use Rattle.verdict_ways.proofs.Marked.{only_set}
use Rattle.verdict_ways.proofs.only.Goals as goal

pub returns : goal.returns
returns c = only_set _ c.requires refl
