-- A star is one byte, a name as long as its line.
use native.Mathlib.Omega.{arith}
use Rattle.text_pattern_out.proofs.Rooms.{star_long, word_long}
use Rattle.text_pattern_out.proofs.room.word_length.Goals as goal

pub returns-then-label-eq0 : goal.returns-then-label-eq0
returns-then-label-eq0 c = star_long _ _ c.if-label-eq0.true

pub name_from-requires : goal.name_from-requires
name_from-requires c = omega (arith, c.requires)

pub returns : goal.returns
returns c = word_long _ _ c.if-label-eq0.false c.requires c.name_from.ensures c.name_length.ensures
