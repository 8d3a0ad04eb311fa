-- A star, or the bytes of the line.
use native.Mathlib.Omega.{arith}
use Rattle.text_pattern_out.proofs.Putting.{star_room, put-star, word_within, put-named}
use Rattle.text_pattern_out.proofs.put.put_word.Goals as goal

pub bounds-out-0 : goal.bounds-out-0
bounds-out-0 c = star_room _ _ c.args.out.now c.requires.label_in_bounds_2 c.if-label-eq0.true

pub returns-then-label-eq0 : goal.returns-then-label-eq0
returns-then-label-eq0 c = put-star _ _ _ c.requires.label_in_bounds_2 c.if-label-eq0.true

pub name_from-from-requires : goal.name_from-from-requires
name_from-from-requires c = omega (arith, c.requires.label_in_bounds)

pub put_name-requires : goal.put_name-requires
put_name-requires c = let both = word_within _ _ c.args.out.now c.requires.label_in_bounds_2 c.if-label-eq0.false c.requires.label_in_bounds c.name_from-from.ensures c.name_length-n.ensures in record { n_in_bounds = both.0; n_in_bounds_2 = both.1 }

pub returns : goal.returns
returns c = put-named _ _ _ c.requires.label_in_bounds_2 c.if-label-eq0.false c.requires.label_in_bounds c.name_from-from.ensures c.name_length-n.ensures c.put_name.ensures
