use native.Mathlib.Omega.{arith}
use borrow.Author.Rules.{rules}
use Rattle.selection.proofs.Filling.{row_start, row_more, row_within, row_long, row_end}
use Rattle.text_line_in.proofs.fill_words.Goals as goal

pub loop-k-init : goal.loop-k-init
loop-k-init c = (search rules, search row_start)

pub word_of-requires : goal.word_of-requires
word_of-requires c = record { digits = c.requires.digits; k_in_bounds = search rules }

pub offset_bounds-words-k : goal.offset_bounds-words-k
offset_bounds-words-k c = omega (arith, c.requires.s_in_bounds)

pub bounds-words-k : goal.bounds-words-k
bounds-words-k c = row_within _ _ _ c.loop-k.invariant.1 _ c.loop-k-test.true c.requires.s_in_bounds

pub loop-k-preserved : goal.loop-k-preserved
loop-k-preserved c = (search rules, row_more _ _ _ c.loop-k.invariant.1 (omega (arith, c.requires.s_in_bounds)) c.word_of.ensures)

pub shape_of-words : goal.shape_of-words
shape_of-words c = row_long _ _ _ c.loop-k.invariant.1 (omega (arith, c.requires.s_in_bounds))

pub returns : goal.returns
returns c = row_end _ _ _ c.loop-k.invariant.1 _ (search rules) c.loop-k-test.false
