use mathlib.Core.Path.{refl}
use native.Mathlib.Omega.{arith}
use borrow.Author.Rules.{rules}
use Rattle.selection.proofs.Filling.{row_start, row_more, row_within, row_long, row_end}
use Rattle.text_pattern_in.proofs.Promise.{copied}
use Rattle.text_pattern_in.proofs.copy_words.Goals as goal

pub loop-i-init : goal.loop-i-init
loop-i-init c = (search rules, search row_start)

pub bounds-words-i : goal.bounds-words-i
bounds-words-i c = row_within _ _ _ c.loop-i.invariant.1 _ c.loop-i-test.true c.requires

pub loop-i-preserved : goal.loop-i-preserved
loop-i-preserved c = (search rules, row_more _ _ _ c.loop-i.invariant.1 (omega (arith, c.requires)) refl)

pub shape_of-words : goal.shape_of-words
shape_of-words c = row_long _ _ _ c.loop-i.invariant.1 (omega (arith, c.requires))

pub returns : goal.returns
returns c = copied c.args.ws.now c.args.words.now (row_end _ _ _ c.loop-i.invariant.1 _ (search rules) c.loop-i-test.false)
