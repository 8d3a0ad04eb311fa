-- The word of the step lies within the text.
use mathlib.Core.Path.{ap, ◌∙◌}
use Rattle.text_pattern_in.specs.Walk.{found_of}
use Rattle.text_pattern_in.proofs.Left.{word_within, word_is}
use Rattle.text_pattern_in.proofs.steps.label_at.Goals as goal

pub slice_bounds-found-count : goal.slice_bounds-found-count
slice_bounds-found-count c = (word_within _ _ c.requires c.word_from-from.ensures c.word_to-to.ensures).0

pub slice_bounds-found-start : goal.slice_bounds-found-start
slice_bounds-found-start c = (word_within _ _ c.requires c.word_from-from.ensures c.word_to-to.ensures).0

pub slice_bounds-found-end : goal.slice_bounds-found-end
slice_bounds-found-end c = (word_within _ _ c.requires c.word_from-from.ensures c.word_to-to.ensures).1

pub returns : goal.returns
returns c = c.found.ensures ∙ ap (found_of _) (word_is _ _ c.word_from-from.ensures c.word_to-to.ensures)
