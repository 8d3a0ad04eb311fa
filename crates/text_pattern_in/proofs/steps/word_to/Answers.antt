-- The next slash from there on.
use mathlib.Core.Path.{ap, ◌∙◌}
use Rattle.text_parts.specs.Next.{next}
use Rattle.text_pattern.specs.Texts.{slash}
use Rattle.text_pattern_in.specs.Walk.{word_to}
use Rattle.text_pattern_in.proofs.steps.word_to.Goals as goal

pub returns : goal.returns
unfolding word_to
returns c = c.next_byte.ensures ∙ ap (next slash _) c.word_from.ensures
