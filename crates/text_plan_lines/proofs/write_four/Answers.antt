-- The words of the numbers have their last four digits.
use Rattle.text_plan_lines.proofs.Texts.{words_printed}
use Rattle.text_plan_lines.proofs.write_four.Goals as goal

pub returns : goal.returns
returns c = words_printed _ _ c.write_words.ensures (rw (c.low.ensures, c.low-2.ensures, c.low-3.ensures, c.low-4.ensures))
