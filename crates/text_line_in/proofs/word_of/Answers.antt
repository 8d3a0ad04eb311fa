-- The four digits, joined.
use Rattle.text_line_in.proofs.Branches.{word_joined}
use Rattle.text_line_in.proofs.word_of.Goals as goal

pub returns : goal.returns
returns c = word_joined _ _ c.digit_at-a.ensures.0 c.digit_at-b.ensures.0 c.digit_at-c.ensures.0 c.digit_at-d.ensures.0 c.joined.ensures
