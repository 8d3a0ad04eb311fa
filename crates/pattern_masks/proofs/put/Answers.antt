-- By the flag.
use Rattle.pattern_masks.proofs.Passing.{put_in, put_none}
use Rattle.pattern_masks.proofs.put.Goals as goal

pub returns-then-yes : goal.returns-then-yes
returns-then-yes c = put_in _ _ c.with.ensures c.if-yes.true

pub returns : goal.returns
returns c = put_none _ _ c.if-yes.false
