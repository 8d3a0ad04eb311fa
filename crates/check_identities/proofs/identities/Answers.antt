-- The row's length, the last identity, then the order.
use native.Mathlib.Omega.{arith}
use mathlib.Core.Path.{◌∙◌}
use Rattle.check_identities.proofs.Rising.{row_short, none_used, last_wrong, all_right, not_above}
use Rattle.check_identities.proofs.identities.Goals as goal

pub returns-then-ids-used : goal.returns-then-ids-used
returns-then-ids-used c = c.refused.ensures ∙ row_short _ _ _ c.if-ids-used.true

pub returns-then-used-eq0 : goal.returns-then-used-eq0
returns-then-used-eq0 c = none_used _ _ _ (omega arith) c.if-used-eq0.true

pub returns-then-next-ids : goal.returns-then-next-ids
returns-then-next-ids c = c.refused-then-next-ids.ensures ∙ last_wrong _ _ _ (omega arith) (omega arith) (omega arith)

pub returns-then-out_of_order-eq0 : goal.returns-then-out_of_order-eq0
returns-then-out_of_order-eq0 c = all_right _ _ _ (omega arith) (omega arith) (omega arith) (c.out_of_order.ensures.0 c.if-out_of_order-eq0.true)

pub returns : goal.returns
returns c = c.refused-2.ensures ∙ not_above _ _ _ (omega arith) (λ all. c.if-out_of_order-eq0.false (c.out_of_order.ensures.1 all))
