-- The branches of the code are those of the definition.
use borrow.Author.Tests.{not-true, not-false}
use Rattle.text_names.proofs.Fitting.{entry_many, entry_open, entry_other, entry_new, entry_named}
use mathlib.Core.Path.{ap}
use mathlib.Core.Bool.{not}
use Rattle.text_names.proofs.names.entry_right.Goals as goal

pub returns-then-k-ge-NAME_LIMIT : goal.returns-then-k-ge-NAME_LIMIT
returns-then-k-ge-NAME_LIMIT c = entry_many _ _ _ _ c.if-k-ge-NAME_LIMIT.true

pub returns-then-list-to : goal.returns-then-list-to
returns-then-list-to c = entry_open _ _ _ _ c.if-k-ge-NAME_LIMIT.false c.if-list-to.true

pub returns-then-not-is_name : goal.returns-then-not-is_name
returns-then-not-is_name c = entry_other _ _ _ _ c.if-k-ge-NAME_LIMIT.false c.if-list-to.false c.is_name.ensures (not-true _ (ap not c.if-not-is_name.true))

pub returns-then-mark-eq0 : goal.returns-then-mark-eq0
returns-then-mark-eq0 c = entry_new _ _ _ _ c.if-k-ge-NAME_LIMIT.false c.if-list-to.false c.is_name.ensures (not-false _ (ap not c.if-not-is_name.false)) c.requires.fresh_at c.if-mark-eq0.true

pub returns : goal.returns
returns c = entry_named _ _ _ _ c.if-k-ge-NAME_LIMIT.false c.if-list-to.false c.is_name.ensures (not-false _ (ap not c.if-not-is_name.false)) c.number.ensures
