-- The branches of the code are those of the definition.
use mathlib.Core.Path.{sym, ◌∙◌}
use borrow.Author.Rules.{rules}
use Rattle.text_xml_in.proofs.Branches.{goes_digit}
use Rattle.text_xml_in.proofs.stage.goes_on.Goals as goal

pub further-requires : goal.further-requires
further-requires c = (search rules, sym c.digit.ensures ∙ c.if-digit.true)

pub returns-then-digit : goal.returns-then-digit
returns-then-digit c = goes_digit _ _ c.digit.ensures c.if-digit.true c.further.ensures c.label.ensures
