-- The branches of the code are those of the definition.
use mathlib.Core.Path.{sym, ◌∙◌}
use borrow.Author.Rules.{rules}
use Rattle.text_xml_in.proofs.Branches.{number-name, number_digit, number_same}
use Rattle.text_xml_in.proofs.stage.number_on.Goals as goal

pub returns-then-c-eq110 : goal.returns-then-c-eq110
returns-then-c-eq110 c = search number-name

pub further-requires : goal.further-requires
further-requires c = (search rules, sym c.digit.ensures ∙ c.if-digit.true)

pub returns-then-digit : goal.returns-then-digit
returns-then-digit c = search number_digit

pub returns : goal.returns
returns c = search number_same
