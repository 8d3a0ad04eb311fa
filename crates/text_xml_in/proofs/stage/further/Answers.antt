-- A number below 65,536 with a digit behind it is small.
use mathlib.Core.Path.{refl}
use borrow.Author.Rules.{rules}
use Rattle.text_xml_form.specs.Scan.{further}
use Rattle.text_xml_form.proofs.Names.{of_digit}
use Rattle.text_xml_in.proofs.stage.further.Goals as goal

pub overflow_sub-result : goal.overflow_sub-result
overflow_sub-result c = let b = of_digit _ c.requires.1 in search rules

pub overflow_add-result : goal.overflow_add-result
overflow_add-result c = let b = of_digit _ c.requires.1 in search rules

pub returns : goal.returns
unfolding further
returns c = refl
