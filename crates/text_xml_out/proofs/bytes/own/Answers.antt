-- With a child or without.
use Rattle.text_xml_out.proofs.Sizes.{own_none, own_some}
use Rattle.text_xml_out.proofs.bytes.own.Goals as goal

pub returns-then-child-eq0 : goal.returns-then-child-eq0
returns-then-child-eq0 c = own_none _ _ c.if-child-eq0.true

pub returns : goal.returns
returns c = own_some _ _ c.if-child-eq0.false
