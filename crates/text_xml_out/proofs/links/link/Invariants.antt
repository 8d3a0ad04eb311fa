-- The nodes from v on are linked.
use Rattle.text_xml_out.proofs.Linking.{Linking}
use Rattle.text_xml_out.proofs.links.link.Given as goal

abbrev pub invariant-loop-v : goal.invariant-loop-v
invariant-loop-v l = Linking l.t l.initial.first l.initial.next l.first l.next l.v
