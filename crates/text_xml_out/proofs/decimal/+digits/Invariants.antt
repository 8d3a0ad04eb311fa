-- The number falls at each call.
use Rattle.text_xml_out.proofs.decimal.+digits.Given as goal

abbrev pub decreases-digits : goal.decreases-digits
decreases-digits l = l.n
