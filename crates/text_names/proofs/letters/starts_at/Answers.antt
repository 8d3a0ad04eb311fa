-- A colon is none; of any other byte the class decides.
use Rattle.text_names.proofs.Rule.{colon-starts, other_starts}
use Rattle.text_names.proofs.letters.starts_at.Goals as goal

pub returns-then-byte-eq-COLON : goal.returns-then-byte-eq-COLON
returns-then-byte-eq-COLON c = colon-starts _ c.byte.ensures c.if-byte-eq-COLON.true

pub returns : goal.returns
returns c = other_starts _ c.byte.ensures c.if-byte-eq-COLON.false c.class_at.ensures
