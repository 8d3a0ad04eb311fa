-- Two words have a step in common exactly if their common bits are not all 0.
use borrow.Author.Rules.{rules}
use Rattle.doc_read.proofs.Finding.{meets_bits}
use Rattle.doc_read.proofs.pass.meets.Goals as goal

pub returns : goal.returns
returns c = meets_bits _ _ (search rules)
