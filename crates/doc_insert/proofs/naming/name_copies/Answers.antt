-- The identities given, in the place of the free ones.
use Rattle.doc_insert.proofs.Identities.{names_back}
use Rattle.doc_insert.proofs.naming.name_copies.Goals as goal

pub returns : goal.returns
returns c = names_back _ _ _ _ c.requires.room c.give.ensures
