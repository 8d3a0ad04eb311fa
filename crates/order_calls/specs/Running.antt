-- Inside: what the updates of a batch do to a document. The laws tie it to the calls themselves.
use Rattle.identities.specs.Documents.{Document}
use Rattle.identities.specs.Updates.{deleted_in, stored_in}
use Rattle.conflict.specs.Conflict.{Update, delete, insert}

-- the document after an update; an insert that has too few identities or no room leaves it as it was
abbrev pub updated : Update → Document → Document
updated (delete p) d = deleted_in p d
updated (insert p x) d = stored_in p x d
