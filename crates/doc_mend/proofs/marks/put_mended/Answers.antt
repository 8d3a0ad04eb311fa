-- The mended mark is put.
use Rattle.doc_mend.proofs.Branches.{put-asked, put_told}
use Rattle.doc_mend.proofs.marks.put_mended.Goals as goal

pub put-requires : goal.put-requires
put-requires c = search put-asked

pub returns : goal.returns
returns c = search put_told
