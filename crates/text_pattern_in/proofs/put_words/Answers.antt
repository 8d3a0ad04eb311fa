-- The room first; then the words are written, or nothing changes.
use Rattle.tables.proofs.Branches.{handed}
use Rattle.text_pattern_in.proofs.Promise.{put_room, put_fine, put_off}
use Rattle.text_pattern_in.proofs.put_words.Goals as goal

pub copy_words-requires : goal.copy_words-requires
copy_words-requires c = put_room c.args.ws.now c.args.words.now c.output.ensures c.in_ok-output.was

pub returns : goal.returns
returns c = put_fine c.args.ws.now c.args.words.now c.output.ensures c.in_ok-output.was c.copy_words.ensures

pub returns-in_err-output : goal.returns-in_err-output
returns-in_err-output c = rw (handed c.from_residual.ensures) (put_off c.args.ws.now c.args.words.now c.output.ensures c.in_err-output.was)
