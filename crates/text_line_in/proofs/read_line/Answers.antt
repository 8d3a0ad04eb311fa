-- The checks first; then the words are written, or nothing changes.
use Rattle.tables.proofs.Branches.{handed}
use Rattle.text_line_in.proofs.Promise.{readable, read_as, read_refused}
use Rattle.text_line_in.proofs.read_line.Goals as goal

pub fill_words-requires : goal.fill_words-requires
fill_words-requires c = let both = readable _ _ c.args.words.now c.parse_checked.ensures c.in_ok-parse_checked.was in record { digits = both.0; s_in_bounds = both.1 }

pub returns : goal.returns
returns c = read_as _ _ _ c.parse_checked.ensures c.in_ok-parse_checked.was c.fill_words.ensures

pub returns-in_err-parse_checked : goal.returns-in_err-parse_checked
returns-in_err-parse_checked c = rw (handed c.from_residual.ensures) (read_refused _ _ _ c.parse_checked.ensures c.in_err-parse_checked.was)
