-- Each test is one part of the least.
use Prim.Native.Nat.{◌+◌}
use native.Mathlib.Omega.{arith}
use Rattle.doc_copy.proofs.Grafting.{fits_not, fits_so}
use Rattle.doc_copy.proofs.has_room.Goals as goal

pub returns-then-at-gt-USED_LIMIT : goal.returns-then-at-gt-USED_LIMIT
returns-then-at-gt-USED_LIMIT c = fits_not (c.args.at + c.args.n) c.args.words c.args.marks (omega arith)

pub returns-then-at-n : goal.returns-then-at-n
returns-then-at-n c = fits_not (c.args.at + c.args.n) c.args.words c.args.marks (omega arith)

pub returns-then-words-at : goal.returns-then-words-at
returns-then-words-at c = fits_not (c.args.at + c.args.n) c.args.words c.args.marks (omega arith)

pub returns-then-marks-at : goal.returns-then-marks-at
returns-then-marks-at c = fits_not (c.args.at + c.args.n) c.args.words c.args.marks (omega arith)

pub returns : goal.returns
returns c = fits_so (c.args.at + c.args.n) c.args.words c.args.marks (omega arith)
