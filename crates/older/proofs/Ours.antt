-- Our checks are those of an installation with our limits, and the longest line is that of the longest frame.
use Prim.Native.Nat.{ℕ, zero, suc}
use mathlib.Core.Path.{◌≡◌, refl}
use mathlib.Core.List.{List}
use native.Mathlib.Omega.{arith}
use Rattle.tables.specs.Checks.{refuse, each, size_check, axis_right, axis_check, pattern_check, Fine}
use Rattle.selection.specs.Lists.{tab}
use Rattle.conflict.specs.Conflict.{Update, delete, insert}
use Rattle.check_verdict.specs.Order.{patterns_check, deep_delete_check, deep_insert_check, delete_verdict_check, insert_verdict_check, deep_check, verdict_check}
use Rattle.batch_parts.specs.Parts.{count_check, steps_check, nodes_check}
use Rattle.batch_frame.specs.Frames.{kind_right, rest_check, frame_check, end_of}
use Rattle.batch_check.specs.Batches.{check_from, batch_check, plan_check}
use Rattle.text_line_in.specs.Lines.{line_check}
use Rattle.text_printer.specs.Printer.{take_check}
use Rattle.older.specs.Installations.{Within, ours, before_longer, longest, steps_in, nodes_in, rest_in, frame_in, line_in, take_in, frames_in, batch_in, plan_in, pair_in, verdict_in}
use Rattle.older.specs.Answers.{read_of_65}

pub within-ours : Within before_longer ours
within-ours = record { steps = omega arith; nodes = omega arith; digits = omega arith }

pub longest_line : (longest ours ≡ ours.most_digits) × (longest before_longer ≡ before_longer.most_digits)
longest_line = (refl, refl)

pub frame_ours : (b : List ℕ) (n at : ℕ) → frame_in ours b n at ≡ frame_check b n at
unfolding frame_in steps_in rest_in nodes_in frame_check steps_check rest_check nodes_check
frame_ours b n at = refl

pub line_ours : (s : List ℕ) (line : ℕ) → line_in ours s line ≡ line_check s line
unfolding line_in line_check
line_ours s line = refl

pub take-ours : (l : List ℕ) (n : ℕ) (b : List ℕ) → take_in ours l n b ≡ take_check l n b
unfolding take_in take_check line_in line_check frame_in steps_in rest_in nodes_in frame_check steps_check rest_check nodes_check
take-ours l n b = refl

frames-ours : (b : List ℕ) (n at most : ℕ) → frames_in ours b n at most ≡ check_from b n at most
unfolding frames_in check_from
frames-ours b n at zero = refl
frames-ours b n at (suc most) = rw (frame_ours b n at, frames-ours b (suc n) (end_of b at) most)

pub batch_ours : (b : List ℕ) → batch_in ours b ≡ batch_check b
unfolding batch_in batch_check
batch_ours b = rw (frames-ours b)

pub plan_ours : (b : List ℕ) (words : ℕ) → plan_in ours b words ≡ plan_check b words
unfolding plan_in plan_check
plan_ours b words = rw (batch_ours b)

pub pair_ours : (r : List ℕ) (u : Update) → pair_in ours r u ≡ deep_check r u
unfolding pair_in deep_delete_check deep_insert_check patterns_check
pair_ours r (delete p) = refl
pair_ours r (insert p x) = refl

pub verdict_ours : (r : List ℕ) (u : Update) (words : ℕ) → verdict_in ours r u words ≡ verdict_check r u words
unfolding pair_in delete_verdict_check insert_verdict_check deep_delete_check deep_insert_check patterns_check
verdict_ours r (delete p) words = refl
verdict_ours r (insert p x) words = refl

-- a frame that we accept and an older one refuses by 2, at the count of its steps
pub long_read : (frame_in ours read_of_65 0 0 ≡ Fine) × (frame_in before_longer read_of_65 0 0 ≡ refuse 2 6 1)
unfolding frame_in steps_in rest_in count_check kind_right pattern_check size_check each axis_check axis_right tab
long_read = (refl, refl)
