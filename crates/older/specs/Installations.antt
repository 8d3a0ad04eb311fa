-- Installations differ by three limits. The checks of a frame, a line, a batch and a verdict, in the words of the other pages, with an installation's limits in
-- place of ours.
use Rattle.std.specs.Prelude.{ℕ, zero, suc, ◌+◌, ◌*◌, ◌%◌, ◌≤◌, ◌&&◌, ◌||◌, cond, not, List, ◌++◌, eqb, ltb, leb, length}
use Rattle.tables.specs.Limits.{step_limit, tree_limit, digit_limit, frame_limit, batch_limit}
use Rattle.tables.specs.Words.{steps}
use Rattle.tables.specs.Checks.{◌then◌, test, refuse, each, pattern_check, tree_check, output_check, Checked, Fine}
use Rattle.conflict.specs.Conflict.{Update, delete, insert}
use Rattle.check_verdict.specs.Order.{room_check}
use Rattle.batch_parts.specs.Parts.{part, count, in_steps, in_nodes, count_check}
use Rattle.batch_frame.specs.Frames.{kind, kind_right, tree_at, end_of}
use Rattle.batch_check.specs.Batches.{batch_of}
use Rattle.text_digits.specs.Digits.{words_of}
use Rattle.text_line_in.specs.Lines.{character_check}

-- steps of a pattern, nodes of an inserted tree, digits of a line
pub record Installation : Type 0 where
  pub most_steps : ℕ
  pub most_nodes : ℕ
  pub most_digits : ℕ

-- this one, and those from before patterns became longer
abbrev pub ours : Installation
ours = record { most_steps = step_limit; most_nodes = tree_limit; most_digits = digit_limit }

abbrev pub before_longer : Installation
before_longer = record { most_steps = 64; most_nodes = 256; most_digits = 2572 }

-- no limit of the first is greater
pub record Within (o i : Installation) : Type 0 where
  pub steps : o.most_steps ≤ i.most_steps
  pub nodes : o.most_nodes ≤ i.most_nodes
  pub digits : o.most_digits ≤ i.most_digits

-- the digits of the longest frame: a kind, the count of steps and the steps, the count of nodes and the nodes
abbrev pub longest : Installation → ℕ
longest i = 4 * (3 + 2 * i.most_steps + 2 * i.most_nodes)

-- the steps and the nodes of a frame
unfoldable pub steps_in : Installation → List ℕ → ℕ → Checked
steps_in i b at = count_check b at i.most_steps then in_steps (at + 1) (pattern_check (part b (at + 1) (2 * count b at)) i.most_steps 6)

unfoldable pub nodes_in : Installation → List ℕ → ℕ → Checked
nodes_in i b at = count_check b at i.most_nodes then in_nodes (at + 1) (tree_check (part b (at + 1) (2 * count b at)) i.most_nodes 6)

-- what stands behind the steps, and a frame
unfoldable pub rest_in : Installation → List ℕ → ℕ → ℕ → Checked
rest_in i b k at =
    test (not (eqb k 3) || ltb 1 (count b (at + 1))) (refuse 6 6 (at + 1))
    then cond (eqb k 2) (nodes_in i b (tree_at at (count b (at + 1)))) Fine

unfoldable pub frame_in : Installation → List ℕ → ℕ → ℕ → Checked
frame_in i b n at =
    test (ltb n frame_limit) (refuse 10 6 at)
    then test (kind_right (kind b at)) (refuse 8 6 at)
    then steps_in i b (at + 1)
    then rest_in i b (kind b at) at

-- a line, and a line as frame n behind the words b
unfoldable pub line_in : Installation → List ℕ → ℕ → Checked
line_in i s line =
    test (ltb 0 (length s) && (eqb (length s % 4) 0 && leb (length s) i.most_digits)) (refuse 13 6 line)
    then each (character_check s line) 0 (length s)

unfoldable pub take_in : Installation → List ℕ → ℕ → List ℕ → Checked
take_in i l n b =
    line_in i l (n + 1)
    then test (leb (length (b ++ words_of l)) batch_limit) (refuse 10 6 batch_limit)
    then frame_in i (b ++ words_of l) n (length b)
    then test (eqb (end_of (b ++ words_of l) (length b)) (length (b ++ words_of l))) (refuse 9 6 (end_of (b ++ words_of l) (length b)))

-- a batch, and its plan
unfoldable pub frames_in : Installation → List ℕ → ℕ → ℕ → ℕ → Checked
frames_in i b n at zero = Fine
frames_in i b n at (suc most) = cond (ltb at (length b)) (frame_in i b n at then frames_in i b (suc n) (end_of b at) most) Fine

unfoldable pub batch_in : Installation → List ℕ → Checked
batch_in i b = test (leb (length b) batch_limit) (refuse 10 6 batch_limit) then frames_in i b 0 0 (length b)

unfoldable pub plan_in : Installation → List ℕ → ℕ → Checked
plan_in i b words = batch_in i b then output_check (length (batch_of b)) words

-- a read and an update, and a verdict of them
unfoldable pub pair_in : Installation → List ℕ → Update → Checked
pair_in i r (delete p) = (pattern_check r i.most_steps 1 then pattern_check p i.most_steps 2) then test (ltb 1 (steps p)) (refuse 6 2 0)
pair_in i r (insert p x) = (pattern_check r i.most_steps 1 then pattern_check p i.most_steps 2) then tree_check x i.most_nodes 3

abbrev pub verdict_in : Installation → List ℕ → Update → ℕ → Checked
verdict_in i r (delete p) words = pair_in i r (delete p) then room_check r p words
verdict_in i r (insert p x) words = pair_in i r (insert p x) then room_check r p words
