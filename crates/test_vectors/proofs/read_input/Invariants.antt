-- Between two reads the bytes that came lie within the room for them.
use Rattle.std.proofs.Common.{◌-◌, ◌≤◌, ◌≡◌}
use lib.ListN.{length}
use Rattle.test_vectors.proofs.read_input.Given as goal

abbrev pub invariant-loop-n : goal.invariant-loop-n
invariant-loop-n l = (length l.input ≡ length l.initial.input) × (l.n ≤ length l.input)

abbrev pub decreases-loop-n : goal.decreases-loop-n
decreases-loop-n l = length l.initial.input - l.n
