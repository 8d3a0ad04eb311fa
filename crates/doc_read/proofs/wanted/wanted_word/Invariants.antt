-- The word has the steps passed so far that are wanted.
use Prim.Native.Nat.{◌≤◌, ◌-◌}
use Rattle.pattern_set.specs.Sets.{Word}
use Rattle.pattern_masks.proofs.Passing.{passed}
use Rattle.doc_read.specs.Standing.{asked}
use Rattle.doc_read.proofs.wanted.wanted_word.Given as goal

abbrev pub invariant-loop-i : goal.invariant-loop-i
invariant-loop-i l = (l.i ≤ l.m) × Word (passed (asked l.p l.wanted) l.from l.i) 0 l.s
