-- The lines of the first k frames stand at the front, all behind them is as it was.
use Prim.Native.Nat.{◌≤◌, ◌*◌}
use mathlib.Core.Path.{◌≡◌}
use mathlib.Core.List.{◌++◌}
use lib.ListN.{length, drop}
use Rattle.text_plan_lines.specs.Printing.{plan_text}
use Rattle.text_plan_lines.proofs.write_frames.Given as goal

abbrev pub invariant-loop-k : goal.invariant-loop-k
invariant-loop-k l = (l.k ≤ l.n) × (length l.out ≡ length l.initial.out) × (l.out ≡ plan_text l.kinds l.plan l.k ++ drop (13 * l.k) l.initial.out)
