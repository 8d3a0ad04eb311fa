-- A mode line prints nothing of its own: the plan behind it is that of its lines.
use Prim.Native.Nat.{ℕ}
use mathlib.Core.Path.{◌≡◌}
use mathlib.Core.List.{List, []}
use native.Mathlib.Omega.{arith}
use Rattle.batch_mode.specs.declared.Mode.{Mode}
use Rattle.text_printer.specs.Printer.{taken, Lines, PrintsFrames, refusal, plan}
use Rattle.text_printer.proofs.Settled.{lines_one}

-- where all lines are taken, the text is the same behind however many lines
pub moded_plan : {m : Mode} {above other : ℕ} {s text b kinds : List ℕ} → Lines s 0 0 [] [] (taken b kinds) → PrintsFrames m above s text → PrintsFrames m other s text
moded_plan all (refusal lines) = let same = lines_one all lines in let z : ◌≡◌ {A = ℕ} 0 1 = cc in absurd (omega arith)
moded_plan all (plan lines p) = plan lines p
