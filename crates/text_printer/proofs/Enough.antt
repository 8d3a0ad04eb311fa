-- The longest text that is printed is always enough room.
use Rattle.std.specs.Prelude.{Result, Ok, Err}
use Prim.Native.Nat.{ℕ, ◌+◌, ◌≤◌}
use mathlib.Core.Path.{◌≡◌, sym}
use mathlib.Core.List.{List, [], ◌∷◌}
use native.Mathlib.Omega.{arith}
use lib.ListN.{length, take, drop, length-append}
use lib.Seq.{take_at}
use Rattle.tables.specs.declared.refusal.Refusal.{Refusal}
use Rattle.tables.specs.Refusals.{number}
use Rattle.tables.proofs.Accepted.{never}
use Rattle.batch_mode.specs.declared.Mode.{Mode}
use Rattle.text_plan_lines.specs.Printing.{Answered}
use Rattle.text_plan_lines.proofs.Texts.{length-printed_line, length-plan_text}
use Rattle.check_size.proofs.Branches.{output_long}
use Rattle.text_printer.specs.Printer.{offset_in, PrintsFrames, refusal, plan, Prints, unnamed, named, misnamed, PrintedAs}
use Rattle.text_printer.specs.Enough.{printed_most}
use Rattle.text_printer.proofs.Accepting.{sofar_none, lines_taken}

-- no text is longer
frames_most_lem : {m : Mode} {above : ℕ} {s text : List ℕ} → PrintsFrames m above s text → length text ≤ printed_most
frames_most_lem {above = above} (refusal {line = line} {before = before} {r = r} lines) = omega (arith, length-printed_line (65535 ∷ (above + line) ∷ number r.reason ∷ offset_in before r ∷ []))
frames_most_lem (plan {kinds = kinds} {plan = words} lines p) = omega (arith, length-plan_text kinds words (length kinds), (lines_taken lines sofar_none).few)

pub text_most : {s text : List ℕ} → Prints s text → length text ≤ printed_most
text_most (unnamed x p) = frames_most_lem p
text_most (named x e p) = frames_most_lem p
text_most (misnamed {r = r} x e) = omega (arith, length-printed_line (65535 ∷ 1 ∷ number r.reason ∷ r.place ∷ []))

module _ {s before after : List ℕ} {answer : Result ℕ Refusal} (e : PrintedAs s before after answer) where
  -- so much room is never refused
  pub room_enough : {r : Refusal} → answer ≡ Err r → printed_most ≤ length before → ⊥
  room_enough {r} told room =
      let here : Answered e.text before after (Err r) = rw told at e.answered in
      let short = text_most e.prints in
      never here.0 (sym (output_long (length e.text) (length before) (omega arith)))

  -- the text lies whole at the front of the output
  pub text_front : {n : ℕ} → answer ≡ Ok n → (n ≤ length after) × Prints s (take n after)
  text_front {n} told =
      let here : Answered e.text before after (Ok n) = rw told at e.answered in
      let front : take n after ≡ e.text = rw here.2 (take_at e.text (drop n before) n (sym here.1)) in
      (rw (here.2, length-append) (omega (arith, here.1)), rw front e.prints)
