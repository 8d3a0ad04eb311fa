-- From what the checks and the loops give to the promises of printing.
use Rattle.std.specs.Prelude.{Option, Some, None, Result, Ok, Err}
use Rattle.tables.specs.Checks.{Fine}
use Prim.Native.Nat.{ℕ, ◌+◌, ◌-◌, ◌≤◌}
use mathlib.Core.Path.{◌≡◌}
use mathlib.Core.List.{List}
use native.Mathlib.Nat.{sub-zero}
use native.Mathlib.Omega.{arith}
use lib.ListN.{length, take, drop}
use Rattle.tables.specs.Limits.{frame_limit}
use Rattle.tables.specs.declared.refusal.Refusal.{Refusal}
use Rattle.tables.specs.Refusals.{number}
use Rattle.batch_check.specs.Batches.{plan_check}
use Rattle.batch_plan.specs.Batch.{PlanOf}
use Rattle.batch_mode.specs.Modes.{relation_of}
use Rattle.batch_mode.specs.declared.Mode.{Mode}
use Rattle.batch_mode.specs.declared.Mode.TheVariants.{Deep}
use Rattle.text_plan_lines.specs.Printing.{refusal_text, plan_text, Answered}
use Rattle.selection.proofs.Lists.{rest_whole}
use Rattle.text_first_line.specs.FirstLine.{behind_first}
use Rattle.text_first_line.specs.Answer.{FirstIs}
use Rattle.text_printer.specs.Printer.{offset_in, PlanIs, PrintsFrames, refusal, plan, unnamed, named, misnamed, PrintedAs}
use Rattle.text_printer.specs.Reading.{RanAs, InLine, PlanPrinted, LinesPrinted}
use Rattle.text_printer.specs.declared.All.{All}
use Rattle.text_printer.specs.declared.Stop.{Stop}
use Rattle.text_printer.proofs.Offsets.{stop_behind}
use Rattle.text_printer.proofs.Accepting.{sofar_none, lines_taken, lines_stopped, sofar_planned}

-- the plan of a batch that is accepted
pub plan_is : (m : Mode) (b before after : List ℕ) → length before ≡ frame_limit → plan_check b frame_limit ≡ Fine → (got : Result ℕ Refusal) → PlanOf (relation_of m) b before after got → PlanIs m b after
plan_is m b before after long fine (Err r) e =
    let why : plan_check b frame_limit ≡ Err r = rw long at e.0 in
    let z : ◌≡◌ {A = ℕ} 0 1 = cc in
    absurd (omega arith)
plan_is m b before after long fine (Ok n) e = record { words = e.2.words }

-- from how the lines end to what is printed
module _ (m : Mode) {above : ℕ} (few : above ≤ 1) (s batch kinds : List ℕ) (got : Result All Stop) (e : RanAs s batch kinds got) where
  module _ {stop : Stop} (told : got ≡ Err stop) where
    stopped_there : RanAs s batch kinds (Err stop)
    stopped_there = rw told at e

    pub stop_within : InLine stop.before stop.why
    stop_within = record { reached = λ line ten. stop_behind line ten stopped_there }

    -- a line number is small
    pub stop_few : above + stop.line ≤ frame_limit + 2
    stop_few = omega (arith, few, lines_stopped stopped_there sofar_none)

    pub stop_prints : {n offset : ℕ} → n ≡ number stop.why.reason → offset ≡ offset_in stop.before stop.why → {before after : List ℕ} {answer : Result ℕ Refusal}
        → Answered (refusal_text (above + stop.line) n offset) before after answer → LinesPrinted m above s before after answer
    stop_prints is place a = record { text = refusal_text (above + stop.line) (number stop.why.reason) (offset_in stop.before stop.why); prints = refusal stopped_there; answered = rw (is, place) at a }

  module _ {all : All} (told : got ≡ Ok all) where
    all_ran : RanAs s batch kinds (Ok all)
    all_ran = rw told at e

    pub all_words : all.words ≤ length batch
    all_words = all_ran.1

    pub all_frames : all.frames ≤ length kinds
    all_frames = all_ran.2

    pub all_planned : plan_check (take (all.words - 0) batch) frame_limit ≡ Fine
    all_planned = rw sub-zero (sofar_planned (lines_taken all_ran.0 sofar_none) frame_limit (omega arith))

    pub all_prints : {before after : List ℕ} {answer : Result ℕ Refusal} → PlanPrinted m (take (all.words - 0) batch) (take (all.frames - 0) kinds) before after answer → LinesPrinted m above s before after answer
    all_prints {before} {after} {answer} a = go (rw (sub-zero, sub-zero) at a)
      where
        go : PlanPrinted m (take all.words batch) (take all.frames kinds) before after answer → LinesPrinted m above s before after answer
        go p = record { text = plan_text (take all.frames kinds) p.plan (length (take all.frames kinds)); prints = plan all_ran.0 p.is; answered = p.answered }

-- from what the first line is to what is printed
module _ (s : List ℕ) (got : Result (Option (Mode × ℕ)) Refusal) (e : FirstIs s got) {before after : List ℕ} {answer : Result ℕ Refusal} where
  pub prints_unnamed : got ≡ Ok None → LinesPrinted Deep 0 s before after answer → PrintedAs s before after answer
  prints_unnamed told a =
      let is : FirstIs s (Ok None) = rw told at e in
      record { text = a.text; prints = unnamed is a.prints; answered = a.answered }

  pub prints_named : {m : Mode} {at : ℕ} → got ≡ Ok (Some (m, at)) → LinesPrinted m 1 (take (length s - at) (drop at s)) before after answer → PrintedAs s before after answer
  prints_named {m} {at} told a =
      let is : FirstIs s (Ok (Some (m, at))) = rw told at e in
      let lines : PrintsFrames m 1 (behind_first s) a.text = rw (rest_whole s at, is.4) at a.prints in
      record { text = a.text; prints = named is.0 is.1 (rw is.2 at lines); answered = a.answered }

  pub prints_misnamed : {r : Refusal} → got ≡ Err r → {n : ℕ} → n ≡ number r.reason → Answered (refusal_text 1 n r.place) before after answer → PrintedAs s before after answer
  prints_misnamed {r} told number_is a =
      let is : FirstIs s (Err r) = rw told at e in
      record { text = refusal_text 1 (number r.reason) r.place; prints = misnamed is.0 is.1; answered = rw number_is at a }

-- the lines behind a mode line begin within the input
pub named-within : (s : List ℕ) (got : Result (Option (Mode × ℕ)) Refusal) → FirstIs s got → {m : Mode} {at : ℕ} → got ≡ Ok (Some (m, at)) → at ≤ length s
named-within s got e {m} {at} told =
    let is : FirstIs s (Ok (Some (m, at))) = rw told at e in
    is.3
