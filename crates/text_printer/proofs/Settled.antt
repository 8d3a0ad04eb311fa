-- The promise of printing fixes its answer and its buffer.
use Rattle.std.specs.Prelude.{Result}
use Rattle.tables.specs.declared.refusal.Refusal.{Refusal}
use Prim.Native.Nat.{ℕ, zero, suc, ◌<◌}
use mathlib.Core.Path.{◌≡◌, refl}
use mathlib.Core.List.{List}
use native.Mathlib.Omega.{arith}
use lib.ListN.{length, get_or}
use Rattle.tables.proofs.Accepted.{never}
use Rattle.order.specs.Frames.{read, update}
use Rattle.order.proofs.Places.{by_kind}
use Rattle.batch_check.specs.Batches.{batch_of}
use Rattle.batch_plan.proofs.Laws.{word_one}
use Rattle.text_plan_lines.specs.Printing.{plan_text}
use Rattle.text_plan_lines.proofs.Promise.{answer_one}
use Rattle.batch_mode.specs.Modes.{relation_of}
use Rattle.batch_mode.specs.declared.Mode.{Mode}
use Rattle.text_printer.specs.Printer.{Outcome, stopped, taken, Lines, none, bad, good, PlanIs, PrintsFrames, refusal, plan, Prints, unnamed, named, misnamed, PrintedAs}
use Rattle.text_printer.proofs.Accepting.{sofar_none, lines_taken, sofar_frames}

-- the lines end in one way
pub lines_one : {s : List ℕ} {at n : ℕ} {b kinds : List ℕ} {o p : Outcome} → Lines s at n b kinds o → Lines s at n b kinds p → o ≡ p
lines_one (none h) (none l) = refl
lines_one (none h) (bad l e) = absurd (omega (arith, h, l))
lines_one (none h) (good l e y) = absurd (omega (arith, h, l))
lines_one (bad h e) (none l) = absurd (omega (arith, h, l))
lines_one (bad h e) (bad l f) = cc
lines_one (bad h e) (good l f y) = let z : ◌≡◌ {A = ℕ} 0 1 = cc in absurd (omega arith)
lines_one (good h e x) (none l) = absurd (omega (arith, h, l))
lines_one (good h e x) (bad l f) = let z : ◌≡◌ {A = ℕ} 0 1 = cc in absurd (omega arith)
lines_one (good h e x) (good l f y) = lines_one x y

plan_one : (m : Mode) (b : List ℕ) {p q : List ℕ} → PlanIs m b p → PlanIs m b q → (k : ℕ) → k < length (batch_of b) → get_or p k 0 ≡ get_or q k 0
plan_one m b x y k h =
    by_kind (batch_of b) k h
    (λ r at. word_one (relation_of m) (batch_of b) k (read r) (x.words at) (y.words at))
    (λ u at. word_one (relation_of m) (batch_of b) k (update u) (x.words at) (y.words at))

text_one : (kinds p q : List ℕ) (n : ℕ) → ((k : ℕ) → k < n → get_or p k 0 ≡ get_or q k 0) → plan_text kinds p n ≡ plan_text kinds q n
unfolding plan_text
text_one kinds p q zero same = refl
text_one kinds p q (suc n) same = rw (text_one kinds p q n (λ k h. same k (omega arith)), same n (omega arith))

-- the lines of frames print one text
frames_one : {m : Mode} {above : ℕ} {s t u : List ℕ} → PrintsFrames m above s t → PrintsFrames m above s u → t ≡ u
frames_one (refusal {line = l} {before = a} {r = q} x) (refusal {line = m} {before = b} {r = r} y) =
    let same : stopped l a q ≡ stopped m b r = lines_one x y in
    let line : l ≡ m = cc in
    let words : a ≡ b = cc in
    let why : q ≡ r = cc in
    rw (line, words, why)
frames_one (refusal x) (plan y p) = let same = lines_one x y in let z : ◌≡◌ {A = ℕ} 0 1 = cc in absurd (omega arith)
frames_one (plan x p) (refusal y) = let same = lines_one x y in let z : ◌≡◌ {A = ℕ} 0 1 = cc in absurd (omega arith)
frames_one {m} (plan {b = b} {kinds = ks} {plan = v} x p) (plan {b = c} {kinds = ls} {plan = w} y q) =
    let same : taken b ks ≡ taken c ls = lines_one x y in
    let batch : c ≡ b = cc in
    let kinds : ls ≡ ks = cc in
    let frames = sofar_frames (lines_taken x sofar_none) in
    rw kinds (text_one ks v w (length ks) (λ k h. plan_one m b p (rw batch at q) k (rw frames h)))

-- one text is printed
prints_one : {s t u : List ℕ} → Prints s t → Prints s u → t ≡ u
prints_one (unnamed x p) (unnamed y q) = frames_one p q
prints_one (unnamed x p) (named y e q) = absurd (x y)
prints_one (unnamed x p) (misnamed y e) = absurd (x y)
prints_one (named x e p) (unnamed y q) = absurd (y x)
prints_one (named x e p) (named y f q) = frames_one p q
prints_one (named x e p) (misnamed y f) = never f e
prints_one (misnamed x e) (unnamed y q) = absurd (y x)
prints_one (misnamed x e) (named y f q) = never e f
prints_one (misnamed {r = q} x e) (misnamed {r = r} y f) =
    let why : q ≡ r = cc in
    rw why

-- two answers with their buffers that meet the promise are the same
pub printed_one : (s before a b : List ℕ) (x y : Result ℕ Refusal) → PrintedAs s before a x → PrintedAs s before b y → (x ≡ y) × (a ≡ b)
printed_one s before a b x y f g =
    let text : g.text ≡ f.text = prints_one g.prints f.prints in
    answer_one f.text before a b x y f.answered (rw text at g.answered)
