-- Taking one line: its words behind those in use, then its checks as a frame.
use Rattle.std.specs.Prelude.{Result, Ok, Err}
use Prim.Native.Nat.{ℕ, ◌+◌, ◌-◌, ◌/◌, ◌≤◌, min}
use mathlib.Core.Path.{◌≡◌, refl, sym, ◌∙◌, ap}
use mathlib.Core.List.{List, ◌++◌, append_assoc}
use mathlib.Core.Logic.{inl, inr}
use native.Mathlib.Nat.{sub-zero}
use native.Mathlib.Omega.{arith}
use lib.ListN.{length, take, drop, length-append, length-take, length-drop}
use lib.Seq.{take_at, length-take-le}
use Rattle.tables.specs.Limits.{digit_limit}
use Rattle.tables.specs.Checks.{refuse, output_check, Checked, Fine}
use Rattle.tables.specs.Refusals.{numbered}
use Rattle.tables.specs.declared.refusal.Refusal.{Refusal}
use Rattle.tables.proofs.Accepted.{then_first}
use Rattle.check_size.proofs.Branches.{output_long}
use Rattle.text_digits.specs.Digits.{words_of}
use Rattle.text_digits.proofs.Returning.{length-words_of}
use Rattle.text_line_in.specs.Lines.{line_check, ReadAs}
use Rattle.text_line_in.proofs.Promise.{line_short}
use Rattle.text_first_line.proofs.Lines.{Only, line_only}
use Rattle.text_printer.specs.Printer.{take_check}
use Rattle.text_printer.specs.Reading.{Roomy, TakenAs}
use Rattle.batch_whole.specs.Whole.{whole_check}

never : {A : Type 0} (r : Refusal) → Fine ≡ Err r → A
never r e = let z : ◌≡◌ {A = ℕ} 0 1 = cc in absurd (omega arith)

-- what reading a line promises of an answer that is taken apart
pub read_words : (l : List ℕ) (line : ℕ) (before after : List ℕ) (got : Result ℕ Refusal) → ReadAs l line before after got → {m : ℕ} → got ≡ Ok m
    → ReadAs l line before after (Ok m)
read_words l line before after got e told = rw told at e

module _ (l : List ℕ) (n used : ℕ) (batch : List ℕ) (roomy : Roomy used batch) where
  front_long : length (take used batch) ≡ used
  front_long = length-take-le used batch (omega (arith, roomy.within, roomy.room))

  -- the room is enough for every accepted line
  room_fine : line_check l (n + 1) ≡ Fine → output_check (length l / 4) (length (take (length batch - used) (drop used batch))) ≡ Fine
  room_fine e =
      let short = line_short l (n + 1) e in
      rw (length-take, length-drop) (sym (output_long (length l / 4) (min (length batch - used) (length batch - used)) (omega (arith, short, roomy.within, roomy.room))))

  module _ (after : List ℕ) where
    -- a line that is not read is malformed
    pub line_refused : (got : Result ℕ Refusal) → ReadAs l (n + 1) (take (length batch - used) (drop used batch)) after got → {r : Refusal} → got ≡ Err r
        → take_check l n (take used batch) ≡ refuse 13 6 (n + 1)
    unfolding take_check
    line_refused (Ok m) e told = let z : ◌≡◌ {A = ℕ} 0 1 = cc in absurd (omega arith)
    line_refused (Err x) e told = go (line_only l (n + 1))
      where
        go : Only (record { reason = numbered 13; table = 6; place = n + 1 }) (line_check l (n + 1)) → take_check l n (take used batch) ≡ refuse 13 6 (n + 1)
        go (inl fine) = never x (sym (rw (fine, room_fine fine) refl) ∙ e.0)
        go (inr why) = rw why refl

  -- a line that is read: the batch with its words
  module _ (after : List ℕ) {m : ℕ} (e : ReadAs l (n + 1) (take (length batch - used) (drop used batch)) after (Ok m)) where
    abbrev put : List ℕ
    put = take used batch ++ (after ++ drop (length batch - used) (drop used batch))

    line_fine : line_check l (n + 1) ≡ Fine
    line_fine = then_first (line_check l (n + 1)) (output_check (length l / 4) (length (take (length batch - used) (drop used batch)))) e.0

    pub words_few : m ≤ digit_limit / 4
    words_few = omega (arith, e.1, line_short l (n + 1) line_fine)

    pub words_are : m ≡ length (words_of l)
    words_are = e.1 ∙ sym (length-words_of l)

    with_long : length (take used batch ++ words_of l) ≡ used + m
    with_long = rw (length-append, front_long, ← words_are) refl

    pub put_long : length put ≡ length batch
    put_long =
        rw (length-append, front_long, length-append, e.2, length-append, ← words_are, length-drop, length-take, length-drop, length-drop, length-drop)
        (omega (arith, words_few, roomy.within, roomy.room))

    pub put_front : take (used + m) put ≡ take used batch ++ words_of l
    put_front =
        rw (e.2, append_assoc (words_of l) (drop m (take (length batch - used) (drop used batch))) (drop (length batch - used) (drop used batch)), ← append_assoc (take used batch) (words_of l) (drop m (take (length batch - used) (drop used batch)) ++ drop (length batch - used) (drop used batch)))
        (take_at (take used batch ++ words_of l) _ (used + m) with_long)

    pub put_room : used + m ≤ length put
    put_room = rw put_long (omega (arith, words_few, roomy.within, roomy.room))

    module _ {got : Checked} (f : got ≡ whole_check (take (used + m - 0) (drop 0 put)) n used) where
      checked_as : take_check l n (take used batch) ≡ got
      unfolding take_check
      checked_as =
          let same : take (used + m - 0) (drop 0 put) ≡ take used batch ++ words_of l = rw sub-zero put_front in
          rw (line_fine, front_long) (sym (f ∙ rw same refl))

      pub take_refused : {r : Refusal} → got ≡ Err r → take_check l n (take used batch) ≡ Err r
      take_refused told = checked_as ∙ told

      pub take_words : got ≡ Fine → TakenAs l n used batch put (Ok (used + m))
      take_words told = (checked_as ∙ told, put_long, ap (λ (x : ℕ). used + x) words_are, put_front)
