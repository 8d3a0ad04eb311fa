-- What stands behind the input that counts changes nothing that is printed.
use Rattle.std.specs.Prelude.{Result}
use Rattle.tables.specs.declared.refusal.Refusal.{Refusal}
use Prim.Native.Nat.{ℕ, zero, suc, ◌+◌, ◌-◌, ◌*◌, ◌≤◌, ◌<◌, min}
use mathlib.Core.Path.{◌≡◌, refl, sym, ◌∙◌, ap}
use mathlib.Core.Bool.{Bool, true, false, cond}
use mathlib.Core.List.{List, [], ◌∷◌, ◌++◌}
use mathlib.Core.Logic.{inl, inr, ◌↔◌}
use native.Mathlib.Decide.{dec_lt}
use native.Mathlib.Nat.{zero-add, suc-add}
use native.Mathlib.Omega.{arith}
use lib.Dec.{eqb}
use lib.ListN.{length, get_or, take, drop, length-append, length-take}
use lib.Seq.{get_or-take, get_or-drop, take-take, take-nil, ext_get_or}
use Rattle.tables.specs.Limits.{digit_limit}
use Rattle.tables.specs.Refusals.{numbered}
use Rattle.tables.specs.Checks.{refuse, Fine}
use Rattle.text_digits.specs.Digits.{words_of}
use Rattle.text_parts.specs.Next.{next_from, next}
use Rattle.text_parts.proofs.Finding.{from_least, next-least, next_most}
use Rattle.text_line_in.specs.Lines.{line_check}
use Rattle.text_line_in.proofs.Promise.{line_short, line_some}
use Rattle.batch_frame.specs.Frames.{kind}
use Rattle.batch_mode.specs.Modes.{mode_of}
use Rattle.batch_mode.specs.declared.Mode.{Mode}
use Rattle.text_first_line.specs.FirstLine.{line_end, line_at, first_words, ModeLine, mode_line_check, behind_first}
use Rattle.text_first_line.proofs.Lines.{Only, line_only, line_long, formed_long}
use Rattle.text_first_line.proofs.Laws.{mode_line_long}
use Rattle.text_printer.specs.Printer.{take_check, Outcome, Lines, none, bad, good, PrintsFrames, refusal, plan, Prints, unnamed, named, misnamed, PrintedAs}
use Rattle.text_printer.specs.Enough.{frames_most, input_most}
use Rattle.text_printer.proofs.Going.{taken_line}
use Rattle.text_printer.proofs.Accepting.{Sofar, sofar_none, sofar_more}

-- a line with more bytes than a line may have digits is refused by 13, whatever they are
over_long : (l : List ℕ) (n : ℕ) (b : List ℕ) → digit_limit < length l → take_check l n b ≡ refuse 13 6 (n + 1)
unfolding take_check
over_long l n b h = go (line_only l (n + 1))
  where
    go : Only (record { reason = numbered 13; table = 6; place = n + 1 }) (line_check l (n + 1)) → take_check l n b ≡ refuse 13 6 (n + 1)
    go (inl fine) = absurd (omega (arith, line_short l (n + 1) fine))
    go (inr why) = rw why refl

-- two inputs whose first bytes are the same
module _ (most : ℕ) (s t : List ℕ) (same : take most s ≡ take most t) where
  same_byte : (i : ℕ) → i < most → get_or s i 0 ≡ get_or t i 0
  same_byte i h = sym (get_or-take most s i 0 h) ∙ ap (λ (l : List ℕ). get_or l i 0) same ∙ get_or-take most t i 0 h

  same_length : min most (length s) ≡ min most (length t)
  same_length = sym (length-take most s) ∙ ap length same ∙ length-take most t

  -- a line ends at the same place in both, or in neither within those bytes
  same_next : (at left more : ℕ) → min most (at + left) ≡ min most (at + more) → min most (next_from 10 s at left) ≡ min most (next_from 10 t at more)
  unfolding next_from
  same_next at zero zero e = refl
  same_next at zero (suc more) e = omega (arith, from_least 10 t at (suc more))
  same_next at (suc left) zero e = omega (arith, from_least 10 s at (suc left))
  same_next at (suc left) (suc more) e = go (dec_lt at most) (same_next (suc at) left more (omega (arith, e)))
    where
      step : (c : Bool) → min most (next_from 10 s (suc at) left) ≡ min most (next_from 10 t (suc at) more)
          → min most (cond c at (next_from 10 s (suc at) left)) ≡ min most (cond c at (next_from 10 t (suc at) more))
      step true later = refl
      step false later = later

      go : Dec (at < most) → min most (next_from 10 s (suc at) left) ≡ min most (next_from 10 t (suc at) more)
          → min most (next_from 10 s at (suc left)) ≡ min most (next_from 10 t at (suc more))
      go (yes h) later = rw (same_byte at h) (step (eqb (get_or t at 0) 10) later)
      go (no h) later = omega (arith, from_least 10 s at (suc left), from_least 10 t at (suc more))

  same_end : (at : ℕ) → min most (line_end s at) ≡ min most (line_end t at)
  unfolding next
  same_end at = same_next at (length s - at) (length t - at) (omega (arith, same_length))

  module _ (at : ℕ) (here : at < length s) (before : at < most) where
    still_here : at < length t
    still_here = omega (arith, same_length)

    line_same : line_end s at < most → line_at s at ≡ line_at t at
    line_same h =
        let end : line_end t at ≡ line_end s at = omega (arith, same_end at) in
        let long : length (line_at s at) ≡ line_end s at - at = line_long s at (omega arith) in
        ext_get_or 0 (line_at s at) (line_at t at)
        (long ∙ sym (line_long t at (omega (arith, still_here)) ∙ ap (λ (e : ℕ). e - at) end))
        (λ i k.
        let within : i < line_end s at - at = rw long at k in
        rw (get_or-take (line_end s at - at) (drop at s) i 0 within, get_or-drop, get_or-take (line_end t at - at) (drop at t) i 0 (omega arith), get_or-drop)
        (same_byte (at + i) (omega arith)))

    -- a line that begins more than its digits before the cut is taken or refused alike
    check_same : at + digit_limit < most → (n : ℕ) (b : List ℕ) → take_check (line_at s at) n b ≡ take_check (line_at t at) n b
    check_same room n b = go (dec_lt (line_end s at) most)
      where
        go : Dec (line_end s at < most) → take_check (line_at s at) n b ≡ take_check (line_at t at) n b
        go (yes h) = ap (λ (l : List ℕ). take_check l n b) (line_same h)
        go (no h) =
            over_long (line_at s at) n b (omega (arith, line_long s at (omega arith)))
            ∙ sym (over_long (line_at t at) n b (omega (arith, same_end at, line_long t at (omega (arith, still_here)))))

  -- line by line: n lines of words b lie before at, four digits a word and a line feed each
  module _ (enough : frames_most ≤ most) where
    lines_same : {at n : ℕ} {b kinds : List ℕ} {o : Outcome} → Lines s at n b kinds o → Sofar n b kinds → at ≤ 4 * length b + n → Lines t at n b kinds o
    lines_same {at} (none h) so begins = none {at = at} (omega (arith, same_length, so.within, so.few))
    lines_same {at} {n} {b} (bad h e) so begins =
        let room : at + digit_limit < most = omega (arith, so.within, so.few) in
        bad (still_here at h (omega arith)) (sym (check_same at h (omega arith) room n b) ∙ e)
    lines_same {at} {n} {b} (good h e lines) so begins =
        let room : at + digit_limit < most = omega (arith, so.within, so.few) in
        let long = line_long s at (omega arith) in
        let short = line_short (line_at s at) (n + 1) (taken_line (line_at s at) n b e) in
        let digits = formed_long (line_at s at) (n + 1) (taken_line (line_at s at) n b e) in
        let line : line_at s at ≡ line_at t at = line_same at h (omega arith) (omega arith) in
        let end : line_end s at ≡ line_end t at = omega (arith, same_end at) in
        let next : line_end s at + 1 ≤ 4 * length (b ++ words_of (line_at s at)) + (n + 1) = rw length-append (omega (arith, next-least 10 s at)) in
        let more = sofar_more (line_at s at) (kind (b ++ words_of (line_at s at)) (length b)) e so in
        good (still_here at h (omega arith)) (sym (check_same at h (omega arith) room n b) ∙ e) (rw (line, end) at (lines_same lines more next))

  -- the first line of both is a mode line, or of neither
  module _ (room : digit_limit < most) (mode : ModeLine s) where
    first_same : line_at s 0 ≡ line_at t 0
    first_same =
        let long = line_long s 0 (omega arith) in
        let some = line_some (line_at s 0) 1 mode.formed in
        let short = line_short (line_at s 0) 1 mode.formed in
        line_same 0 (omega (arith, next_most 10 s 0 (omega arith))) (omega arith) (omega arith)

    mode_same : ModeLine t
    mode_same = record { formed = rw first_same at mode.formed; kind = rw first_same at mode.kind }

-- lines of frames whose first bytes are the same print the same
frames-same : {m : Mode} {above : ℕ} (most : ℕ) {s t text : List ℕ} → frames_most ≤ most → take most s ≡ take most t → PrintsFrames m above s text → PrintsFrames m above t text
frames-same most {s} {t} enough same (refusal lines) = refusal (lines_same most s t same enough lines sofar_none (omega arith))
frames-same most {s} {t} enough same (plan lines p) = plan (lines_same most s t same enough lines sofar_none (omega arith)) p

-- the first bytes behind a place
take_behind : (n k : ℕ) (l : List ℕ) → drop n (take (n + k) l) ≡ take k (drop n l)
take_behind zero k l = ap (λ (m : ℕ). take m l) (zero-add k)
take_behind (suc n) k [] = ap (drop (suc n)) (take-nil (suc n + k)) ∙ sym (take-nil k)
take_behind (suc n) k (x ∷ xs) = ap (λ (m : ℕ). drop (suc n) (take m (x ∷ xs))) (suc-add n k) ∙ take_behind n k xs

-- inputs whose first bytes are the same print the same
module _ (s t : List ℕ) (same : take input_most s ≡ take input_most t) where
  module _ (mode : ModeLine s) where
    line : line_at s 0 ≡ line_at t 0
    line = first_same input_most s t same (omega arith) mode

    named_too : ModeLine t
    named_too = mode_same input_most s t same (omega arith) mode

    -- behind the nine bytes of a mode line there are as many as the lines of frames need
    behind-same : mode_line_check (first_words s) ≡ Fine → take frames_most (behind_first s) ≡ take frames_most (behind_first t)
    behind-same e =
        let here : line_end s 0 ≡ 8 = mode_line_long s mode e in
        let there : line_end t 0 ≡ 8 = mode_line_long t named_too (rw line at e) in
        rw (here, there) (sym (take_behind 9 frames_most s) ∙ ap (drop 9) same ∙ take_behind 9 frames_most t)

  pub prints_same : {text : List ℕ} → Prints s text → Prints t text
  prints_same (unnamed x p) = unnamed (λ mode. x (mode_same input_most t s (sym same) (omega arith) mode)) (frames-same input_most (omega arith) same p)
  prints_same {text} (named x e p) =
      let p' : PrintsFrames (mode_of (get_or (first_words s) 1 0)) 1 (behind_first t) text = frames-same frames_most (omega arith) (behind-same x e) p in
      named (named_too x) (rw (line x) at e) (rw (line x) at p')
  prints_same (misnamed x e) = misnamed (named_too x) (rw (line x) at e)

first_bytes : (s : List ℕ) → take input_most (take input_most s) ≡ take input_most s
first_bytes s = take-take input_most input_most s (omega arith)

-- what an input prints, its first bytes print, and back
pub prints_first : (s text : List ℕ) → Prints s text ↔ Prints (take input_most s) text
prints_first s text = (prints_same s (take input_most s) (sym (first_bytes s)), prints_same (take input_most s) s (first_bytes s))

-- an answer that meets the promise for the first bytes meets it for the input
pub printed_first : (s before after : List ℕ) (answer : Result ℕ Refusal) → PrintedAs (take input_most s) before after answer → PrintedAs s before after answer
printed_first s before after answer e = record { text = e.text; prints = prints_same (take input_most s) s (first_bytes s) e.prints; answered = e.answered }
