-- From the words of the first line to what it is.
use Rattle.std.specs.Prelude.{Option, Some, None, Result, Ok, Err}
use Rattle.batch_mode.specs.declared.Mode.{Mode}
use Prim.Native.Nat.{ℕ, ◌-◌, ◌/◌, ◌≤◌}
use mathlib.Core.Path.{◌≡◌, refl, sym, ◌∙◌}
use mathlib.Core.List.{List}
use native.Mathlib.Nat.{sub-zero}
use native.Mathlib.Omega.{arith}
use lib.ListN.{length, get_or, take, drop, length-append}
use lib.Seq.{take_at}
use Rattle.tables.specs.Limits.{digit_limit}
use Rattle.tables.specs.Checks.{output_check, Fine}
use Rattle.tables.specs.declared.refusal.Refusal.{Refusal}
use Rattle.tables.proofs.Accepted.{never, then_first, then_both}
use Rattle.check_size.proofs.Branches.{output_long}
use Rattle.batch_parts.specs.Parts.{part}
use Rattle.text_digits.proofs.Returning.{length-words_of}
use Rattle.text_parts.proofs.Finding.{next_most}
use Rattle.text_line_in.specs.Lines.{line_check, ReadAs}
use Rattle.text_line_in.proofs.Promise.{line_short}
use Rattle.text_first_line.specs.FirstLine.{line_end, line_at, first_words, ModeLine}
use Rattle.text_first_line.specs.Answer.{FirstIs}
use Rattle.text_first_line.specs.Looking.{Says, Behind}

module _ (s : List ℕ) {end : ℕ} (is : end ≡ line_end s 0) where
  pub end_within : end ≤ length s
  end_within = rw is (next_most 10 s 0 (omega arith))

  line_is : part s 0 (end - 0) ≡ line_at s 0
  line_is = rw is refl

  module _ (before : List ℕ) (room : length before ≡ digit_limit / 4) (after : List ℕ) (got : Result ℕ Refusal) (e : ReadAs (part s 0 (end - 0)) 1 before after got) where
    -- the room is enough for every well-formed line
    room_fine : line_check (line_at s 0) 1 ≡ Fine → output_check (length (line_at s 0) / 4) (length before) ≡ Fine
    room_fine fine = sym (output_long (length (line_at s 0) / 4) (length before) (omega (arith, line_short (line_at s 0) 1 fine, room)))

    -- so a line that is not read is not well-formed
    pub not_read : {r : Refusal} → got ≡ Err r → ModeLine s → ⊥
    not_read {r} told mode =
        let why : ReadAs (line_at s 0) 1 before after (Err r) = rw (told, line_is) at e in
        never why.0 (then_both (line_check (line_at s 0) 1) _ mode.formed (room_fine mode.formed))

    module _ {n : ℕ} (told : got ≡ Ok n) where
      read : ReadAs (line_at s 0) 1 before after (Ok n)
      read = rw (told, line_is) at e

      formed : line_check (line_at s 0) 1 ≡ Fine
      formed = then_first (line_check (line_at s 0) 1) (output_check (length (line_at s 0) / 4) (length before)) read.0

      words_long : length (first_words s) ≡ n
      words_long = length-words_of (line_at s 0) ∙ sym read.1

      pub words_within : n ≤ length after
      words_within = rw (read.2, length-append, words_long) (omega arith)

      words_are : take (n - 0) (drop 0 after) ≡ first_words s
      words_are = rw (sub-zero n, read.2) (take_at (first_words s) (drop n before) n words_long)

      -- what the words say, the line is
      pub first_is : {at : ℕ} → Behind s end at → (r : Result (Option (Mode × ℕ)) Refusal) → Says (take (n - 0) (drop 0 after)) at r → FirstIs s r
      first_is {at} b r says = go r (rw words_are at says)
        where
          mode_line : get_or (first_words s) 0 0 ≡ 4 → ModeLine s
          mode_line four = record { formed = formed; kind = four }

          go : (r : Result (Option (Mode × ℕ)) Refusal) → Says (first_words s) at r → FirstIs s r
          go (Ok None) other = λ mode. other mode.kind
          go (Ok (Some (m, from))) e =
              (mode_line e.0, e.1, e.2, rw e.3 b.within, rw (e.3, ← is) b.same)
          go (Err r) e = (mode_line e.0, e.1)
