-- The printed lines, four bytes a word and a line feed, one behind the other.
use Rattle.std.specs.Prelude.{Result, Ok, Err, IsOk}
use Prim.Native.Nat.{ℕ, zero, suc, ◌+◌, ◌-◌, ◌*◌, ◌/◌, ◌%◌, ◌^◌, ◌≤◌}
use mathlib.Core.Path.{◌≡◌, refl, sym, ◌∙◌, ap}
use mathlib.Core.List.{List, [], ◌∷◌, ◌++◌, map, append_assoc, append-nil}
use native.Mathlib.Numerals.{add-one}
use native.Mathlib.Omega.{arith}
use lib.ListN.{length, get_or, take, drop, set, length-append, length-map, length-drop, length-take}
use lib.Seq.{drop-cons, set_at, drop-drop, append_snoc, take_at, drop_at}
use Rattle.tables.specs.Limits.{word_limit}
use Rattle.tables.specs.declared.refusal.Refusal.{Refusal}
use Rattle.check_size.proofs.Branches.{output_long}
use Rattle.selection.proofs.Lists.{tab_ext, length-behind, rest_whole, rest_none}
use Rattle.text_digits.specs.Digits.{byte_at, line_of}
use Rattle.text_digits.proofs.Returning.{length-line_of}
use Rattle.text_line_out.specs.Spelling.{WrittenAs}
use Rattle.text_plan_lines.specs.Printing.{printed_line, plan_text}

pub length-printed_line : (ws : List ℕ) → length (printed_line ws) ≡ 4 * length ws + 1
unfolding printed_line
length-printed_line ws = rw (length-append, length-line_of)

-- the last four digits of a number are those of its word: digit i, the least significant first
low_digit : (n i : ℕ) → i ≤ 3 → n % word_limit / 16 ^ i % 16 ≡ n / 16 ^ i % 16
low_digit n zero h = omega arith
low_digit n (suc zero) h = omega arith
low_digit n (suc (suc zero)) h = omega arith
low_digit n (suc (suc (suc zero))) h = omega arith
low_digit n (suc (suc (suc (suc i)))) h = absurd (omega arith)

-- numbers, each cut to its word
abbrev pub low_words : List ℕ → List ℕ
low_words = map (λ n. n % word_limit)

get_or_low : (ns : List ℕ) (k : ℕ) → get_or (low_words ns) k 0 ≡ get_or ns k 0 % word_limit
get_or_low [] k = refl
get_or_low (n ∷ ns) zero = refl
get_or_low (n ∷ ns) (suc k) = get_or_low ns k

byte_low : (ns : List ℕ) (i : ℕ) → byte_at (low_words ns) i ≡ byte_at ns i
unfolding byte_at
byte_low ns i = rw (get_or_low ns (i / 4), low_digit (get_or ns (i / 4) 0) (3 - i % 4) (omega arith))

line_low : (ns : List ℕ) → printed_line (low_words ns) ≡ printed_line ns
unfolding printed_line line_of
line_low ns = rw (length-map, tab_ext (byte_at (low_words ns)) (byte_at ns) (4 * length ns) (λ i h. byte_low ns i))

-- so the line of the words is the line of the numbers
pub words_printed : {ws : List ℕ} (ns rest : List ℕ) {out : List ℕ} → out ≡ printed_line ws ++ rest → ws ≡ low_words ns → out ≡ printed_line ns ++ rest
words_printed ns rest e low = e ∙ rw (low, line_low ns)

-- where there is room, words are written
module _ (ws before : List ℕ) (room : 4 * length ws + 1 ≤ length before) (after : List ℕ) where
  pub line_fits : (r : Result ℕ Refusal) → WrittenAs ws before after r → IsOk r
  line_fits (Err r) e =
      let fine = output_long (4 * length ws) (length before) (omega (arith, room)) in
      let why = e.0 in
      let z : ◌≡◌ {A = ℕ} 0 1 = cc in
      absurd (omega arith)
  line_fits (Ok n) e = refl

  pub line_written : {r : Result ℕ Refusal} {end : ℕ} → WrittenAs ws before after r → r ≡ Ok end
      → set after end 10 ≡ printed_line ws ++ drop (4 * length ws + 1) before
  unfolding printed_line
  line_written e told =
      let written = rw told at e in
      let put : after ≡ line_of ws ++ drop (4 * length ws) before = written.2 ∙ rw written.1 in
      rw (written.1, put, drop-cons before (4 * length ws) 0 (omega (arith, room)), add-one (4 * length ws))
      (set_at (line_of ws) (get_or before (4 * length ws) 0) (drop (suc (4 * length ws)) before) 10 (4 * length ws) (length-line_of ws)
      ∙ sym (append_snoc (line_of ws) 10 (drop (suc (4 * length ws)) before)))

module _ (kinds plan : List ℕ) where
  pub length-plan_text : (n : ℕ) → length (plan_text kinds plan n) ≡ 13 * n
  unfolding plan_text
  length-plan_text zero = refl
  length-plan_text (suc n) = rw (length-append, length-plan_text n, length-printed_line) (omega arith)

  module _ (old : List ℕ) where
    pub text_start : old ≡ plan_text kinds plan 0 ++ drop (13 * 0) old
    unfolding plan_text
    text_start = refl

    module _ {out : List ℕ} (k : ℕ) (e : out ≡ plan_text kinds plan k ++ drop (13 * k) old) where
      pub text_long : 13 * k ≤ length old → length out ≡ length old
      text_long h = rw e (length-behind (plan_text kinds plan k) old (13 * k) (length-plan_text k) ∙ omega (arith, h))

      -- one line more, written into the rest
      pub text_more : 13 * (k + 1) ≤ length old → {a b : ℕ} → a ≡ get_or kinds k 0 → b ≡ get_or plan k 0 → {rest : List ℕ}
          → rest ≡ printed_line (a ∷ (k + 1) ∷ b ∷ []) ++ drop 13 (take (length out - 13 * k) (drop (13 * k) out))
          → take (13 * k) out ++ (rest ++ drop (length out - 13 * k) (drop (13 * k) out)) ≡ plan_text kinds plan (k + 1) ++ drop (13 * (k + 1)) old
      unfolding plan_text
      text_more h p q {rest} r =
          let line = printed_line (get_or kinds k 0 ∷ (k + 1) ∷ get_or plan k 0 ∷ []) in
          let first = plan_text kinds plan k in
          let front : take (13 * k) out ≡ first = rw e (take_at first (drop (13 * k) old) (13 * k) (length-plan_text k)) in
          let behind : drop (13 * k) out ≡ drop (13 * k) old = rw e (drop_at first (drop (13 * k) old) (13 * k) (length-plan_text k)) in
          let more : 13 * k + 13 ≡ 13 * (k + 1) = omega arith in
          let written : rest ≡ line ++ drop (13 * (k + 1)) old = r ∙ rw (p, q, rest_whole out (13 * k), behind, drop-drop, more) in
          let added : plan_text kinds plan (k + 1) ≡ first ++ line = ap (plan_text kinds plan) (add-one k) in
          rw (rest_none out (13 * k), front, append-nil, written, added) (sym (append_assoc first line (drop (13 * (k + 1)) old)))

      pub text_end : (n : ℕ) → k ≤ n → n ≤ k → out ≡ plan_text kinds plan n ++ drop (13 * n) old
      text_end n h l =
          let same : n ≡ k = omega arith in
          rw same e

-- the rest from a place on has room for a line
pub rest_room : (out : List ℕ) (k m : ℕ) → k + m ≤ length out → m ≤ length (take (length out - k) (drop k out))
rest_room out k m h = rw (length-take, length-drop) (omega (arith, h))
