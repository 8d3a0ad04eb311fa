-- Printed lines: words and a line feed each, and what writing them promises.
use Rattle.std.specs.Prelude.{ℕ, zero, suc, ◌+◌, ◌≡◌, List, [], ◌∷◌, ◌++◌, length, get_or, drop, Result, Ok, Err}
use Rattle.tables.specs.Checks.{output_check, Fine}
use Rattle.tables.specs.declared.refusal.Refusal.{Refusal}
use Rattle.text_digits.specs.Digits.{line_of}

-- words as a line, with its line feed; of a greater number the last four digits
unfoldable pub printed_line : List ℕ → List ℕ
printed_line ws = line_of ws ++ (10 ∷ [])

-- a refusal: FFFF, the line number, the refusal number, the offset in that line
abbrev pub refusal_text : ℕ → ℕ → ℕ → List ℕ
refusal_text line number offset = printed_line (65535 ∷ line ∷ number ∷ offset ∷ [])

-- a line a frame, of the first n: kind, frame number from 1, plan word
unfoldable pub plan_text : List ℕ → List ℕ → ℕ → List ℕ
plan_text kinds plan zero = []
plan_text kinds plan (suc n) = plan_text kinds plan n ++ printed_line (get_or kinds n 0 ∷ (n + 1) ∷ get_or plan n 0 ∷ [])

-- a text is written: 7 when there is too little room; the text at the front, all behind it stays
abbrev pub Answered : List ℕ → List ℕ → List ℕ → Result ℕ Refusal → Type 0
Answered text before after (Err r) = (output_check (length text) (length before) ≡ Err r) × (after ≡ before)
Answered text before after (Ok n) =
    (output_check (length text) (length before) ≡ Fine) × (n ≡ length text) × (after ≡ text ++ drop n before)
