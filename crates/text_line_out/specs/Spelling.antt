-- What writing words promises.
use Rattle.std.specs.Prelude.{ℕ, ◌*◌, ◌≡◌, List, ◌++◌, length, drop, Result, Ok, Err}
use Rattle.tables.specs.Checks.{output_check, Fine}
use Rattle.tables.specs.declared.refusal.Refusal.{Refusal}
use Rattle.text_digits.specs.Digits.{line_of}

-- what writing words promises: 7 when there is too little room; the line at the front, all behind it stays
abbrev pub WrittenAs : List ℕ → List ℕ → List ℕ → Result ℕ Refusal → Type 0
WrittenAs ws before after (Err r) = (output_check (4 * length ws) (length before) ≡ Err r) × (after ≡ before)
WrittenAs ws before after (Ok n) =
    (output_check (4 * length ws) (length before) ≡ Fine) × (n ≡ 4 * length ws) × (after ≡ line_of ws ++ drop n before)
