-- Entry by entry: what stands before a place is made of right entries.
use Prim.Native.Nat.{ℕ, suc, ◌+◌, ◌-◌, ◌≤◌, ◌<◌}
use mathlib.Core.Path.{◌≡◌, sym, ◌∙◌, ap}
use mathlib.Core.Bool.{Bool, true, false, ◌&&◌, cond}
use mathlib.Core.List.{List, [], ◌∷◌, ◌++◌}
use native.Mathlib.Omega.{arith}
use native.Mathlib.Decide.{dec_lt}
use lib.Dec.{eqb, ltb}
use lib.ListN.{length, get_or, take, drop, length-append, take-append-drop}
use lib.Seq.{take_all, take_at, take-add, get_or_at}
use borrow.Author.Tests.{lt-ltb, le-ltb, ltb-true}
use Rattle.selection.proofs.Runs.{both}
use Rattle.tables.specs.Limits.{name_limit}
use Rattle.tables.specs.Checks.{refuse, each, Fine}
use Rattle.tables.proofs.Each.{each_start}
use Rattle.text_parts.specs.Next.{next}
use Rattle.text_parts.proofs.Finding.{next-least}
use Rattle.text_names.specs.Letters.{name}
use Rattle.text_names.specs.Names.{feed, lines, ended, entries, number_of, entry_right, entry_check, list_check}
use Rattle.text_names.specs.Entries.{piece, entry_fits}
use Rattle.text_names.proofs.Lines.{line_cut, line_none, line_open, line_alone, line_ends, lines-append, ended-append}

module _ (l : List ℕ) (from : ℕ) (en : ended (take from l) ≡ true) {k : ℕ} (ct : length (lines (take from l)) ≡ k) where
  split : lines l ≡ lines (take from l) ++ lines (drop from l)
  split = ap lines (sym (take-append-drop from l)) ∙ lines-append (take from l) (drop from l) en

  first : take k (lines l) ≡ lines (take from l)
  first = ap (take k) split ∙ take_at (lines (take from l)) (lines (drop from l)) k ct

  count : length (lines l) ≡ k + length (lines (drop from l))
  count = ap length split ∙ length-append (lines (take from l)) (lines (drop from l)) ∙ rw ct

  ends : ended l ≡ ended (drop from l)
  ends = ap ended (sym (take-append-drop from l)) ∙ ended-append (take from l) (drop from l) en

  all_entries : entries l ≡ k + length (lines (drop from l)) + cond (ended (drop from l)) 0 1
  unfolding entries
  all_entries = rw (count, ends)

  module _ (h : from < length l) {to : ℕ} (is : to ≡ next feed l from) where
    -- it is one of the entries
    pub entry_within : k < entries l
    entry_within = rw all_entries (go (dec_lt to (length l)))
      where
        go : Dec (to < length l) → k < k + length (lines (drop from l)) + cond (ended (drop from l)) 0 1
        go (yes n) = rw (line_cut l from (omega arith) is n) (omega arith)
        go (no n) = rw (line_open l from (omega arith) is h (omega arith)) (omega arith)

    -- and right exactly if its bytes are
    entry_same : entry_right l k ≡ entry_fits l from to k
    unfolding entry_right entry_fits
    entry_same = rw (first, count) (go (dec_lt to (length l)))
      where
        go : Dec (to < length l)
            → (ltb k name_limit && (ltb k (k + length (lines (drop from l))) && (name (get_or (lines l) k []) && eqb (number_of (lines (take from l)) (get_or (lines l) k [])) 0)))
            ≡ (ltb k name_limit && (ltb to (length l) && (name (piece l from to) && eqb (number_of (lines (take from l)) (piece l from to)) 0)))
        go (yes n) =
            let cut = line_cut l from (omega arith) is n in
            let whole : lines l ≡ lines (take from l) ++ (piece l from to ∷ lines (drop (to + 1) l)) = split ∙ rw cut in
            let here : get_or (lines l) k [] ≡ piece l from to = ap (λ (ws : List (List ℕ)). get_or ws k []) whole ∙ get_or_at (lines (take from l)) (piece l from to) (lines (drop (to + 1) l)) [] k ct in
            rw (here, lt-ltb to (length l) n, cut, lt-ltb k (k + suc (length (lines (drop (to + 1) l)))) (omega arith))
        go (no n) =
            rw (line_none l from (omega arith) is (omega arith), le-ltb to (length l) (omega arith), le-ltb k (k + 0) (omega arith))

    module _ {b : Bool} (fits : b ≡ entry_fits l from to k) where
      pub entry_fine : b ≡ true → entry_check l k ≡ Fine
      unfolding entry_check
      entry_fine e = rw (entry_same, ← fits, e)

      pub entry_broken : b ≡ false → entry_check l k ≡ refuse 14 8 k
      unfolding entry_check
      entry_broken e = rw (entry_same, ← fits, e)

    -- behind it the same holds
    module _ (n : to < length l) where
      more : take (to + 1) l ≡ take from l ++ take (to + 1 - from) (drop from l)
      more =
          let sum : from + (to + 1 - from) ≡ to + 1 = omega (arith, is, next-least feed l from) in
          ap (λ (m : ℕ). take m l) (sym sum) ∙ take-add from (to + 1 - from) l

      pub entry_ended : ended (take (to + 1) l) ≡ true
      entry_ended = rw more (ended-append (take from l) (take (to + 1 - from) (drop from l)) en ∙ line_ends l from (omega arith) is n)

      pub entry_lines : lines (take (to + 1) l) ≡ lines (take from l) ++ (piece l from to ∷ [])
      entry_lines = rw (more, lines-append (take from l) (take (to + 1 - from) (drop from l)) en, line_alone l from (omega arith) is n)

      pub entry_counted : length (lines (take (to + 1) l)) ≡ k + 1
      entry_counted =
          rw (more, lines-append (take from l) (take (to + 1 - from) (drop from l)) en, length-append, ct, line_alone l from (omega arith) is n)

-- the whole list, from its front; at its end no entry is left
pub list_start : (l : List ℕ) → list_check l ≡ each (entry_check l) 0 (entries l - 0)
unfolding list_check
list_start l = each_start (entry_check l) (entries l)

pub list_end : (l : List ℕ) (from : ℕ) → ended (take from l) ≡ true → {k : ℕ} → length (lines (take from l)) ≡ k → length l ≤ from → entries l ≤ k
unfolding entries
list_end l from en ct h =
    let whole : take from l ≡ l = take_all from l h in
    let there : ended l ≡ true = rw whole at en in
    let many : length (lines l) ≡ _ = rw whole at ct in
    rw (there, many) (omega arith)

-- only an entry that a line feed ends fits
pub fits-ended : (l : List ℕ) (from to k : ℕ) {b : Bool} → b ≡ entry_fits l from to k → b ≡ true → to < length l
unfolding entry_fits
fits-ended l from to k is e =
    both (ltb k name_limit) _ (sym is ∙ e) (λ a rest. both (ltb to (length l)) _ rest (λ n others. ltb-true to (length l) n))
