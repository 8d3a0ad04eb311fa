-- Laws of looking a name up: from one line of a list to the next, and that what is found is the line.
use Prim.Native.Nat.{ℕ, ◌+◌, ◌-◌, ◌<◌, ◌≤◌}
use mathlib.Core.Path.{◌≡◌, refl, sym, ◌∙◌, ap}
use mathlib.Core.List.{List, []}
use native.Mathlib.Decide.{dec_lt}
use native.Mathlib.Nat.{zero-add, add-zero}
use native.Mathlib.Omega.{arith}
use lib.ListN.{length, get_or, take, drop, length-drop, drop_of_length-le}
use lib.Seq.{drop-drop, get_or-drop, length-take-le}
use Rattle.text_parts.specs.Next.{next}
use Rattle.text_names.specs.Names.{feed, lines}
use Rattle.text_names.proofs.Lines.{line_cut, line_none}
use Rattle.text_pattern_out.specs.Lookup.{NameFrom}

-- counting: what stands from a place on has the rest of the lines
module _ (l : List ℕ) where
  pub count_start : length (lines l) ≡ 0 + length (lines (drop 0 l))
  count_start = sym (zero-add (length (lines l)))

  module _ (count from : ℕ) (e : length (lines l) ≡ count + length (lines (drop from l))) where
    module _ (h : from ≤ length l) {to : ℕ} (is : to ≡ next feed l from) where
      pub count_more : to < length l → length (lines l) ≡ (count + 1) + length (lines (drop (to + 1) l))
      count_more m =
          let q = ap length (line_cut l from h is m) in
          omega arith

      pub count_none : length l ≤ to → count ≡ length (lines l)
      count_none m =
          let q = ap length (line_none l from h is m) in
          omega arith

    pub count_end : length l ≤ from → count ≡ length (lines l)
    unfolding lines
    count_end m =
        let none : length (lines (drop from l)) ≡ 0 = rw (drop_of_length-le l {i = from} m) in
        omega arith

-- a line that is there, up to its line feed
module _ (l : List ℕ) where
  pub from_start : NameFrom l 0 0
  from_start = record { within = omega arith; rest = refl }

  pub from_end : {i from : ℕ} → NameFrom l i from → (k : ℕ) → i ≤ k → k ≤ i → NameFrom l k from
  from_end {i} e k h m =
      let same : k ≡ i = omega arith in
      rw same e

  module _ {k from : ℕ} (e : NameFrom l k from) (h : k < length (lines l)) {to : ℕ} (is : to ≡ next feed l from) where
    pub found_ended : to < length l
    found_ended = go (dec_lt to (length l))
      where
        go : Dec (to < length l) → to < length l
        go (yes m) = m
        go (no m) =
            let q = ap length (e.rest ∙ line_none l from e.within is (omega arith)) in
            absurd (omega (arith, length-drop k (lines l)))

    pub from_more : NameFrom l (k + 1) (to + 1)
    from_more =
        record {
          within = omega (arith, found_ended);
          rest = sym (drop-drop 1 k (lines l)) ∙ rw (e.rest, line_cut l from e.within is found_ended);
        }

    found_line : take (to - from) (drop from l) ≡ get_or (lines l) k []
    found_line =
        let q : get_or (drop k (lines l)) 0 [] ≡ get_or (lines l) k [] = get_or-drop k (lines l) 0 [] ∙ rw add-zero in
        rw (e.rest, line_cut l from e.within is found_ended) at q

-- so many bytes from there on are the name
module _ (l : List ℕ) {k from n : ℕ} (e : NameFrom l k from) (h : k < length (lines l)) (is : n ≡ next feed l from - from) where
  pub name_found : take n (drop from l) ≡ get_or (lines l) k []
  name_found = rw is (found_line l e h refl)

  pub name-within : from + n ≤ length l
  name-within = omega (arith, e.within, found_ended l e h refl)

  pub name_long : n ≡ length (get_or (lines l) k [])
  name_long = rw (← name_found) (sym (length-take-le n (drop from l) (rw length-drop (omega (arith, name-within)))))
