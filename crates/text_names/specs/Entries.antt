-- Inside: an entry by its place in the list's bytes.
use Rattle.std.specs.Prelude.{ℕ, ◌+◌, ◌-◌, ◌*◌, ◌%◌, ◌≡◌, Bool, ◌&&◌, List, [], ◌∷◌, eqb, ltb, length, take, drop}
use Rattle.tables.specs.Limits.{name_limit}
use Rattle.text_names.specs.Letters.{name}
use Rattle.text_names.specs.Names.{lines, number_of}

-- the bytes from a place to another
abbrev pub piece : List ℕ → ℕ → ℕ → List ℕ
piece l from to = take (to - from) (drop from l)

-- entry k, which goes from a place to the next line feed, is right
unfoldable pub entry_fits : List ℕ → ℕ → ℕ → ℕ → Bool
entry_fits l from to k =
    ltb k name_limit && (ltb to (length l) && (name (piece l from to) && eqb (number_of (lines (take from l)) (piece l from to)) 0))

-- slots for the names of a list
abbrev pub slots : ℕ
slots = 4096

-- the slot of a text behind bytes that came to h: the same text has the same slot
unfoldable pub slot_of : ℕ → List ℕ → ℕ
slot_of h [] = h
slot_of h (c ∷ s) = slot_of ((31 * h + c) % slots) s

-- where the mark of an entry's slot is 0, it did not stand before
pub record FreshAt (l : List ℕ) (from to mark : ℕ) : Type 0 where
  pub fresh : mark ≡ 0 → number_of (lines (take from l)) (piece l from to) ≡ 0
