-- Inside: the masks of a pattern, which of its steps are wildcards, which stay, and which agree with a label.
-- Two labels are equal exactly if both their bytes are. So there is a table for each byte, with a slot for each of its values, and the
-- steps that agree with a label are those that are in both its slots.
use Rattle.std.specs.Prelude.{ℕ, ◌+◌, ◌/◌, ◌%◌, ◌<◌, ◌≡◌, Bool, true, false, ◌&&◌, ◌||◌, cond, List, eqb, ltb, length, get_or}
use Rattle.tables.specs.Words.{steps, label}
use Rattle.selection.specs.Ways.{takes}
use Rattle.pattern_set.specs.Sets.{bit, Word}

-- a byte of a label, the high one or the low one
abbrev pub byte_of : Bool → ℕ → ℕ
byte_of high l = cond high (l / 256) (l % 256)

-- the values of a byte, and so the slots of a table
abbrev pub slots : ℕ
slots = 256

-- step i is there and a wildcard
unfoldable pub wild : List ℕ → ℕ → Bool
wild p i = ltb i (steps p) && eqb (label p i) 0

-- a label is a name, and that byte of it is k
unfoldable pub has_byte : Bool → ℕ → ℕ → Bool
has_byte high l k = ltb 0 l && eqb (byte_of high l) k

-- step i is there, and its label is a name with that byte k
unfoldable pub named : Bool → List ℕ → ℕ → ℕ → Bool
named high p k i = ltb i (steps p) && has_byte high (label p i) k

-- step i is there and takes this label
unfoldable pub agrees : List ℕ → ℕ → ℕ → Bool
agrees p l i = ltb i (steps p) && takes p i l

-- each slot has what it had, and beside that bit i where `new` says so of the slot and i
pub record Added (new : ℕ → ℕ → Bool) (before after : List ℕ) : Type 0 where
  pub long : length after ≡ length before
  pub slot : (k : ℕ) → k < length before → Word (λ i. bit (get_or before k 0) i || new k i) 0 (get_or after k 0)

-- the steps from `from` on are put into their slots, beside what each slot has
abbrev pub Noted : Bool → List ℕ → ℕ → List ℕ → List ℕ → Type 0
Noted high p from before after = Added (λ k i. named high p k (from + i)) before after

-- a table of masks for the word from `from` on: in every slot the wildcards, and in each the names with that byte
pub record Table (high : Bool) (p : List ℕ) (from : ℕ) (table : List ℕ) : Type 0 where
  pub slot : (k : ℕ) → k < slots → Word (λ i. wild p i || named high p k i) from (get_or table k 0)

-- the steps that are in the slots of both bytes of a label
unfoldable pub shared : List ℕ → List ℕ → ℕ → ℕ → Bool
shared low high l i = bit (get_or low (byte_of false l) 0) i && bit (get_or high (byte_of true l) 0) i
