-- Inside: sets of steps, 64 to a word, and the set of a node by the set of its parent.
use Rattle.std.specs.Prelude.{ℕ, zero, suc, ◌+◌, ◌*◌, ◌/◌, ◌%◌, ◌<◌, ◌≡◌, Bool, ◌&&◌, ◌||◌, List, eqb, get_or}

-- bit i of a number
unfoldable pub bit : ℕ → ℕ → Bool
bit s zero = eqb (s % 2) 1
bit s (suc i) = bit (s / 2) i

-- a set moved on by one step; `first` says whether step 0 is in it then
unfoldable pub moved : Bool → (ℕ → Bool) → ℕ → Bool
moved first above zero = first
moved first above (suc i) = above i

-- the steps that stand at a node: those that take its label and whose step before stands above, and those that stay from above
unfoldable pub next_set : (ℕ → Bool) → (ℕ → Bool) → Bool → (ℕ → Bool) → ℕ → Bool
next_set take stay first above i = (take i && moved first above i) || (stay i && above i)

-- steps in a word
abbrev pub word_steps : ℕ
word_steps = 64

-- the word of a set that begins with step `from`: bit i says whether step from + i is in the set
pub record Word (set : ℕ → Bool) (from s : ℕ) : Type 0 where
  pub at : (i : ℕ) → i < word_steps → bit s i ≡ set (from + i)

-- a set in `count` words
pub record Words (set : ℕ → Bool) (count : ℕ) (words : List ℕ) : Type 0 where
  pub word : (k : ℕ) → k < count → Word set (word_steps * k) (get_or words k 0)
