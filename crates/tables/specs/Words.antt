-- Patterns and trees as lists of words.
use Rattle.std.specs.Prelude.{ℕ, ◌+◌, ◌*◌, ◌/◌, ◌<◌, List, length, get_or}
use Rattle.tables.specs.Limits.{word_limit}

-- a pattern: two words a step, axis and label; the last step is the output
abbrev pub steps : List ℕ → ℕ
steps p = length p / 2

abbrev pub axis : List ℕ → ℕ → ℕ
axis p i = get_or p (2 * i) 0

abbrev pub label : List ℕ → ℕ → ℕ
label p i = get_or p (2 * i + 1) 0

-- a tree: two words a node, parent and label; node 0 is the root
abbrev pub nodes : List ℕ → ℕ
nodes t = length t / 2

abbrev pub parent : List ℕ → ℕ → ℕ
parent t v = get_or t (2 * v) 0

abbrev pub tag : List ℕ → ℕ → ℕ
tag t v = get_or t (2 * v + 1) 0

-- every word of the list has 16 bits, as every word that is lent to a call
abbrev pub Bits16 : List ℕ → Type 0
Bits16 t = (i : ℕ) → get_or t i 0 < word_limit
