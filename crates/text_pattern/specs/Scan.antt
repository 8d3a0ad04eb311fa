-- Inside: whether a text is right, and its longest start that some right text has, from one byte to the next. proofs/Scanning.antt holds this against RightText and Longest.
use Rattle.std.specs.Prelude.{ℕ, Bool, ◌||◌, cond, List, eqb, ltb}
use Rattle.text_parts.specs.Scans.{scanned, lasting}
use Rattle.text_names.specs.Letters.{starts, goes}
use Rattle.text_pattern.specs.Texts.{slash}

-- what a byte is: 1 a slash, 2 a star, 3 one that may start a name, 4 one that may only continue it, 0 any other
unfoldable pub kind_of : ℕ → ℕ
kind_of c = cond (eqb c slash) 1 (cond (eqb c 42) 2 (cond (starts c) 3 (cond (goes c) 4 0)))

-- where a text stands: 0 before its first slash, 1 before a step, 2 behind a star, 3 in a name, 4 behind a slash that a second may follow,
-- 5 where no right text begins so
unfoldable pub next_of : ℕ → ℕ → ℕ
next_of q k =
    cond (eqb q 0) (cond (eqb k 1) 1 5)
    (cond (eqb q 1) (cond (eqb k 2) 2 (cond (eqb k 3) 3 5))
    (cond (eqb q 2) (cond (eqb k 1) 4 5)
    (cond (eqb q 3) (cond (eqb k 1) 4 (cond (eqb k 3 || eqb k 4) 3 5))
    (cond (eqb q 4) (cond (eqb k 1) 1 (cond (eqb k 2) 2 (cond (eqb k 3) 3 5))) 5))))

-- where it stands behind one byte more
unfoldable pub byte_on : ℕ → ℕ → ℕ
byte_on q c = next_of q (kind_of c)

-- where it stands behind s
unfoldable pub after : ℕ → List ℕ → ℕ
after q s = scanned byte_on q s

-- some right text begins so
unfoldable pub on : ℕ → Bool
on q = ltb q 5

-- a right text may end here
unfoldable pub ends : ℕ → Bool
ends q = eqb q 2 || eqb q 3

-- how many bytes of s go on with some right text
unfoldable pub lasts : ℕ → List ℕ → ℕ
lasts q s = lasting byte_on on q s

-- s is a right text
unfoldable pub right_text : List ℕ → Bool
right_text s = ends (after 0 s)

-- the length of the longest start of s that some right text has
unfoldable pub longest : List ℕ → ℕ
longest s = lasts 0 s
