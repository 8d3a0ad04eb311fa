-- Inside: the labels of the innermost open elements, in a row of a fixed length.
use Rattle.std.specs.Prelude.{ℕ, suc, ◌+◌, ◌-◌, ◌%◌, ◌<◌, ◌≤◌, ◌≡◌, true, ◌&&◌, cond, List, eqb, ltb, leb, length, get_or, set, take}
use Rattle.text_xml_form.specs.Scan.{fits, standing}

-- how many levels are held at once
abbrev pub held_levels : ℕ
held_levels = 4096

-- where the label of a level stands
abbrev pub held_at : ℕ → ℕ
held_at k = k % held_levels

-- the labels of open elements from level low on are held
pub record Held (row : List ℕ) (low : ℕ) (ls : List ℕ) : Type 0 where
  pub long : length row ≡ held_levels
  pub within : low ≤ length ls
  pub few : length ls ≤ low + held_levels
  pub labels : (k : ℕ) → low ≤ k → k < length ls → get_or row (held_at k) 0 ≡ get_or ls (length ls - suc k) 0

-- behind a byte, at depth d, where depth e is the greatest that is wanted: a start tag's label is noted, if it will still be held at that depth
unfoldable pub noted : ℕ → ℕ → ℕ → ℕ → ℕ → List ℕ → List ℕ
noted q v c d e row = cond (eqb c 62 && (eqb q 2 && (ltb d e && leb (e - d) held_levels))) (set row (held_at d) v) row

-- the lowest level held behind a byte that opens an element
unfoldable pub low_on : ℕ → ℕ → ℕ → ℕ
low_on q d low = cond (eqb q 2 && eqb (d - low) held_levels) (suc low) low

-- the text before i stands at a stage and number, with d open elements
pub record StandsAt (s : List ℕ) (i q v d : ℕ) : Type 0 where
  pub within : i ≤ length s
  pub stage : (standing (take i s)).stage ≡ q
  pub number : (standing (take i s)).number ≡ v
  pub depth : length (standing (take i s)).opened ≡ d
  pub on : q < 7

-- and the labels from level low on are held, in an end tag at least the innermost
pub record Scans (s : List ℕ) (i q v d low : ℕ) (row : List ℕ) : Type 0 where
  pub at : StandsAt s i q v d
  pub held : Held row low (standing (take i s)).opened
  pub closing : 4 ≤ q → q ≤ 5 → low < d

-- the next byte is c, and it goes on
pub record Byte (s : List ℕ) (i q v c d : ℕ) (row : List ℕ) : Type 0 where
  pub here : i < length s
  pub is : c ≡ get_or s i 0
  pub fit : fits q v (get_or row (held_at (d - 1)) 0) d c ≡ true

-- some right text begins with the text before i, which has d open elements; and a row for them
pub record Recallable (s : List ℕ) (i d : ℕ) (row : List ℕ) : Type 0 where
  pub within : i ≤ length s
  pub on : (standing (take i s)).stage < 7
  pub depth : length (standing (take i s)).opened ≡ d
  pub long : length row ≡ held_levels
