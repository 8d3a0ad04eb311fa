-- Lists of names: at most 256 distinct names, each ended by a line feed. A name's number is its place, from 1.
use Rattle.std.specs.Prelude.{ℕ, suc, ◌+◌, ◌≤◌, ◌<◌, ◌≡◌, Bool, true, false, ◌&&◌, cond, List, [], ◌∷◌, ◌++◌, eqb, ltb, length, get_or, take}
use Rattle.tables.specs.Limits.{name_limit}
use Rattle.tables.specs.Checks.{test, refuse, each, Checked}
use Rattle.text_names.specs.Letters.{name}

-- a line feed
abbrev pub feed : ℕ
feed = 10

-- names one after another, each ended by a line feed
unfoldable pub lines_of : List (List ℕ) → List ℕ
lines_of [] = []
lines_of (w ∷ ws) = w ++ (feed ∷ lines_of ws)

-- at most 256 distinct names
pub record Names (ws : List (List ℕ)) : Type 0 where
  pub few : length ws ≤ name_limit
  pub named : (k : ℕ) → k < length ws → name (get_or ws k []) ≡ true
  pub distinct : (j k : ℕ) → j < k → k < length ws → get_or ws j [] ≡ get_or ws k [] → ⊥

-- a list of names
pub record NameList (l : List ℕ) : Type 0 where
  pub names : List (List ℕ)
  pub right : Names names
  pub written : l ≡ lines_of names

-- entry k, from 0, is the first at which a list breaks: before it stand k distinct names, each ended by a line feed; behind them stands something, which
-- does not begin with one name more
pub record BreaksAt (l : List ℕ) (k : ℕ) : Type 0 where
  pub before : List (List ℕ)
  pub rest : List ℕ
  pub right : Names before
  pub count : length before ≡ k
  pub written : l ≡ lines_of before ++ rest
  pub something : 0 < length rest
  pub broken : (w more : List ℕ) → Names (before ++ (w ∷ [])) → rest ≡ w ++ (feed ∷ more) → ⊥

-- a byte before a line that goes on with others
abbrev pub onto : ℕ → List (List ℕ) → List (List ℕ)
onto c [] = []
onto c (w ∷ ws) = (c ∷ w) ∷ ws

-- the lines that a line feed ends; bytes behind the last line feed are none
unfoldable pub lines : List ℕ → List (List ℕ)
lines [] = []
lines (c ∷ s) = cond (eqb c feed) ([] ∷ lines s) (onto c (lines s))

-- no bytes stand behind the last line feed
unfoldable pub ended : List ℕ → Bool
ended [] = true
ended (c ∷ []) = eqb c feed
ended (c ∷ d ∷ s) = ended (d ∷ s)

-- the entries of a list: its lines, and bytes behind the last line feed
unfoldable pub entries : List ℕ → ℕ
entries l = length (lines l) + cond (ended l) 0 1

-- two texts are the same
unfoldable pub same : List ℕ → List ℕ → Bool
same [] [] = true
same [] (d ∷ t) = false
same (c ∷ s) [] = false
same (c ∷ s) (d ∷ t) = eqb c d && same s t

-- the place of a name among others, counted from n; 0 where it is none of them
unfoldable pub place_from : ℕ → List (List ℕ) → List ℕ → ℕ
place_from n [] w = 0
place_from n (x ∷ ws) w = cond (same x w) n (place_from (suc n) ws w)

-- the number of a name: its place, from 1, in the list; 0 where it is not listed
abbrev pub number_of : List (List ℕ) → List ℕ → ℕ
number_of ws w = place_from 1 ws w

-- entry k is right: one of the first 256, ended by a line feed, a name, and none that stood before
unfoldable pub entry_right : List ℕ → ℕ → Bool
entry_right l k =
    ltb k name_limit
    && (ltb k (length (lines l)) && (name (get_or (lines l) k []) && eqb (number_of (take k (lines l)) (get_or (lines l) k [])) 0))

-- 14 for a list that breaks this: table 8, the first entry at which it breaks
unfoldable pub entry_check : List ℕ → ℕ → Checked
entry_check l k = test (entry_right l k) (refuse 14 8 k)

unfoldable pub list_check : List ℕ → Checked
list_check l = each (entry_check l) 0 (entries l)
