-- Inside: the set of steps that stand at each node, from the root on, one word of it at a time.
use Rattle.std.specs.Prelude.{ℕ, zero, suc, pred, ◌+◌, ◌/◌, ◌<◌, ◌≤◌, ◌≡◌, Bool, true, false, ◌&&◌, cond, List, ◌++◌, eqb, ltb, length, drop, get_or}
use Rattle.tables.specs.Limits.{step_limit, used_limit}
use Rattle.tables.specs.Words.{steps, parent}
use Rattle.tables.specs.Documents.{Doc, doc, present}
use Rattle.selection.specs.Lists.{tab, somewhere}
use Rattle.selection.specs.Ways.{up, run, last}
use Rattle.pattern_set.specs.Sets.{moved, word_steps, Word}
use Rattle.pattern_masks.specs.Masks.{Table}
use Rattle.doc_read.specs.Wanted.{wants}

-- step i is there and stands at the end of this way
unfoldable pub stands_on : List ℕ → List ℕ → ℕ → Bool
stands_on p way i = ltb i (steps p) && run p false i way

-- the steps that stand at v
abbrev pub standing : List ℕ → List ℕ → ℕ → ℕ → Bool
standing p t v = stands_on p (up t v)

-- step i is there and wanted
unfoldable pub asked : List ℕ → List ℕ → ℕ → Bool
asked p wanted i = ltb i (steps p) && wants wanted i

-- v is present, and a wanted step below n stands there
unfoldable pub stood_below : List ℕ → List ℕ → Doc → ℕ → ℕ → Bool
stood_below p wanted d n v = present d v && somewhere (λ i. standing p d.rows v i && asked p wanted i) n

-- the byte and the row that say so
abbrev pub shown_byte : List ℕ → List ℕ → Doc → ℕ → ℕ → ℕ
shown_byte p wanted d n v = cond (stood_below p wanted d n v) 1 0

abbrev pub shown_row : List ℕ → List ℕ → Doc → ℕ → List ℕ → List ℕ
shown_row p wanted d n row = tab (shown_byte p wanted d n) d.used ++ drop d.used row

-- of the steps that are there only the last is wanted
pub record LastWanted (p wanted : List ℕ) : Type 0 where
  pub only : steps p ≤ step_limit → (i : ℕ) → i < steps p → wants wanted i ≡ eqb i (last p)

-- the set above v: nothing stands above the root
unfoldable pub set_above : List ℕ → List ℕ → ℕ → ℕ
set_above t sets zero = 0
set_above t sets (suc v) = get_or sets (parent t (suc v)) 0

-- by the carry of v's parent, the step before a later word's first one stands there
unfoldable pub carried_above : ℕ → List ℕ → List ℕ → ℕ → Bool
carried_above from t carry v = ltb 0 from && eqb (get_or carry (parent t v) 0) 1

-- what moves into the word from above v: into the root's first word its first step
unfoldable pub enters : ℕ → List ℕ → List ℕ → ℕ → Bool
enters from t carry zero = eqb from 0
enters from t carry (suc v) = carried_above from t carry (suc v)

-- the words from `from` on of the sets of the nodes below v
pub record Held (p t : List ℕ) (from v : ℕ) (sets : List ℕ) : Type 0 where
  pub set : (u : ℕ) → u < v → Word (standing p t u) from (get_or sets u 0)

-- the carry of each node below n: 1 where the step before `from` stands there
pub record Carried (p t : List ℕ) (from n : ℕ) (carry : List ℕ) : Type 0 where
  pub at : (u : ℕ) → u < n → eqb (get_or carry u 0) 1 ≡ moved false (standing p t u) from

-- what a reading needs: a last step; parents that fall; two words of the table, a mark and a byte of the row for each used node
pub record Readable (p t marks : List ℕ) (used : ℕ) (row : List ℕ) : Type 0 where
  pub some : 0 < steps p
  pub few : steps p ≤ step_limit
  pub within : used ≤ used_limit
  pub words : used ≤ length t / 2
  pub marked : used ≤ length marks
  pub long : used ≤ length row
  pub parents : (v : ℕ) → 0 < v → v < used → parent t v < v

-- and one word of it: the words before are carried and shown, and there is a set for each used node
pub record Carrying (p : List ℕ) (from : ℕ) (wanted t marks : List ℕ) (used : ℕ) (carry sets row : List ℕ) : Type 0 where
  pub readable : Readable p t marks used row
  pub carried : Carried p t from used carry
  pub carries : used ≤ length carry
  pub room : used ≤ length sets
  pub shown : (v : ℕ) → v < used → get_or row v 0 ≡ shown_byte p wanted (doc t marks used) from v

-- and a pass over the nodes: the word's masks
pub record Passable (p : List ℕ) (from : ℕ) (wanted low high t marks : List ℕ) (used : ℕ) (carry sets row : List ℕ) : Type 0 where
  pub carrying : Carrying p from wanted t marks used carry sets row
  pub lows : Table false p from low
  pub highs : Table true p from high

-- a place of the pass: the sets before v are there, the nearest of them in hand
pub record Placed (t : List ℕ) (v : ℕ) (sets : List ℕ) (own : ℕ) : Type 0 where
  pub node : v < length t / 2
  pub room : v < length sets
  pub above : 0 < v → parent t v < v
  pub near : 0 < v → own ≡ get_or sets (pred v) 0

-- what one word leaves: its sets, and the row that shows it and the words before
pub record Passed (p : List ℕ) (from : ℕ) (wanted t marks : List ℕ) (used : ℕ) (before sets after : List ℕ) : Type 0 where
  pub held : Held p t from used sets
  pub row : after ≡ shown_row p wanted (doc t marks used) (from + word_steps) before
