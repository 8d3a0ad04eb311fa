-- Inside: what deletes remove together, as one question about a node's way, in which no order shows.
use Rattle.std.specs.Prelude.{ℕ, Bool, false, ◌&&◌, ◌||◌, cond, List, [], ◌∷◌, ◌++◌, ltb, drop}
use Rattle.tables.specs.Limits.{step_limit}
use Rattle.tables.specs.Words.{steps}
use Rattle.tables.specs.Documents.{Doc, mark, present}
use Rattle.tables.specs.Checks.{where_fine, ◌then◌, test, refuse, pattern_check, Checked}
use Rattle.selection.specs.Lists.{tab}
use Rattle.selection.specs.Ways.{up}
use Rattle.selection.specs.Operations.{hits}

-- what a delete checks besides the document
unfoldable pub own_check : List ℕ → Checked
own_check p = pattern_check p step_limit 2 then test (ltb 1 (steps p)) (refuse 6 2 0)

-- one of them that is not refused hits this way
unfoldable pub any_hits : List (List ℕ) → List ℕ → Bool
any_hits [] w = false
any_hits (p ∷ ps) w = where_fine (own_check p) (hits p w) false || any_hits ps w

-- the marks of d, and 1 at its used nodes at which this holds
unfoldable pub marked_at : (ℕ → Bool) → Doc → List ℕ
marked_at gone d = tab (λ v. cond (gone v) 1 (mark d v)) d.used ++ drop d.used d.marks

-- the marks of d after all of them
unfoldable pub together : List (List ℕ) → Doc → List ℕ
together ps d = marked_at (λ v. present d v && any_hits ps (up d.rows v)) d
