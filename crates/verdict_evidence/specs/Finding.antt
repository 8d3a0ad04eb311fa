-- Inside: the node that is answered, computed by the ways of the tree's nodes. Node 0 is never lost and never new, so 0 says that there is none.
use Rattle.std.specs.Prelude.{ℕ, zero, suc, ◌+◌, ◌*◌, Bool, ◌&&◌, cond, List, ◌++◌, ltb}
use Rattle.tables.specs.Words.{nodes}
use Rattle.tables.specs.Documents.{bare}
use Rattle.selection.specs.Lists.{count, somewhere}
use Rattle.selection.specs.Ways.{up, sel, selected}
use Rattle.selection.specs.Operations.{hits}

-- the first number from v on at which f holds, of k numbers; behind them where there is none
unfoldable pub first_from : (ℕ → Bool) → ℕ → ℕ → ℕ
first_from f v zero = v
first_from f v (suc k) = cond (f v) v (first_from f (suc v) k)

-- the first number below n at which f holds, n for none
unfoldable pub first_of : (ℕ → Bool) → ℕ → ℕ
first_of f n = first_from f 0 n

-- a delete: the read selects v, and the delete removes it
unfoldable pub losing : List ℕ → List ℕ → List ℕ → ℕ → Bool
losing r p t v = selected r (bare t) v && hits p (up t v)

-- the number itself below n, else 0
unfoldable pub within : ℕ → ℕ → ℕ
within n v = cond (ltb v n) v 0

-- the first node lost, 0 for none
unfoldable pub lost_node : List ℕ → List ℕ → List ℕ → ℕ
lost_node r p t = within (nodes t) (first_of (losing r p t) (nodes t))

-- an insert: the read selects node k of a copy of x that hangs at the end of a way
unfoldable pub picks : List ℕ → List ℕ → List ℕ → ℕ → Bool
picks r x w k = sel r (up x k ++ w)

-- q is an update point, and in its copy the read selects some node
unfoldable pub opening : List ℕ → List ℕ → List ℕ → List ℕ → ℕ → Bool
opening r p x t q = selected p (bare t) q && somewhere (picks r x (up t q)) (nodes x)

-- the number of the first such node in the copy under q: the copies stand behind the tree's nodes, one for each update point, in rising number
unfoldable pub new_node : List ℕ → List ℕ → List ℕ → List ℕ → ℕ → ℕ
new_node r p x t q = nodes t + count (selected p (bare t)) q * nodes x + first_of (picks r x (up t q)) (nodes x)

-- the first new node that is selected, 0 for none; q is the first point with one
unfoldable pub new_from : List ℕ → List ℕ → List ℕ → List ℕ → ℕ → ℕ
new_from r p x t q = cond (ltb q (nodes t)) (new_node r p x t q) 0

unfoldable pub gained_node : List ℕ → List ℕ → List ℕ → List ℕ → ℕ
gained_node r p x t = new_from r p x t (first_of (opening r p x t) (nodes t))
