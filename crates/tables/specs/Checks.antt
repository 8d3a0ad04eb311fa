-- The checks of patterns, trees and documents: which refusal each gives, by document 01's order of checks.
use Rattle.std.specs.Prelude.{ℕ, zero, suc, ◌/◌, ◌%◌, Bool, true, false, ◌&&◌, ◌||◌, cond, List, eqb, ltb, leb, length, get_or, Result, Ok, Err}
use Rattle.tables.specs.Limits.{used_limit}
use Rattle.tables.specs.Words.{steps, axis, nodes, parent, tag}
use Rattle.tables.specs.Documents.{Doc}
use Rattle.tables.specs.declared.refusal.Refusal.{Refusal}
use Rattle.tables.specs.Refusals.{numbered}

infixr 20 ◌then◌
-- what a check answers: fine, or the refusal that it gives
abbrev pub Checked : Type 0
Checked = Result (Unit {0}) Refusal

abbrev pub Fine : Checked
Fine = Ok tt

-- refusal number n, with the table at fault and the place
abbrev pub refuse : ℕ → ℕ → ℕ → Checked
refuse n table place = Err (record { reason = numbered n; table = table; place = place })

-- the first refusal of two checks, in this order
abbrev pub ◌then◌ : Checked → Checked → Checked
Ok tt then c = c
Err r then c = Err r

-- fine where the test holds, else the refusal
abbrev pub test : Bool → Checked → Checked
test true c = Fine
test false c = c

-- this where a check is fine, else that
abbrev pub where_fine : {A : Type 0} → Checked → A → A → A
where_fine (Ok tt) this that = this
where_fine (Err r) this that = that

-- the first refusal of a check made from v on, at k numbers
unfoldable pub each : (ℕ → Checked) → ℕ → ℕ → Checked
each check v zero = Fine
each check v (suc k) = check v then each check (suc v) k

-- 1 for no words or an odd number, then 2 for more steps or nodes than the limit: of n words, two a step or node
unfoldable pub size_check : ℕ → ℕ → ℕ → Checked
size_check n limit table =
    test (ltb 0 n && eqb (n % 2) 0) (refuse 1 table 0) then test (leb (n / 2) limit) (refuse 2 table 0)

-- the first step has axis 0, each later one 1 (child) or 2 (descendant)
unfoldable pub axis_right : List ℕ → ℕ → Bool
axis_right p i = cond (eqb i 0) (eqb (axis p i) 0) (eqb (axis p i) 1 || eqb (axis p i) 2)

-- 3: an axis is wrong; the place is the step
unfoldable pub axis_check : List ℕ → ℕ → ℕ → Checked
axis_check p table i = test (axis_right p i) (refuse 3 table i)

-- a pattern: 1, 2, 3
unfoldable pub pattern_check : List ℕ → ℕ → ℕ → Checked
pattern_check p limit table = size_check (length p) limit table then each (axis_check p table) 0 (steps p)

-- the root's parent word is 0, every other parent is less than the node's own number
unfoldable pub parent_right : List ℕ → ℕ → Bool
parent_right t v = cond (eqb v 0) (eqb (parent t v) 0) (ltb (parent t v) v)

-- 4 before 5: a parent is wrong, a label is 0; the place is the node
unfoldable pub node_check : List ℕ → ℕ → ℕ → Checked
node_check t table v = test (parent_right t v) (refuse 4 table v) then test (ltb 0 (tag t v)) (refuse 5 table v)

-- a tree: 1, 2, then node by node 4 before 5
unfoldable pub tree_check : List ℕ → ℕ → ℕ → Checked
tree_check t limit table = size_check (length t) limit table then each (node_check t table) 0 (nodes t)

-- a used count is not 0, and not over 4,096, half the table's words or the marks
unfoldable pub used_right : ℕ → ℕ → ℕ → Bool
used_right words marks used = ltb 0 used && (leb used used_limit && (leb used (words / 2) && leb used marks))

-- 12: a used count is wrong
unfoldable pub used_check : Doc → Checked
used_check d = test (used_right (length d.rows) (length d.marks) d.used) (refuse 12 5 0)

-- the shape of a document: 12 for the used count, then node by node 4 then 5
unfoldable pub shape_check : Doc → Checked
shape_check d = used_check d then each (node_check d.rows 5) 0 d.used

-- a mark is 0 or 1, the root's is 0, and a node's is not less than its parent's: under a removed node all is removed
unfoldable pub mark_right : List ℕ → List ℕ → ℕ → Bool
mark_right t m v = leb (get_or m v 0) 1 && cond (eqb v 0) (eqb (get_or m v 0) 0) (leb (get_or m (parent t v) 0) (get_or m v 0))

-- 12: a mark is wrong
unfoldable pub mark_check : List ℕ → List ℕ → ℕ → Checked
mark_check t m v = test (mark_right t m v) (refuse 12 5 0)

-- a document: 12 for the used count, node by node 4 then 5, 12 for marks
unfoldable pub document_check : Doc → Checked
document_check d =
    used_check d then each (node_check d.rows 5) 0 d.used then each (mark_check d.rows d.marks) 0 d.used

-- 7: the output is too short, of so many words or bytes where so many are wanted
unfoldable pub output_check : ℕ → ℕ → Checked
output_check wanted have = test (leb wanted have) (refuse 7 4 0)
