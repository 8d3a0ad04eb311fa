-- The counted parts of a frame: a count, and behind it two words for each step or node.
use Rattle.std.specs.Prelude.{ℕ, ◌+◌, ◌*◌, List, cond, eqb, ltb, leb, length, get_or, take, drop, Ok, Err}
use Rattle.tables.specs.Limits.{step_limit, tree_limit}
use Rattle.tables.specs.Checks.{◌then◌, test, refuse, pattern_check, tree_check, Checked, Fine}
use Rattle.tables.specs.Refusals.{number}

-- so many words of the batch, from here on
abbrev pub part : List ℕ → ℕ → ℕ → List ℕ
part b from words = take words (drop from b)

-- the count that stands at a place
abbrev pub count : List ℕ → ℕ → ℕ
count b at = get_or b at 0

-- In a batch the table is 6, and the place is the offset of a word from the start of the batch. Of steps, the first at an offset: the axis of the step
abbrev pub in_steps : ℕ → Checked → Checked
in_steps from (Ok tt) = Fine
in_steps from (Err r) = Err (record { reason = r.reason; table = 6; place = from + 2 * r.place })

-- of nodes, the first at an offset: the parent of the node, for 5 its label
abbrev pub in_nodes : ℕ → Checked → Checked
in_nodes from (Ok tt) = Fine
in_nodes from (Err r) = Err (record { reason = r.reason; table = 6; place = from + 2 * r.place + cond (eqb (number r.reason) 5) 1 0 })

-- a count, and behind it two words each: absent 9, 1, 2, the rest absent 9. The place is the count; for 9 the first word that is missing
unfoldable pub count_check : List ℕ → ℕ → ℕ → Checked
count_check b at limit =
    test (ltb at (length b)) (refuse 9 6 (length b))
    then test (ltb 0 (count b at)) (refuse 1 6 at)
    then test (leb (count b at) limit) (refuse 2 6 at)
    then test (leb (at + 1 + 2 * count b at) (length b)) (refuse 9 6 (length b))

-- the steps: their count, then 3
unfoldable pub steps_check : List ℕ → ℕ → Checked
steps_check b at = count_check b at step_limit then in_steps (at + 1) (pattern_check (part b (at + 1) (2 * count b at)) step_limit 6)

-- the nodes of an insert: their count, then 4, 5
unfoldable pub nodes_check : List ℕ → ℕ → Checked
nodes_check b at = count_check b at tree_limit then in_nodes (at + 1) (tree_check (part b (at + 1) (2 * count b at)) tree_limit 6)
