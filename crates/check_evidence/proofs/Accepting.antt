-- What an accepted read, update and proposed tree are: each check is fine, and so are those of the read and the update alone.
use Prim.Native.Nat.{ℕ, ◌<◌}
use mathlib.Core.Path.{◌≡◌}
use mathlib.Core.List.{List}
use lib.Dec.{ltb}
use borrow.Author.Tests.{ltb-true}
use Rattle.tables.specs.Limits.{tree_limit}
use Rattle.tables.specs.Words.{steps}
use Rattle.tables.specs.Checks.{refuse, ◌then◌, test, tree_check, Checked, Fine}
use Rattle.tables.proofs.Accepted.{held, then_first, then_second, then_both}
use Rattle.check_verdict.specs.Order.{patterns_check, deep_delete_check, deep_insert_check}
use Rattle.check_evidence.specs.Order.{delete_evidence_check, insert_evidence_check}

-- a delete
module _ (r p t : List ℕ) (e : delete_evidence_check r p t ≡ Fine) where
  two : Checked
  two = test (ltb 1 (steps p)) (refuse 6 2 0)

  pub delete_patterns : patterns_check r p ≡ Fine
  unfolding delete_evidence_check two
  delete_patterns = then_first (patterns_check r p) (tree_check t tree_limit 5 then two) e

  rest : (tree_check t tree_limit 5 then two) ≡ Fine
  unfolding delete_evidence_check two
  rest = then_second (patterns_check r p) (tree_check t tree_limit 5 then two) e

  pub delete_tree : tree_check t tree_limit 5 ≡ Fine
  delete_tree = then_first (tree_check t tree_limit 5) two rest

  more : two ≡ Fine
  more = then_second (tree_check t tree_limit 5) two rest

  pub delete_two : 1 < steps p
  unfolding two
  delete_two = ltb-true 1 (steps p) (held (ltb 1 (steps p)) _ more)

  pub delete_deep_lem : deep_delete_check r p ≡ Fine
  unfolding deep_delete_check two
  delete_deep_lem = then_both (patterns_check r p) two delete_patterns more

-- an insert
module _ (r p x t : List ℕ) (e : insert_evidence_check r p x t ≡ Fine) where
  pub insert_patterns : patterns_check r p ≡ Fine
  unfolding insert_evidence_check
  insert_patterns = then_first (patterns_check r p) (tree_check x tree_limit 3 then tree_check t tree_limit 5) e

  trees : (tree_check x tree_limit 3 then tree_check t tree_limit 5) ≡ Fine
  unfolding insert_evidence_check
  trees = then_second (patterns_check r p) (tree_check x tree_limit 3 then tree_check t tree_limit 5) e

  pub insert_inserted : tree_check x tree_limit 3 ≡ Fine
  insert_inserted = then_first (tree_check x tree_limit 3) (tree_check t tree_limit 5) trees

  pub insert_tree : tree_check t tree_limit 5 ≡ Fine
  insert_tree = then_second (tree_check x tree_limit 3) (tree_check t tree_limit 5) trees

  pub insert_deep_lem : deep_insert_check r p x ≡ Fine
  unfolding deep_insert_check
  insert_deep_lem = then_both (patterns_check r p) (tree_check x tree_limit 3) insert_patterns insert_inserted
