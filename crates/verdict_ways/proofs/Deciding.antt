-- The ways of accepted words decide whether there is a conflict, within the bound.
use Rattle.tables.specs.Checks.{Fine}
use Prim.Native.Nat.{ℕ, ◌+◌, ◌*◌, ◌-◌, ◌≤◌}
use native.Mathlib.Omega.{arith}
use mathlib.Core.Path.{◌≡◌}
use mathlib.Core.List.{List}
use lib.ListN.{length}
use Rattle.tables.specs.Words.{steps, Bits16}
use Rattle.tables.specs.Limits.{tree_limit}
use Rattle.tables.proofs.Soundness.{accepted_tree}
use Rattle.conflict.specs.Conflict.{Update, delete, insert, pattern}
use Rattle.conflict.specs.Crossing.{delete_way, insert_way}
use Rattle.conflict.proofs.Smallest.{Decides}
use Rattle.conflict.proofs.Deletes.{decides_delete, delete_way_most}
use Rattle.conflict.proofs.Inserts.{decides_insert, insert_way_most}
use Rattle.check_verdict.specs.Order.{deep_delete_check, deep_insert_check}
use Rattle.check_verdict.proofs.Accepting.{patterns_read, delete_patterns, delete_bounded, delete_two, insert_patterns, insert_bounded, insert_tree}

-- a way that decides, within the bound
pub record Deciding (r : List ℕ) (u : Update) (way : List ℕ) : Type 0 where
  pub decides : Decides r u way
  pub bound : length way ≤ steps r + steps (pattern u) - 1

-- a delete: every word has 16 bits
module _ (r p : List ℕ) (names : Bits16 r) (others : Bits16 p) where
  pub delete_deciding : deep_delete_check r p ≡ Fine → Deciding r (delete p) (delete_way r p)
  delete_deciding e =
      record {
        decides =
            decides_delete r p (patterns_read r p (delete_patterns r p e)) (delete_two r p e) (λ k. names (2 * k + 1)) (λ k. others (2 * k + 1));
        bound = omega (arith, delete_way_most r p (delete_bounded r p e).reads_some (delete_bounded r p e).updates_some);
      }

-- an insert
module _ (r p x : List ℕ) (names : Bits16 r) (others : Bits16 p) (tags : Bits16 x) where
  pub insert_deciding : deep_insert_check r p x ≡ Fine → Deciding r (insert p x) (insert_way r p x)
  insert_deciding e =
      record {
        decides =
            decides_insert r p x (patterns_read r p (insert_patterns r p x e)) (accepted_tree x tree_limit 3 (insert_tree r p x e) tags)
            (λ k. names (2 * k + 1))
            (λ k. others (2 * k + 1));
        bound = omega (arith, insert_way_most r p x (insert_bounded r p x e).reads_some (insert_bounded r p x e).updates_some);
      }
