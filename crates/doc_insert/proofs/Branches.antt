-- The branches of the code, held against those of the definitions.
use Rattle.std.specs.Prelude.{Ok, Err}
use Rattle.tables.specs.Checks.{Checked, Fine}
use Prim.Native.Nat.{ℕ, ◌*◌, ◌≤◌}
use mathlib.Core.Path.{◌≡◌}
use native.Mathlib.Nat.{mul-le-mul}
use Rattle.tables.specs.Limits.{tree_limit, used_limit}
use Rattle.tables.specs.declared.refusal.Refusal.{Refusal}
use Rattle.doc_updates.specs.Updating.{insert_answer}
use Rattle.doc_insert.specs.Planning.{Small}

-- an insert's answer, once its check is known
module _ {got check : Checked} (n used next : ℕ) (e : got ≡ check) where
  pub answer_on : got ≡ Fine → Ok (record { copies = n; used = used; next = next }) ≡ insert_answer check n used next
  answer_on told = rw (← e, told)

  pub answer_off : {r : Refusal} → got ≡ Err r → Err r ≡ insert_answer check n used next
  answer_off told = rw (← e, told)

-- a product of counts within the limits is far from wrapping
pub product_small : {used copies nodes next : ℕ} → Small used copies nodes next → copies * nodes ≤ used_limit * tree_limit
product_small small = mul-le-mul small.points small.tree
