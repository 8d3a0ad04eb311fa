-- A witness that the verdict writes is an accepted tree.
use Rattle.std.specs.Prelude.{Some, Ok}
use Prim.Native.Nat.{ℕ, ◌*◌, ◌≤◌}
use mathlib.Core.Path.{◌≡◌}
use mathlib.Core.List.{List}
use native.Mathlib.Omega.{arith}
use lib.ListN.{length, take, length-take}
use Rattle.tables.specs.Limits.{tree_limit}
use Rattle.tables.specs.Words.{nodes}
use Rattle.tables.specs.Checks.{tree_check, Fine}
use Rattle.tables.proofs.Soundness.{tree_fine}
use Rattle.conflict.specs.Conflict.{Update, delete, insert, pattern}
use Rattle.check_verdict.specs.Order.{verdict_check}
use Rattle.check_verdict.specs.Admitted.{Bounded}
use Rattle.check_verdict.proofs.Accepting.{delete_bounded, delete_deep_lem, insert_bounded, insert_deep_lem}
use Rattle.verdict.specs.Promise.{NodeVerdict}

bounded : (r : List ℕ) (u : Update) (words : ℕ) → verdict_check r u words ≡ Fine → Bounded r (pattern u)
bounded r (delete p) words e = delete_bounded r p (delete_deep_lem r p words e)
bounded r (insert p x) words e = insert_bounded r p x (insert_deep_lem r p words x e)

pub witness_fine : (r : List ℕ) (u : Update) (before after : List ℕ) (n : ℕ) → NodeVerdict r u before after (Ok (Some n)) → tree_check (take (2 * n) after) tree_limit 5 ≡ Fine
witness_fine r u before after n h =
    let steps = bounded r u (length before) h.fine in
    let few : nodes (take (2 * n) after) ≤ tree_limit = omega (arith, h.count, h.bound, steps.reads, steps.updates) in
    tree_fine (take (2 * n) after) tree_limit 5 h.witness.sound (omega (arith, h.count, length-take (2 * n) after)) few
