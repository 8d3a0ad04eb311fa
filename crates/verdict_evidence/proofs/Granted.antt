-- What the search for a node is given once the checks are fine.
use Rattle.std.specs.Prelude.{Ok, Option, Result}
use Rattle.tables.specs.declared.refusal.Refusal.{Refusal}
use Prim.Native.Nat.{ℕ, ◌<◌, ◌≤◌}
use mathlib.Core.Path.{◌≡◌, ◌∙◌}
use mathlib.Core.Bool.{◌&&◌}
use mathlib.Core.List.{List}
use Rattle.tables.specs.Limits.{step_limit, tree_limit}
use Rattle.tables.specs.Words.{steps, nodes, Bits16}
use Rattle.tables.specs.Documents.{bare}
use Rattle.tables.specs.Checks.{pattern_check, tree_check, Fine}
use Rattle.tables.proofs.Accepted.{then_both}
use Rattle.tables.proofs.Soundness.{accepted_nodes}
use Rattle.selection.specs.Ways.{up, selected}
use Rattle.selection.specs.Operations.{hits}
use Rattle.conflict.specs.Conflict.{delete, insert}
use Rattle.check_verdict.proofs.Accepting.{read_fine, update_fine, patterns_bounded}
use Rattle.check_evidence.specs.Order.{delete_evidence_check, insert_evidence_check}
use Rattle.check_evidence.proofs.Accepting.{delete_patterns, delete_tree, delete_two, insert_patterns, insert_inserted, insert_tree}
use Rattle.verdict_entering.specs.Entering.{entering_check}
use Rattle.doc_updates.specs.Asking.{chosen, Chosen}
use Rattle.verdict_evidence.specs.Promise.{Checks}
use Rattle.outcomes.specs.Numbers.{found_of}
use Rattle.verdict_evidence.specs.Finding.{first_of, losing, within, lost_node, gained_node}
use Rattle.verdict_evidence.specs.Rows.{Cut, Hung}
use Rattle.verdict_evidence.proofs.Promise.{delete_shown, insert_shown}
use Rattle.verdict_evidence.proofs.Firsts.{first_ext}
use Rattle.verdict_evidence.proofs.Opening.{byte_test}

module _ (r p t : List ℕ) (fine : delete_evidence_check r p t ≡ Fine) where
  pub lost_read : (pattern_check r step_limit 1 ≡ Fine) × (tree_check t tree_limit 5 ≡ Fine)
  lost_read = (read_fine r p (delete_patterns r p t fine), delete_tree r p t fine)

  pub lost_update : (pattern_check p step_limit 2 ≡ Fine) × (1 < steps p) × (tree_check t tree_limit 5 ≡ Fine)
  lost_update = (update_fine r p (delete_patterns r p t fine), delete_two r p t fine, delete_tree r p t fine)

-- the first node of both rows is the one lost
pub lost_found : (r p t row cut : List ℕ) → Chosen r (bare t) row → Cut p t cut → {v answer : ℕ}
    → v ≡ first_of (λ u. chosen row u && chosen cut u) (nodes t) → answer ≡ within (nodes t) v → answer ≡ lost_node r p t
unfolding lost_node losing chosen
lost_found r p t row cut reads cuts e f =
    f ∙ rw (
      e,
      first_ext (λ u. chosen row u && chosen cut u) (losing r p t) (nodes t)
          (λ u h. rw (byte_test (selected r (bare t) u) (reads u h), byte_test (hits p (up t u)) (cuts u h))),
    )

module _ (r p x t : List ℕ) (fine : insert_evidence_check r p x t ≡ Fine) where
  pub gained_update : (pattern_check p step_limit 2 ≡ Fine) × (tree_check t tree_limit 5 ≡ Fine)
  gained_update = (update_fine r p (insert_patterns r p x t fine), insert_tree r p x t fine)

  pub gained_entering : entering_check r x ≡ Fine
  unfolding entering_check
  gained_entering = then_both (pattern_check r step_limit 1) (tree_check x tree_limit 3) (read_fine r p (insert_patterns r p x t fine)) (insert_inserted r p x t fine)

  pub gained_read : (pattern_check r step_limit 1 ≡ Fine) × (tree_check t tree_limit 5 ≡ Fine)
  gained_read = (read_fine r p (insert_patterns r p x t fine), insert_tree r p x t fine)

  pub gained_steps : (0 < steps r) × (steps r ≤ step_limit)
  gained_steps =
      let bounded = patterns_bounded r p (insert_patterns r p x t fine) in
      (bounded.reads_some, bounded.reads)

  pub gained_hung : {q : ℕ} → q < nodes t → Hung r x t q
  gained_hung h = record { reads = gained_read.0; inserted = insert_inserted r p x t fine; proposed = gained_read.1; under = h }

  pub gained_nodes : (nodes x ≤ tree_limit) × (nodes t ≤ tree_limit)
  gained_nodes = (accepted_nodes x tree_limit 3 (insert_inserted r p x t fine), accepted_nodes t tree_limit 5 (insert_tree r p x t fine))

-- the promise, from the node that is found
pub lost_promise : (r p t : List ℕ) → delete_evidence_check r p t ≡ Fine → Bits16 t → {v : ℕ} {answer : Result (Option ℕ) Refusal}
    → v ≡ lost_node r p t → answer ≡ Ok (found_of v) → Checks r (delete p) t answer
lost_promise r p t fine words e f = rw (f, e) (delete_shown r p t fine words)

pub gained_promise : (r p x t : List ℕ) → insert_evidence_check r p x t ≡ Fine → Bits16 x → Bits16 t → {v : ℕ} {answer : Result (Option ℕ) Refusal}
    → v ≡ gained_node r p x t → answer ≡ Ok (found_of v) → Checks r (insert p x) t answer
gained_promise r p x t fine tags words e f = rw (f, e) (insert_shown r p x t fine tags words)
