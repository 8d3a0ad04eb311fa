-- What an installation accepts, one whose limits are no less accepts with the same frames and answers.
use Rattle.std.specs.Prelude.{Result}
use Rattle.tables.specs.declared.refusal.Refusal.{Refusal}
use Prim.Native.Nat.{ℕ, zero, suc, ◌+◌}
use mathlib.Core.Path.{◌≡◌, refl, sym, ◌∙◌}
use mathlib.Core.Bool.{Bool, true, false, cond}
use mathlib.Core.List.{List}
use lib.Dec.{ltb, leb}
use lib.ListN.{length}
use Rattle.tables.specs.Limits.{batch_limit}
use Rattle.tables.specs.Words.{steps, nodes}
use Rattle.tables.specs.Checks.{◌then◌, test, refuse, pattern_check, tree_check, output_check, Fine}
use Rattle.tables.proofs.Accepted.{then_first, then_second}
use Rattle.conflict.specs.Conflict.{Update, delete, insert}
use Rattle.check_verdict.specs.Order.{room_check}
use Rattle.batch_frame.specs.Frames.{end_of}
use Rattle.batch_check.specs.Batches.{batch_of}
use Rattle.batch_plan.specs.Batch.{PlanBy}
use Rattle.older.specs.Installations.{Installation, Within, frame_in, frames_in, batch_in, plan_in, pair_in, verdict_in}
use Rattle.older.proofs.Limits.{test_more, pattern_other, tree_other}
use Rattle.older.proofs.Frames.{frame_kept}

module _ (o i : Installation) (w : Within o i) where
  -- batches, and their plans
  module _ (b : List ℕ) where
    frames_kept : (n at most : ℕ) → frames_in o b n at most ≡ Fine → frames_in i b n at most ≡ Fine
    unfolding frames_in
    frames_kept n at zero e = refl
    frames_kept n at (suc most) e = go (ltb at (length b)) e (frames_kept (suc n) (end_of b at) most)
      where
        go : (is : Bool) → cond is (frame_in o b n at then frames_in o b (suc n) (end_of b at) most) Fine ≡ Fine →
            (frames_in o b (suc n) (end_of b at) most ≡ Fine → frames_in i b (suc n) (end_of b at) most ≡ Fine) →
            cond is (frame_in i b n at then frames_in i b (suc n) (end_of b at) most) Fine ≡ Fine
        go true q rest = rw (frame_kept o i w b n at (then_first (frame_in o b n at) _ q)) (rest (then_second (frame_in o b n at) _ q))
        go false q rest = refl

    pub batch_kept : batch_in o b ≡ Fine → batch_in i b ≡ Fine
    unfolding batch_in
    batch_kept e =
        rw (then_first (test (leb (length b) batch_limit) (refuse 10 6 batch_limit)) _ e)
        (frames_kept 0 0 (length b) (then_second (test (leb (length b) batch_limit) (refuse 10 6 batch_limit)) _ e))

    plan_same : (words : ℕ) → batch_in o b ≡ Fine → plan_in o b words ≡ plan_in i b words
    unfolding plan_in
    plan_same words e = rw (e, batch_kept e)

    pub plan_kept : (Related : List ℕ → Update → Type 0) (before after : List ℕ) (answer : Result ℕ Refusal) → batch_in o b ≡ Fine →
        PlanBy (plan_in o b (length before)) Related b before after answer → PlanBy (plan_in i b (length before)) Related b before after answer
    plan_kept Related before after answer e p = rw (plan_same (length before) e) at p

  -- a read and an update, and their verdict
  pattern_kept : (p : List ℕ) (table : ℕ) → pattern_check p o.most_steps table ≡ Fine → pattern_check p i.most_steps table ≡ Fine
  pattern_kept p table e =
      pattern_other p o.most_steps i.most_steps table e
      ∙ rw (test_more (steps p) o.most_steps i.most_steps _ w.steps (sym (pattern_other p o.most_steps o.most_steps table e) ∙ e))

  tree_kept : (t : List ℕ) (table : ℕ) → tree_check t o.most_nodes table ≡ Fine → tree_check t i.most_nodes table ≡ Fine
  tree_kept t table e =
      tree_other t o.most_nodes i.most_nodes table e
      ∙ rw (test_more (nodes t) o.most_nodes i.most_nodes _ w.nodes (sym (tree_other t o.most_nodes o.most_nodes table e) ∙ e))

  patterns_kept : (r p : List ℕ) → (pattern_check r o.most_steps 1 then pattern_check p o.most_steps 2) ≡ Fine → (pattern_check r i.most_steps 1 then pattern_check p i.most_steps 2) ≡ Fine
  patterns_kept r p e =
      rw (pattern_kept r 1 (then_first (pattern_check r o.most_steps 1) _ e))
      (pattern_kept p 2 (then_second (pattern_check r o.most_steps 1) _ e))

  pub pair_kept : (r : List ℕ) (u : Update) → pair_in o r u ≡ Fine → pair_in i r u ≡ Fine
  unfolding pair_in
  pair_kept r (delete p) e =
      rw (patterns_kept r p (then_first (pattern_check r o.most_steps 1 then pattern_check p o.most_steps 2) _ e))
      (then_second (pattern_check r o.most_steps 1 then pattern_check p o.most_steps 2) _ e)
  pair_kept r (insert p x) e =
      rw (patterns_kept r p (then_first (pattern_check r o.most_steps 1 then pattern_check p o.most_steps 2) _ e))
      (tree_kept x 3 (then_second (pattern_check r o.most_steps 1 then pattern_check p o.most_steps 2) _ e))

  pub verdict_kept : (r : List ℕ) (u : Update) (words : ℕ) → pair_in o r u ≡ Fine → verdict_in o r u words ≡ verdict_in i r u words
  verdict_kept r (delete p) words e = rw (e, pair_kept r (delete p) e)
  verdict_kept r (insert p x) words e = rw (e, pair_kept r (insert p x) e)
