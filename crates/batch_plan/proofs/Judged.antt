-- A read and an update that stand in a batch are accepted by the verdict, so they clash exactly where they are related.
use Rattle.tables.specs.Checks.{Fine}
use Prim.Native.Nat.{ℕ}
use mathlib.Core.Path.{◌≡◌}
use mathlib.Core.Bool.{Bool, true}
use mathlib.Core.List.{List}
use mathlib.Core.Logic.{◌⊎◌, inl, inr, ◌↔◌}
use borrow.Author.Tests.{lt-ltb}
use Rattle.tables.specs.Limits.{step_limit, tree_limit}
use Rattle.tables.specs.Words.{steps}
use Rattle.tables.proofs.Elsewhere.{pattern_elsewhere, tree_elsewhere}
use Rattle.conflict.specs.Conflict.{Update}
use Rattle.batch_frame.specs.Frames.{kind}
use Rattle.check_verdict.specs.Order.{patterns_check, deep_delete_check, deep_insert_check, deep_check}
use Rattle.batch_check.specs.Batches.{pattern_of, tree_of, update_of}
use Rattle.batch_judge.specs.Judging.{Clash}
use Rattle.batch_plan.specs.Walking.{Standing, Updating}
use Rattle.batch_frame.proofs.Accepted.{frame_kind}
use Rattle.batch_check.proofs.Accepted.{steps_fine, delete_two, tree_fine}

module _ (b : List ℕ) {at place : ℕ} (s : Standing b at) (u : Updating b place) where
  patterns : patterns_check (pattern_of b at) (pattern_of b place) ≡ Fine
  unfolding patterns_check
  patterns =
      rw (
        pattern_elsewhere step_limit 6 1 (pattern_of b at) (steps_fine b s.frame at s.fine),
        pattern_elsewhere step_limit 6 2 (pattern_of b place) (steps_fine b u.standing.frame place u.standing.fine),
      )

  accepted : deep_check (pattern_of b at) (update_of b place) ≡ Fine
  unfolding update_of deep_delete_check deep_insert_check
  accepted = go (frame_kind b u.standing.frame place u.standing.fine)
    where
      go : (kind b place ≡ 1) ⊎ ((kind b place ≡ 2) ⊎ (kind b place ≡ 3)) → deep_check (pattern_of b at) (update_of b place) ≡ Fine
      go (inl one) = absurd (u.other one)
      go (inr (inl two)) = rw (two, patterns) (tree_elsewhere tree_limit 6 3 (tree_of b place) (tree_fine b u.standing.frame place u.standing.fine two))
      go (inr (inr three)) = rw (three, patterns, lt-ltb 1 (steps (pattern_of b place)) (delete_two b u.standing.frame place u.standing.fine three))

  pub told : {Related : List ℕ → Update → Type 0} {c : Bool} → (c ≡ true) ↔ Clash Related (pattern_of b at) (update_of b place) → (c ≡ true) ↔ Related (pattern_of b at) (update_of b place)
  told clash = ((λ e. (clash.0 e).related accepted), (λ d. clash.1 (record { related = λ fine. d })))
