-- From the verdict on a read and an update to whether they clash.
use Rattle.std.specs.Prelude.{Option, Some, None, Result, Ok, Err}
use Rattle.tables.specs.declared.refusal.Refusal.{Refusal}
use Rattle.tables.specs.Checks.{Fine}
use Prim.Native.Nat.{ℕ, ◌+◌, ◌*◌, ◌-◌}
use mathlib.Core.Path.{◌≡◌, refl, sym}
use mathlib.Core.Bool.{Bool, true, false, false≢true}
use mathlib.Core.List.{List}
use mathlib.Core.Logic.{◌↔◌}
use lib.ListN.{length, take}
use Rattle.tables.specs.Limits.{step_limit}
use Rattle.conflict.specs.Conflict.{Update, Conflict, Deep, delete, insert}
use Rattle.check_verdict.specs.Order.{deep_check, verdict_check}
use Rattle.verdict.specs.Promise.{NodeVerdict}
use Rattle.verdict_deep.specs.Promise.{DeepVerdict}
use Rattle.check_verdict.proofs.Accepting.{delete_longest, insert_longest, verdict_deep}
use Rattle.tables.proofs.Accepted.{never}
use Rattle.batch_judge.specs.Judging.{Clash, said, said_deep}

-- the words of the longest witness
abbrev longest : ℕ
longest = 2 * (step_limit + step_limit - 1)

-- with an output that holds the longest witness the order is that without an output
module _ (r : List ℕ) (out after : List ℕ) (long : length out ≡ longest) where
  room_enough : (u : Update) → deep_check r u ≡ Fine → verdict_check r u (length out) ≡ Fine
  room_enough (delete p) e = delete_longest r p long e
  room_enough (insert p x) e = insert_longest r p long x e

  pub told : (u : Update) (answer : Result (Option ℕ) Refusal) → NodeVerdict r u out after answer → (said answer ≡ true) ↔ Clash Conflict r u
  told u (Err why) v = ((λ e. record { related = λ fine. never v.given (room_enough u fine) }), (λ c. refl))
  told u (Ok None) v = ((λ e. absurd (false≢true e)), (λ c. absurd (v.none (c.related (verdict_deep r u (length out) v.fine)))))
  told u (Ok (Some n)) v = ((λ e. record { related = λ fine. record { tree = take (2 * n) after; shows = v.witness } }), (λ c. refl))

-- the deep verdict has no output
pub told_deep : {r : List ℕ} {u : Update} (answer : Result Bool Refusal) → DeepVerdict r u answer → (said_deep answer ≡ true) ↔ Clash Deep r u
told_deep (Err why) v = ((λ e. record { related = λ fine. never v fine }), (λ c. refl))
told_deep (Ok false) v = ((λ e. absurd (false≢true e)), (λ c. absurd (v.none (c.related v.fine))))
told_deep (Ok true) v = ((λ e. record { related = λ fine. v.some }), (λ c. refl))

-- two answers that meet the promise are one
pub conflicts_one : {Clashes : Type 0} (x y : Bool) → (x ≡ true) ↔ Clashes → (y ≡ true) ↔ Clashes → x ≡ y
conflicts_one true y f g = sym (g.1 (f.0 refl))
conflicts_one false true f g = absurd (false≢true (f.1 (g.0 refl)))
conflicts_one false false f g = refl
