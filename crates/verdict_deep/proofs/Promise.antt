-- From the check and the test to what the deep verdict promises; the promise fixes the answer, and can be met for every input.
use Rattle.std.specs.Prelude.{Result, Ok, Err}
use Rattle.tables.specs.declared.refusal.Refusal.{Refusal}
use Rattle.tables.specs.Checks.{Checked, Fine}
use Prim.Native.Nat.{ℕ, ◌+◌, ◌*◌}
use mathlib.Core.Path.{◌≡◌, refl, sym, ◌∙◌}
use mathlib.Core.Bool.{Bool, true, false, false≢true}
use mathlib.Core.List.{List}
use mathlib.Core.Logic.{◌↔◌}
use Rattle.tables.specs.Words.{Bits16}
use Rattle.tables.specs.Limits.{tree_limit}
use Rattle.tables.proofs.Accepted.{never}
use Rattle.tables.proofs.Soundness.{accepted_tree}
use Rattle.conflict.specs.Conflict.{Update, UpdateBits, delete, insert, Deep}
use Rattle.conflict.specs.Crossing.{delete_deep, insert_deep}
use Rattle.conflict.proofs.Both.{deep_delete_decided, deep_insert_decided}
use Rattle.check_verdict.specs.Order.{deep_check, deep_delete_check, deep_insert_check}
use Rattle.check_verdict.proofs.Accepting.{patterns_read, patterns_update, delete_patterns, delete_two, insert_patterns, insert_tree}
use Rattle.verdict_deep.specs.Promise.{DeepVerdict}
use Rattle.verdict_deep.proofs.Judging.{deeply_of}

-- a test that decides where the check is fine
deeply_verdict : {r : List ℕ} {u : Update} {answer : Result Bool Refusal} (test : Bool) → (deep_check r u ≡ Fine → Deep r u ↔ (test ≡ true))
    → answer ≡ deeply_of (deep_check r u) test → DeepVerdict r u answer
unfolding deeply_of
deeply_verdict {r} {u} test decided says = rw says (go (deep_check r u) test refl refl)
  where
    go : (c : Checked) (b : Bool) → deep_check r u ≡ c → test ≡ b → DeepVerdict r u (deeply_of c b)
    go (Err why) b e f = e
    go (Ok tt) true e f = record { fine = e; some = (decided e).1 f }
    go (Ok tt) false e f = record { fine = e; none = λ deep. false≢true (sym f ∙ (decided e).0 deep) }

-- a delete: every word has 16 bits
module _ (r p : List ℕ) (names : Bits16 r) (others : Bits16 p) where
  pub deep_delete_promise : {answer : Result Bool Refusal} → answer ≡ deeply_of (deep_delete_check r p) (delete_deep r p) → DeepVerdict r (delete p) answer
  deep_delete_promise says =
      deeply_verdict {u = delete p} (delete_deep r p)
      (λ e.
      let both = delete_patterns r p e in
      deep_delete_decided r p (patterns_read r p both) (patterns_update r p both) (delete_two r p e) (λ k. names (2 * k + 1)) (λ k. others (2 * k + 1)))
      says

-- an insert
module _ (r p x : List ℕ) (names : Bits16 r) (others : Bits16 p) (tags : Bits16 x) where
  pub deep_insert_promise : {answer : Result Bool Refusal} → answer ≡ deeply_of (deep_insert_check r p x) (insert_deep r p x) → DeepVerdict r (insert p x) answer
  deep_insert_promise says =
      deeply_verdict {u = insert p x} (insert_deep r p x)
      (λ e.
      let both = insert_patterns r p x e in
      deep_insert_decided r p x (patterns_read r p both) (patterns_update r p both) (accepted_tree x tree_limit 3 (insert_tree r p x e) tags)
      (λ k. names (2 * k + 1))
      (λ k. others (2 * k + 1)))
      says

-- Two answers that meet the promise are the same.
pub deep_one : (r : List ℕ) (u : Update) (x y : Result Bool Refusal) → DeepVerdict r u x → DeepVerdict r u y → x ≡ y
deep_one r u (Err why) (Err other) f g = cc
deep_one r u (Err why) (Ok false) f g = never f g.fine
deep_one r u (Err why) (Ok true) f g = never f g.fine
deep_one r u (Ok false) (Err why) f g = never g f.fine
deep_one r u (Ok false) (Ok false) f g = refl
deep_one r u (Ok false) (Ok true) f g = absurd (f.none g.some)
deep_one r u (Ok true) (Err why) f g = never g f.fine
deep_one r u (Ok true) (Ok false) f g = absurd (g.none f.some)
deep_one r u (Ok true) (Ok true) f g = refl

-- The promise can be met for every read and update of words.
pub deep_met : (r : List ℕ) (u : Update) → Bits16 r → UpdateBits u → (answer : Result Bool Refusal) × DeepVerdict r u answer
deep_met r (delete p) names others = (deeply_of (deep_delete_check r p) (delete_deep r p), deep_delete_promise r p names others refl)
deep_met r (insert p x) names others =
    (deeply_of (deep_insert_check r p x) (insert_deep r p x), deep_insert_promise r p x names others.0 others.1 refl)
