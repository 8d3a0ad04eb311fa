-- A proposed tree: what its answer says, and how it stands to the verdict.
use Rattle.std.specs.Prelude.{Option, Some, None, Result, Ok, Err}
use Rattle.tables.specs.declared.refusal.Refusal.{Refusal}
use Prim.Native.Nat.{ℕ, ◌*◌, ◌<◌, ◌≤◌}
use mathlib.Core.Path.{◌≡◌, refl}
use mathlib.Core.List.{List}
use mathlib.Core.Logic.{◌↔◌}
use native.Mathlib.Omega.{arith}
use lib.ListN.{length, take}
use borrow.Author.Tests.{lt-ltb}
use Rattle.tables.specs.Limits.{tree_limit}
use Rattle.tables.specs.Words.{steps, nodes, Bits16}
use Rattle.tables.specs.Documents.{bare}
use Rattle.tables.specs.Checks.{tree_check, Fine}
use Rattle.tables.proofs.Accepted.{never}
use Rattle.tables.proofs.Soundness.{accepted_some}
use Rattle.conflict.specs.Conflict.{Update, delete, insert, Differs}
use Rattle.check_verdict.specs.Order.{verdict_check, deep_check}
use Rattle.check_verdict.proofs.Accepting.{delete_patterns, delete_two, insert_patterns, insert_tree, verdict_deep}
use Rattle.verdict.specs.Promise.{NodeVerdict}
use Rattle.check_evidence.specs.Order.{evidence_check, delete_evidence_check, insert_evidence_check}
use Rattle.check_evidence.proofs.Accepting.{insert_tree as proposed-tree}
use Rattle.verdict_evidence.specs.Promise.{Lost, Gained, Checks, shown_node}
use Rattle.verdict_evidence.proofs.Promise.{root_kept}
use Rattle.demands.proofs.Witnesses.{witness_fine}

-- node 0 is never named
named_some : (r : List ℕ) (u : Update) (t : List ℕ) (v : ℕ) → Bits16 t → Checks r u t (Ok (Some v)) → 0 < v
named_some r (delete p) t v words s = root_kept r p t s.fine words v s.node
named_some r (insert p x) t v words s =
    omega (arith, s.node.0, accepted_some t tree_limit 5 (proposed-tree r p x t s.fine))

pub evidence_exactly : (r : List ℕ) (u : Update) (t : List ℕ) (answer : Result (Option ℕ) Refusal) → Bits16 t → Checks r u t answer → evidence_check r u t ≡ Fine →
    (0 < shown_node answer) ↔ Differs r u (bare t)
evidence_exactly r u t (Err why) words h fine = never h fine
evidence_exactly r u t (Ok None) words h fine = ((λ l. absurd (omega arith)), (λ d. absurd (h.none d)))
evidence_exactly r u t (Ok (Some v)) words h fine = ((λ l. h.witness.differs), (λ d. named_some r u t v words h))

-- no smaller node is lost or gained
pub first_changed : {r : List ℕ} {u : Update} {t : List ℕ} {v : ℕ} → Checks r u t (Ok (Some v)) → (w : ℕ) → w < v → (Lost r u (bare t) w → ⊥) × (Gained r u (bare t) w → ⊥)
first_changed s w h = ((λ l. l.gone ((s.first w h).0 l.before)), (λ g. g.absent ((s.first w h).1 g.behind)))

-- a pair that is accepted is accepted with every accepted tree
pub evidence_fine : (r : List ℕ) (u : Update) (t : List ℕ) → deep_check r u ≡ Fine → tree_check t tree_limit 5 ≡ Fine → evidence_check r u t ≡ Fine
unfolding delete_evidence_check insert_evidence_check
evidence_fine r (delete p) t deep tree = rw (delete_patterns r p deep, tree, lt-ltb 1 (steps p) (delete_two r p deep))
evidence_fine r (insert p x) t deep tree = rw (insert_patterns r p x deep, insert_tree r p x deep, tree)

-- every witness that the verdict writes is accepted
pub own_accepted : (r : List ℕ) (u : Update) (before after : List ℕ) (n : ℕ) (answer : Result (Option ℕ) Refusal) → NodeVerdict r u before after (Ok (Some n)) →
    Checks r u (take (2 * n) after) answer → (v : ℕ) × (answer ≡ Ok (Some v))
own_accepted r u before after n answer h promised = go answer promised
  where
    tree : List ℕ
    tree = take (2 * n) after

    go : (x : Result (Option ℕ) Refusal) → Checks r u tree x → (v : ℕ) × (x ≡ Ok (Some v))
    go (Err why) e = never e (evidence_fine r u tree (verdict_deep r u (length before) h.fine) (witness_fine r u before after n h))
    go (Ok None) e = absurd (e.none h.witness.differs)
    go (Ok (Some v)) e = (v, refl)

-- where a tree is accepted, the verdict says conflict, and its own witness has no more nodes
pub accepted_conflict : (r : List ℕ) (u : Update) (t : List ℕ) (v : ℕ) (before after : List ℕ) (answer : Result (Option ℕ) Refusal) → Checks r u t (Ok (Some v)) →
    NodeVerdict r u before after answer → verdict_check r u (length before) ≡ Fine → (n : ℕ) × (answer ≡ Ok (Some n)) × (n ≤ nodes t)
accepted_conflict r u t v before after (Err why) s h fine = never h.given fine
accepted_conflict r u t v before after (Ok None) s h fine = absurd (h.none (record { tree = t; shows = s.witness }))
accepted_conflict r u t v before after (Ok (Some n)) s h fine = (n, refl, h.fewest t s.witness)
