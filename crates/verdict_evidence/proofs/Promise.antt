-- From the checks and the node that is computed to what checking a proposed tree promises; the promise fixes the answer, and can be met for every input.
use Rattle.std.specs.Prelude.{Option, Some, None, Result, Ok, Err}
use Rattle.tables.specs.declared.refusal.Refusal.{Refusal}
use Rattle.tables.specs.Checks.{Checked, Fine}
use Prim.Native.Nat.{ℕ, zero, suc, ◌<◌, ◌≤◌}
use mathlib.Core.Path.{◌≡◌, refl, sym, ◌∙◌, ap}
use mathlib.Core.Bool.{false≢true}
use mathlib.Core.List.{List}
use mathlib.Core.Logic.{◌↔◌}
use native.Mathlib.Decide.{dec_lt}
use native.Mathlib.Nat.{le_antisymm}
use native.Mathlib.Omega.{arith}
use borrow.Author.Tests.{ne_eqb, lt-ltb, le-ltb}
use Rattle.tables.specs.Limits.{tree_limit}
use Rattle.tables.specs.Words.{steps, nodes, Bits16}
use Rattle.tables.specs.Patterns.{Pattern}
use Rattle.tables.specs.Documents.{bare, Sound}
use Rattle.tables.proofs.Accepted.{never}
use Rattle.tables.proofs.Soundness.{accepted_tree, accepted_some}
use Rattle.selection.specs.Embeddings.{Selects}
use Rattle.selection.specs.Operations.{inserted}
use Rattle.selection.proofs.Selecting.{selecting}
use Rattle.selection.proofs.Inserting.{selected_used}
use Rattle.conflict.specs.Conflict.{Update, UpdateBits, delete, insert, after, lost, gained}
use Rattle.check_verdict.proofs.Accepting.{patterns_read}
use Rattle.check_evidence.specs.Order.{delete_evidence_check, insert_evidence_check}
use Rattle.check_evidence.proofs.Accepting.{delete_patterns, delete_tree, delete_two, insert_patterns, insert_inserted, insert_tree}
use Rattle.verdict_evidence.specs.Promise.{Lost, Gained, Named, Checks}
use Rattle.outcomes.specs.Numbers.{found_of}
use Rattle.verdict_evidence.specs.Finding.{first_of, losing, within, lost_node, opening, new_node, new_from, gained_node}
use Rattle.verdict_evidence.proofs.Firsts.{First, first_of_lem}
use Rattle.verdict_evidence.proofs.Losing.{none_losing, losing-root, losing-lost, losing_alike, none_gained, losing_none}
use Rattle.verdict_evidence.proofs.Gaining.{Entered, opening-entered, entered_from, kept_alike, none_lost, gained_behind, entered, entered_gained, opening_none}

-- a delete of accepted tables
module _ (r p t : List ℕ) (e : delete_evidence_check r p t ≡ Fine) (words : Bits16 t) where
  delete_read : Pattern r
  delete_read = patterns_read r p (delete_patterns r p t e)

  delete_sound : Sound (bare t)
  delete_sound = accepted_tree t tree_limit 5 (delete_tree r p t e) words

  two : 1 < steps p
  two = delete_two r p t e

  pub delete_none_gained : (v : ℕ) → Gained r (delete p) (bare t) v → ⊥
  delete_none_gained = none_gained r p t two delete_read delete_sound

  -- the root is never lost
  pub root_kept : (v : ℕ) → Lost r (delete p) (bare t) v → 0 < v
  root_kept zero gone = absurd (gone.gone ((losing_alike r p t two delete_read delete_sound 0 (losing-root r p t two)).0 gone.before))
  root_kept (suc v) gone = omega arith

  -- a first node that is lost
  delete_some : (v : ℕ) → First (losing r p t) (nodes t) v → v < nodes t → Checks r (delete p) t (Ok (found_of (within (nodes t) v)))
  unfolding found_of within
  delete_some v first h = rw (lt-ltb v (nodes t) h, ne_eqb v 0 some) (record {
    fine = e;
    witness = record { sound = delete_sound; differs = lost v gone.before gone.gone };
    node = gone;
    first = λ w l. losing_alike r p t two delete_read delete_sound w (first.before w l);
  })
    where
      some : v ≡ 0 → ⊥
      some z = false≢true (sym (losing-root r p t two) ∙ (rw z at (first.here h)))

      gone : Lost r (delete p) (bare t) v
      gone = losing-lost r p t two delete_read delete_sound v (first.here h)

  delete_none : (v : ℕ) → First (losing r p t) (nodes t) v → nodes t ≤ v → Checks r (delete p) t (Ok (found_of (within (nodes t) v)))
  unfolding found_of within
  delete_none v first h = rw (le-ltb v (nodes t) h) (record {
    fine = e;
    none = losing_none r p t two delete_read delete_sound (none_losing r p t (λ w l. first.before w (omega (arith, l, h))));
  })

  pub delete_shown : Checks r (delete p) t (Ok (found_of (lost_node r p t)))
  unfolding lost_node
  delete_shown = go (first_of (losing r p t) (nodes t)) (first_of_lem (losing r p t) (nodes t))
    where
      go : (v : ℕ) → First (losing r p t) (nodes t) v → Checks r (delete p) t (Ok (found_of (within (nodes t) v)))
      go v first = at (dec_lt v (nodes t))
        where
          at : Dec (v < nodes t) → Checks r (delete p) t (Ok (found_of (within (nodes t) v)))
          at (yes h) = delete_some v first h
          at (no h) = delete_none v first (omega (arith, h))

-- an insert of accepted tables
module _ (r p x t : List ℕ) (e : insert_evidence_check r p x t ≡ Fine) (tags : Bits16 x) (words : Bits16 t) where
  insert_read : Pattern r
  insert_read = patterns_read r p (insert_patterns r p x t e)

  insert_below : Sound (bare x)
  insert_below = accepted_tree x tree_limit 3 (insert_inserted r p x t e) tags

  insert_sound : Sound (bare t)
  insert_sound = accepted_tree t tree_limit 5 (insert_tree r p x t e) words

  pub insert_none_lost : (v : ℕ) → Lost r (insert p x) (bare t) v → ⊥
  insert_none_lost = none_lost r p x t insert_read insert_below insert_sound

  -- what is gained is a new node
  pub gained_new : (v : ℕ) → Gained r (insert p x) (bare t) v → nodes t ≤ v
  gained_new = gained_behind r p x t insert_read insert_below insert_sound

  -- a first point with a new node that is selected
  insert_some : (q : ℕ) → First (opening r p x t) (nodes t) q → q < nodes t → Checks r (insert p x) t (Ok (found_of (new_from r p x t q)))
  unfolding found_of new_from
  insert_some q first h = rw (lt-ltb q (nodes t) h, ne_eqb v 0 some) (record {
    fine = e;
    witness = record { sound = insert_sound; differs = gained v new.absent new.behind };
    node = (gained_new v new, new);
    first = λ w l. at w l (dec_lt w (nodes t));
  })
    where
      v : ℕ
      v = new_node r p x t q

      new : Gained r (insert p x) (bare t) v
      new = entered_gained r p x t insert_read insert_below insert_sound (opening-entered r p x t q (first.here h))

      some : v ≡ 0 → ⊥
      some z = omega (arith, z, gained_new v new, accepted_some t tree_limit 5 (insert_tree r p x t e))

      at : (w : ℕ) → w < v → Dec (w < nodes t) → Selects r (bare t) w ↔ Selects r (inserted p x (bare t)) w
      at w l (yes k) = kept_alike r p x t insert_read insert_below insert_sound w k
      at w l (no k) = (
        λ s. absurd (omega (arith, k, selected_used r (bare t) w ((selecting insert_read insert_sound w).1 s))),
        λ s.
            let there : Entered r p x t w = entered r p x t insert_read insert_below insert_sound w (omega (arith, k)) s in
            absurd (omega (arith, l, entered_from r p x t q (first.here h) first.before there)),
      )

  insert_none : (q : ℕ) → First (opening r p x t) (nodes t) q → nodes t ≤ q → Checks r (insert p x) t (Ok (found_of (new_from r p x t q)))
  unfolding found_of new_from
  insert_none q first h = rw (le-ltb q (nodes t) h) (record {
    fine = e;
    none = opening_none r p x t insert_read insert_below insert_sound (λ w l. first.before w (omega (arith, l, h)));
  })

  pub insert_shown : Checks r (insert p x) t (Ok (found_of (gained_node r p x t)))
  unfolding gained_node
  insert_shown = go (first_of (opening r p x t) (nodes t)) (first_of_lem (opening r p x t) (nodes t))
    where
      go : (q : ℕ) → First (opening r p x t) (nodes t) q → Checks r (insert p x) t (Ok (found_of (new_from r p x t q)))
      go q first = at (dec_lt q (nodes t))
        where
          at : Dec (q < nodes t) → Checks r (insert p x) t (Ok (found_of (new_from r p x t q)))
          at (yes h) = insert_some q first h
          at (no h) = insert_none q first (omega (arith, h))

-- at the node that is named the read does not select alike before and after
named_apart : (r : List ℕ) (u : Update) (t : List ℕ) (v : ℕ) → Named r u t v → Selects r (bare t) v ↔ Selects r (after u (bare t)) v → ⊥
named_apart r (delete p) t v node same = node.gone (same.0 node.before)
named_apart r (insert p x) t v node same = node.1.absent (same.1 node.1.behind)

-- two answers that meet the promise are the same
module _ (r : List ℕ) (u : Update) (t : List ℕ) where
  no_later : (v w : ℕ) → Checks r u t (Ok (Some v)) → Checks r u t (Ok (Some w)) → w ≤ v
  no_later v w f g = go (dec_lt v w)
    where
      go : Dec (v < w) → w ≤ v
      go (yes h) = absurd (named_apart r u t v f.node (g.first v h))
      go (no h) = omega (arith, h)

  pub evidence_one : (x y : Result (Option ℕ) Refusal) → Checks r u t x → Checks r u t y → x ≡ y
  evidence_one (Err why) (Err other) f g = cc
  evidence_one (Err why) (Ok None) f g = never f g.fine
  evidence_one (Err why) (Ok (Some w)) f g = never f g.fine
  evidence_one (Ok None) (Err why) f g = never g f.fine
  evidence_one (Ok None) (Ok None) f g = refl
  evidence_one (Ok None) (Ok (Some w)) f g = absurd (f.none g.witness.differs)
  evidence_one (Ok (Some v)) (Err why) f g = never g f.fine
  evidence_one (Ok (Some v)) (Ok None) f g = absurd (g.none f.witness.differs)
  evidence_one (Ok (Some v)) (Ok (Some w)) f g = ap (λ n. Ok (Some n)) (le_antisymm (no_later w v g f) (no_later v w f g))

-- the promise can be met: for every read, update and tree of words there is an answer that does
pub evidence_met : (r : List ℕ) (u : Update) (t : List ℕ) → UpdateBits u → Bits16 t → (answer : Result (Option ℕ) Refusal) × Checks r u t answer
evidence_met r (delete p) t others words = go (delete_evidence_check r p t) refl
  where
    go : (c : Checked) → delete_evidence_check r p t ≡ c → (answer : Result (Option ℕ) Refusal) × Checks r (delete p) t answer
    go (Ok tt) e = (Ok (found_of (lost_node r p t)), delete_shown r p t e words)
    go (Err why) e = (Err why, e)
evidence_met r (insert p x) t others words = go (insert_evidence_check r p x t) refl
  where
    go : (c : Checked) → insert_evidence_check r p x t ≡ c → (answer : Result (Option ℕ) Refusal) × Checks r (insert p x) t answer
    go (Ok tt) e = (Ok (found_of (gained_node r p x t)), insert_shown r p x t e others.1 words)
    go (Err why) e = (Err why, e)
