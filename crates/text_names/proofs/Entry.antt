-- One entry of a list: what makes it right, and what its check says.
use Rattle.std.specs.Prelude.{Err}
use Prim.Native.Nat.{ℕ, zero, suc, ◌≤◌, ◌<◌}
use mathlib.Core.Path.{◌≡◌, refl, sym, ◌∙◌}
use mathlib.Core.Bool.{Bool, true, false}
use mathlib.Core.List.{List, [], ◌++◌}
use native.Mathlib.Omega.{arith}
use lib.Dec.{eqb, ltb}
use lib.ListN.{length, get_or, take, get_or-append}
use lib.Seq.{length-take-le, get_or-take}
use borrow.Author.Tests.{eqb-true, ltb-true, lt-ltb}
use Rattle.selection.proofs.Runs.{both}
use Rattle.tables.specs.Limits.{name_limit}
use Rattle.tables.specs.Checks.{test, refuse, Fine}
use Rattle.tables.specs.Refusals.{numbered}
use Rattle.tables.specs.declared.refusal.Refusal.{Refusal}
use Rattle.tables.proofs.Accepted.{never, held}
use Rattle.text_names.specs.Letters.{name}
use Rattle.text_names.specs.Names.{Names, lines, number_of, entry_right, entry_check}
use Rattle.text_names.proofs.Numbers.{number_none, number_some}

-- entry k is one of the first 256, a name, and none that stood before
pub record Right (ws : List (List ℕ)) (k : ℕ) : Type 0 where
  pub few : k < name_limit
  pub named : name (get_or ws k []) ≡ true
  pub new : (j : ℕ) → j < k → get_or ws j [] ≡ get_or ws k [] → ⊥

-- of names each is right, and entries that are right are names
pub names_right : (ws : List (List ℕ)) → Names ws → (k : ℕ) → k < length ws → Right ws k
names_right ws names k h =
    record { few = omega (arith, h, names.few); named = names.named k h; new = λ j l. names.distinct j k l h }

pub right_names : (ws : List (List ℕ)) → ((k : ℕ) → k < length ws → Right ws k) → Names ws
right_names ws right =
    record { few = few (length ws) refl; named = λ k h. (right k h).named; distinct = λ j k l h. (right k h).new j l }
  where
    few : (n : ℕ) → length ws ≡ n → n ≤ name_limit
    few zero e = omega arith
    few (suc n) e = (right n (omega (arith, e))).few

-- what stands behind it changes nothing
module _ (ws more : List (List ℕ)) (k : ℕ) (h : k < length ws) where
  at_front : (j : ℕ) → j ≤ k → get_or (ws ++ more) j [] ≡ get_or ws j []
  at_front j l = get_or-append ws more [] j (omega (arith, h, l))

  pub right_front : Right (ws ++ more) k → Right ws k
  right_front r =
      record {
        few = r.few;
        named = rw (at_front k (omega arith)) at r.named;
        new = λ j l e. r.new j l (at_front j (omega arith) ∙ e ∙ sym (at_front k (omega arith)));
      }

  pub front_right : Right ws k → Right (ws ++ more) k
  front_right r =
      record {
        few = r.few;
        named = rw (at_front k (omega arith)) r.named;
        new = λ j l e. r.new j l (sym (at_front j (omega arith)) ∙ e ∙ at_front k (omega arith));
      }

-- what the test says
module _ (l : List ℕ) (k : ℕ) where
  pub of_entry : {C : Type 0} → entry_right l k ≡ true → (k < length (lines l) → Right (lines l) k → C) → C
  unfolding entry_right
  of_entry e then-so =
      both (ltb k name_limit) _ e
      (λ a b. both (ltb k (length (lines l))) _ b
      (λ c d. both (name (get_or (lines l) k [])) (eqb (number_of (take k (lines l)) (get_or (lines l) k [])) 0) d
      (λ f g.
      let within = ltb-true k (length (lines l)) c in
      then-so within (record { few = ltb-true k name_limit a; named = f; new = new within (eqb-true (number_of (take k (lines l)) (get_or (lines l) k [])) 0 g) }))))
    where
      new : k < length (lines l) → number_of (take k (lines l)) (get_or (lines l) k []) ≡ 0 → (j : ℕ) → j < k → get_or (lines l) j [] ≡ get_or (lines l) k [] → ⊥
      new within none j less e =
          let some = number_some (take k (lines l)) j (rw (length-take-le k (lines l) (omega arith)) less) in
          let same : get_or (take k (lines l)) j [] ≡ get_or (lines l) k [] = get_or-take k (lines l) j [] less ∙ e in
          let zero : 0 < 0 = rw (same, none) at some in
          omega (arith, zero)

  pub to_entry : k < length (lines l) → Right (lines l) k → entry_right l k ≡ true
  unfolding entry_right
  to_entry h r =
      let none : number_of (take k (lines l)) (get_or (lines l) k []) ≡ 0 =
      number_none (take k (lines l)) (get_or (lines l) k [])
      (λ j less e.
      let m : j < k = rw (length-take-le k (lines l) (omega arith)) at less in
      r.new j m (sym (get_or-take k (lines l) j [] m) ∙ e)) in
      rw (lt-ltb k name_limit r.few, lt-ltb k (length (lines l)) h, r.named, none)

-- a check that is fine says that the entry is right, and a refusal that it is not
pub entry_true : (l : List ℕ) (k : ℕ) → entry_check l k ≡ Fine → entry_right l k ≡ true
unfolding entry_check
entry_true l k e = held (entry_right l k) _ e

pub true_entry : (l : List ℕ) (k : ℕ) → entry_right l k ≡ true → entry_check l k ≡ Fine
unfolding entry_check
true_entry l k e = rw e

pub false_entry : (l : List ℕ) (k : ℕ) → entry_right l k ≡ false → entry_check l k ≡ refuse 14 8 k
unfolding entry_check
false_entry l k e = rw e

pub entry_false : (l : List ℕ) (k : ℕ) (r : Refusal) → entry_check l k ≡ Err r → (entry_right l k ≡ false) × (r ≡ record { reason = numbered 14; table = 8; place = k })
unfolding entry_check
entry_false l k r = go (entry_right l k)
  where
    go : (b : Bool) → test b (refuse 14 8 k) ≡ Err r → (b ≡ false) × (r ≡ record { reason = numbered 14; table = 8; place = k })
    go true e = never e refl
    go false e = (refl, (cc))
