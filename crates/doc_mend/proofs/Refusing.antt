-- Mending is never refused for marks: 12 is for the used count or for identities.
use Rattle.std.specs.Prelude.{Err}
use Prim.Native.Nat.{ℕ, ◌*◌}
use mathlib.Core.Path.{◌≡◌, ap}
use mathlib.Core.List.{List}
use mathlib.Core.Logic.{◌⊎◌, inl, inr, ◌≢◌}
use native.Mathlib.Omega.{arith}
use lib.Dec.{ltb, leb}
use Rattle.tables.specs.Refusals.{number}
use Rattle.tables.specs.Words.{tag}
use Rattle.tables.specs.Checks.{◌then◌, refuse, test, each, parent_right, node_check, used_check, shape_check, output_check}
use Rattle.tables.specs.declared.refusal.Refusal.{Refusal}
use Rattle.tables.proofs.First.{First, each_first}
use Rattle.tables.proofs.Refused.{test_why, then_why}
use Rattle.identities.specs.Documents.{Document}
use Rattle.identities.specs.Checks.{identities_check}
use Rattle.mending.specs.Mending.{changes}
use Rattle.doc_mend.specs.Promise.{mend_check}

-- nodes are refused by 4 or 5
node_other : (t : List ℕ) (n : ℕ) {r : Refusal} → each (node_check t 5) 0 n ≡ Err r → number r.reason ≢ 12
unfolding node_check
node_other t n {r} e is = at_node (each_first (node_check t 5) r 0 n e)
  where
    at_node : First (node_check t 5) 0 n r → ⊥
    at_node first =
        let v = first.at in
        then_why (test (parent_right t v) (refuse 4 5 v)) (test (ltb 0 (tag t v)) (refuse 5 5 v))
        (λ f. omega (arith, is, ap (λ (x : Refusal). number x.reason) (test_why (parent_right t v) _ f).1))
        (λ right f. omega (arith, is, ap (λ (x : Refusal). number x.reason) (test_why (ltb 0 (tag t v)) _ f).1))
        first.here

-- an output by 7
output_other : (wanted have : ℕ) {r : Refusal} → output_check wanted have ≡ Err r → number r.reason ≢ 12
unfolding output_check
output_other wanted have e is = omega (arith, is, ap (λ (x : Refusal). number x.reason) (test_why (leb wanted have) _ e).1)

pub never_marks : (d : Document) (words : ℕ) {why : Refusal} → mend_check d words ≡ Err why → number why.reason ≡ 12 →
    (used_check d.tables ≡ Err why) ⊎ (identities_check d.ids d.tables.used d.next ≡ Err why)
unfolding mend_check shape_check
never_marks d words e is =
    then_why (shape_check d.tables) (identities_check d.ids d.tables.used d.next then output_check (3 * changes d.tables) words)
    (λ shape.
    then_why (used_check d.tables) (each (node_check d.tables.rows 5) 0 d.tables.used)
    inl
    (λ used nodes. absurd (node_other d.tables.rows d.tables.used nodes is))
    shape)
    (λ shape rest.
    then_why (identities_check d.ids d.tables.used d.next) (output_check (3 * changes d.tables) words)
    inr
    (λ right room. absurd (output_other (3 * changes d.tables) words room is))
    rest)
    e
