-- To show a read the same nodes, and to show it the same below these, are equivalences between documents; the second is the finer.
use Prim.Native.Nat.{ℕ, zero, suc, ◌<◌}
use mathlib.Core.Path.{◌≡◌, refl, sym, ◌∙◌}
use mathlib.Core.Bool.{true, false≢true}
use mathlib.Core.List.{List, [], ◌∷◌}
use mathlib.Core.Logic.Iff
use mathlib.Core.Logic.{inr}
use native.Mathlib.Omega.{arith}
use Rattle.tables.specs.Limits.{word_limit}
use Rattle.tables.specs.Words.{axis, label, parent, tag}
use Rattle.tables.specs.Documents.{Doc, doc, present, Sound}
use Rattle.selection.specs.Embeddings.{Child, one, Selects}
use Rattle.selection.specs.Showing.{PresentBelow, SameNodes, SameBelow}
use Rattle.selection.proofs.Presence.{present_used}

module _ {r : List ℕ} where
  -- the same nodes: every document as itself, both ways round, and on from a third
  pub nodes_refl : (d : Doc) → SameNodes r d d
  nodes_refl d = record { nodes = λ v. Iff.rfl }

  pub nodes_sym : {d e : Doc} → SameNodes r d e → SameNodes r e d
  nodes_sym same = record { nodes = λ v. Iff.symm (same.nodes v) }

  pub nodes_trans : {c d e : Doc} → SameNodes r c d → SameNodes r d e → SameNodes r c e
  nodes_trans first next = record { nodes = λ v. Iff.trans (first.nodes v) (next.nodes v) }

  -- the same nodes and the same below them, likewise
  pub below_refl : (d : Doc) → SameBelow r d d
  below_refl d = record { nodes = λ v. Iff.rfl; below = λ v s w. Iff.rfl }

  pub below_sym : {d e : Doc} → SameBelow r d e → SameBelow r e d
  below_sym same = record {
    nodes = λ v. Iff.symm (same.nodes v);
    below = λ v s w. Iff.symm (same.below v ((same.nodes v).1 s) w);
  }

  pub below_trans : {c d e : Doc} → SameBelow r c d → SameBelow r d e → SameBelow r c e
  below_trans first next = record {
    nodes = λ v. Iff.trans (first.nodes v) (next.nodes v);
    below = λ v s w. Iff.trans (first.below v s w) (next.below v ((first.nodes v).0 s) w);
  }

  -- which are the same nodes too
  pub below_nodes : {d e : Doc} → SameBelow r d e → SameNodes r d e
  below_nodes same = record { nodes = same.nodes }

-- the root a and under it b, whose mark is m; and the pattern a
leaf : ℕ → Doc
leaf m = doc (0 ∷ 1 ∷ 0 ∷ 2 ∷ []) (0 ∷ m ∷ []) 2

root : List ℕ
root = 0 ∷ 1 ∷ []

-- what holds of a and of b holds of every used node
below_two : (P : ℕ → Type 0) → P 0 → P 1 → (v : ℕ) → v < 2 → P v
below_two P a b zero h = a
below_two P a b (suc zero) h = b
below_two P a b (suc (suc v)) h = absurd (omega arith)

-- a sound document, whatever the mark is
leaf_sound : (m : ℕ) → Sound (leaf m)
unfolding leaf
leaf_sound m = record {
  room = omega arith;
  root = refl;
  top = refl;
  parents = λ v k h. below_two (λ u. 0 < u → parent t u < u) (λ no. absurd (omega arith)) (λ l. l) v h k;
  named = below_two (λ v. 0 < tag t v) (omega arith) (omega arith);
  labels = below_two (λ v. tag t v < word_limit) (omega arith) (omega arith);
  closed = λ v k here. below_two (λ u. present (leaf m) (parent t u) ≡ true) refl refl v (present_used (leaf m) v here);
}
  where
    t : List ℕ
    t = (leaf m).rows

-- the pattern a selects the root, and it alone, whatever the mark of b is
selects_root : (m : ℕ) → Selects root (leaf m) 0
unfolding leaf root
selects_root m = record {
  place = λ i. 0;
  embeds = record {
    on_present = λ i h. refl;
    root = refl;
    labels = λ i h. inr (at_first i h);
    child = λ i h. absurd (omega arith);
    descendant = λ i h. absurd (omega arith);
  };
  output = refl;
}
  where
    at_first : (i : ℕ) → i < 1 → label root i ≡ 1
    at_first zero h = refl
    at_first (suc i) h = absurd (omega arith)

root-selected : {d : Doc} {v : ℕ} → Selects root d v → v ≡ 0
unfolding root
root-selected s = sym s.output ∙ s.embeds.root

leaf-nodes : (m n : ℕ) → SameNodes root (leaf m) (leaf n)
leaf-nodes m n = record { nodes = λ v. (λ s. rw (root-selected s) (selects_root n), λ s. rw (root-selected s) (selects_root m)) }

-- so two sound documents may show a read the same nodes and not the same below: of these b is removed in one
pub nodes_not_below : (r : List ℕ) × (d : Doc) × (e : Doc) × Sound d × Sound e × SameNodes r d e × (SameBelow r d e → ⊥)
unfolding leaf
nodes_not_below = (root, leaf 0, leaf 1, leaf_sound 0, leaf_sound 1, leaf-nodes 0 1, apart)
  where
    apart : SameBelow root (leaf 0) (leaf 1) → ⊥
    apart same =
        let b : PresentBelow (leaf 0) 0 1 = record { below = one {u = 0} {v = 1} (record { not_root = omega arith; under = refl }); there = refl } in
        false≢true ((same.below 0 (selects_root 0) 1).0 b).there

-- the pattern a/b selects b where it is present
root_child : List ℕ
root_child = 0 ∷ 1 ∷ 1 ∷ 2 ∷ []

selects_child : Selects root_child (leaf 0) 1
unfolding leaf root_child
selects_child = record {
  place = λ i. i;
  embeds = record {
    on_present = below_two (λ i. present (leaf 0) i ≡ true) refl refl;
    root = refl;
    labels = λ i h. inr (below_two (λ k. label root_child k ≡ tag (leaf 0).rows k) refl refl i h);
    child = λ i h e. below_two (λ k. suc k < 2 → Child (leaf 0).rows k (suc k)) (λ l. record { not_root = omega arith; under = refl }) (λ l. absurd (omega arith)) i (omega arith) h;
    descendant = λ i h e. absurd (below_two (λ k. suc k < 2 → axis root_child (suc k) ≡ 2 → ⊥) (λ l f. omega (arith, f)) (λ l f. omega arith) i (omega arith) h e);
  };
  output = refl;
}

-- so two sound documents may show it different nodes
pub nodes_apart : (r : List ℕ) × (d : Doc) × (e : Doc) × Sound d × Sound e × (SameNodes r d e → ⊥)
unfolding leaf root_child
nodes_apart = (root_child, leaf 0, leaf 1, leaf_sound 0, leaf_sound 1, apart)
  where
    gone : Selects root_child (leaf 1) 1 → ⊥
    gone s =
        let here : present (leaf 1) (s.place 1) ≡ true = s.embeds.on_present 1 (omega arith) in
        false≢true (rw s.output at here)

    apart : SameNodes root_child (leaf 0) (leaf 1) → ⊥
    apart same = gone ((same.nodes 1).0 selects_child)
