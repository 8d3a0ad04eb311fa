-- A sound document has one node for each identity; so what a read is shown by identities is what it is shown by nodes, where nodes keep their identities.
use Prim.Native.Nat.{ℕ, ◌<◌, ◌≤◌}
use mathlib.Core.Path.{◌≡◌, refl, sym, ◌∙◌}
use mathlib.Core.List.{List}
use mathlib.Core.Logic.Iff
use native.Mathlib.Decide.{dec_lt}
use native.Mathlib.Nat.{le_of_eq, suc-pred-eq_of_pos}
use native.Mathlib.Omega.{arith}
use Rattle.tables.specs.Words.{steps}
use Rattle.tables.specs.Patterns.{Pattern}
use Rattle.tables.specs.Documents.{Doc, Sound}
use Rattle.selection.specs.Embeddings.{Below, Below.one, Below.more, Selects}
use Rattle.selection.specs.Ways.{last}
use Rattle.selection.specs.Showing.{SameNodes, SameBelow}
use Rattle.selection.proofs.Presence.{present_used}
use Rattle.identities.specs.Documents.{Document, identity, Identified}
use Rattle.identities.specs.Showing.{SelectsIdentity, IdentityBelow, SameIdentities, SameIdentitiesBelow}

-- two used nodes of one identity are one node
pub identity_one : {d : Document} → Identified d → {v w : ℕ} → v < d.tables.used → w < d.tables.used → identity d v ≡ identity d w → v ≡ w
identity_one {d} right {v} {w} h l e = go (dec_lt v w) (dec_lt w v)
  where
    go : Dec (v < w) → Dec (w < v) → v ≡ w
    go (yes k) other = absurd (omega (arith, right.rising v w k l, e))
    go (no k) (yes m) = absurd (omega (arith, right.rising w v m h, e))
    go (no k) (no m) = omega arith

-- a selected node is used
pub selects_used : {p : List ℕ} {d : Doc} → Pattern p → {v : ℕ} → Selects p d v → v < d.used
selects_used {p} {d} pattern {v} s =
    let b : last p < steps p = le_of_eq (suc-pred-eq_of_pos pattern.some) in
    present_used d v (rw s.output at (s.embeds.on_present (last p) b))

-- a selected node's identity is selected
pub selects_named : {p : List ℕ} {d : Document} {v : ℕ} → Selects p d.tables v → SelectsIdentity p d (identity d v)
selects_named s = record { node = _; selects = s; named = refl }

-- and a selected identity is that of one node
pub node_one : {p : List ℕ} {d : Document} → Pattern p → Identified d → {i : ℕ} (s t : SelectsIdentity p d i) → s.node ≡ t.node
node_one pattern right s t =
    identity_one right (selects_used pattern s.selects) (selects_used pattern t.selects) (s.named ∙ sym t.named)

pub named_selects : {p : List ℕ} {d : Document} → Pattern p → Identified d → {v : ℕ} → v < d.tables.used → SelectsIdentity p d (identity d v) → Selects p d.tables v
named_selects pattern right h s =
    let e = identity_one right (selects_used pattern s.selects) h s.named in
    rw e at s.selects

-- what is above a used node is used
pub below_less : {d : Doc} → Sound d → {u v : ℕ} → v < d.used → Below d.rows u v → u < v
below_less sound {v = v} h (one c) = omega (arith, sound.parents v c.not_root h, c.under)
below_less sound {v = v} h (more {w = w} b c) =
    let falls : w < v = omega (arith, sound.parents v c.not_root h, c.under) in
    omega (arith, below_less sound (omega arith) b)

-- the same identities: every document as itself, both ways round, and on from a third
module _ {r : List ℕ} where
  pub identities_refl : (d : Document) → SameIdentities r d d
  identities_refl d = record { identities = λ i. Iff.rfl }

  pub identities_sym : {d e : Document} → SameIdentities r d e → SameIdentities r e d
  identities_sym same = record { identities = λ i. Iff.symm (same.identities i) }

  pub identities_trans : {c d e : Document} → SameIdentities r c d → SameIdentities r d e → SameIdentities r c e
  identities_trans first next = record { identities = λ i. Iff.trans (first.identities i) (next.identities i) }

  -- the same identities and the same below them, likewise
  pub identities_below_refl : (d : Document) → SameIdentitiesBelow r d d
  identities_below_refl d = record { identities = λ i. Iff.rfl; below = λ i s j. Iff.rfl }

  pub identities_below_sym : {d e : Document} → SameIdentitiesBelow r d e → SameIdentitiesBelow r e d
  identities_below_sym same = record {
    identities = λ i. Iff.symm (same.identities i);
    below = λ i s j. Iff.symm (same.below i ((same.identities i).1 s) j);
  }

  pub identities_below_trans : {c d e : Document} → SameIdentitiesBelow r c d → SameIdentitiesBelow r d e → SameIdentitiesBelow r c e
  identities_below_trans first next = record {
    identities = λ i. Iff.trans (first.identities i) (next.identities i);
    below = λ i s j. Iff.trans (first.below i s j) (next.below i ((first.identities i).0 s) j);
  }

  -- which are the same identities too
  pub below_identities : {d e : Document} → SameIdentitiesBelow r d e → SameIdentities r d e
  below_identities same = record { identities = same.identities }

-- every used node of d is used in e, with its identity
pub record KeptIdentities (d e : Document) : Type 0 where
  pub inside : d.tables.used ≤ e.tables.used
  pub same : (v : ℕ) → v < d.tables.used → identity e v ≡ identity d v

pub identities_kept_all : (d : Document) → KeptIdentities d d
identities_kept_all d = record { inside = omega arith; same = λ v h. refl }

-- where nodes keep their identities, the same nodes are the same identities
module _ {r : List ℕ} (pattern : Pattern r) {d e : Document} (kept : KeptIdentities d e) where
  -- a selected identity is selected there where its node is
  pub named-on : {i : ℕ} (s : SelectsIdentity r d i) → Selects r e.tables s.node → SelectsIdentity r e i
  named-on s there = record { node = s.node; selects = there; named = kept.same s.node (selects_used pattern s.selects) ∙ s.named }

  -- and back
  pub named_back : {i : ℕ} (s : SelectsIdentity r e i) → Selects r d.tables s.node → SelectsIdentity r d i
  named_back s here = record { node = s.node; selects = here; named = sym (kept.same s.node (selects_used pattern here)) ∙ s.named }

  pub nodes_identities : SameNodes r e.tables d.tables → SameIdentities r e d
  nodes_identities same =
      record { identities = λ i. (λ s. named_back s ((same.nodes s.node).0 s.selects), λ s. named-on s ((same.nodes s.node).1 s.selects)) }

  module _ (right : Identified e) where
    -- an identity that is selected here and is the identity of a node there is of one node
    pub node_on_lem : {v : ℕ} → v < e.tables.used → SelectsIdentity r d (identity e v) → Selects r d.tables v
    node_on_lem {v} h s =
        let b = selects_used pattern s.selects in
        let q = identity_one right (omega (arith, kept.inside, b)) h (kept.same s.node b ∙ s.named) in
        rw q at s.selects

    -- the upper node of an identity that is selected is the selected one
    upper_selected : {i : ℕ} → SelectsIdentity r e i → {v : ℕ} → v < e.tables.used → identity e v ≡ i → Selects r e.tables v
    upper_selected s h named =
        let q = identity_one right (selects_used pattern s.selects) h (s.named ∙ sym named) in
        rw q at s.selects

    -- so the same nodes with the same below them are the same identities with the same below them
    module _ (sound : Sound d.tables) (sound' : Sound e.tables) (same : SameBelow r e.tables d.tables) where
      below_before : {i : ℕ} → SelectsIdentity r e i → {j : ℕ} → IdentityBelow e i j → IdentityBelow d i j
      below_before s b =
          let low = present_used e.tables b.lower b.below.there in
          let top = upper_selected s (omega (arith, low, below_less sound' low b.below.below)) b.named_upper in
          let under = (same.below b.upper top b.lower).0 b.below in
          record {
            upper = b.upper;
            lower = b.lower;
            below = under;
            named_upper = sym (kept.same b.upper (selects_used pattern ((same.nodes b.upper).0 top))) ∙ b.named_upper;
            named_lower = sym (kept.same b.lower (present_used d.tables b.lower under.there)) ∙ b.named_lower;
          }

      below_after : {i : ℕ} → SelectsIdentity r e i → {j : ℕ} → IdentityBelow d i j → IdentityBelow e i j
      below_after s b =
          let low = present_used d.tables b.lower b.below.there in
          let less = below_less sound low b.below.below in
          let named = kept.same b.upper (omega (arith, low, less)) ∙ b.named_upper in
          let top = upper_selected s (omega (arith, low, less, kept.inside)) named in
          record {
            upper = b.upper;
            lower = b.lower;
            below = (same.below b.upper top b.lower).1 b.below;
            named_upper = named;
            named_lower = kept.same b.lower low ∙ b.named_lower;
          }

      pub nodes_identities_below : SameIdentitiesBelow r e d
      nodes_identities_below = record {
        identities = (nodes_identities (record { nodes = same.nodes })).identities;
        below = λ i s j. (below_before s, below_after s);
      }
