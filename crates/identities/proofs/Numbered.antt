-- Tables whose nodes have their numbers as identities: then identities show what nodes show. So to show the same identities is not to show the same below them.
use Prim.Native.Nat.{ℕ, ◌+◌, ◌<◌, ◌≤◌}
use mathlib.Core.Path.{◌≡◌, sym, ◌∙◌}
use mathlib.Core.List.{List}
use native.Mathlib.Omega.{arith}
use Rattle.tables.specs.Documents.{Doc, Sound}
use Rattle.selection.specs.Lists.{tab}
use Rattle.selection.specs.Embeddings.{Selects}
use Rattle.selection.specs.Showing.{PresentBelow, SameNodes, SameBelow}
use Rattle.selection.proofs.Lists.{length-tab, get_or-tab}
use Rattle.selection.proofs.Presence.{present_used}
use Rattle.selection.proofs.Showing.{nodes_not_below}
use Rattle.identities.specs.Documents.{Document, identity, SoundDocument}
use Rattle.identities.specs.Showing.{SelectsIdentity, IdentityBelow, SameIdentities, SameIdentitiesBelow}
use Rattle.identities.proofs.Showing.{below_less}

-- the tables d with the identities 0, 1, 2, .., n of them
unfoldable pub numbered_to : ℕ → Doc → Document
numbered_to n d = record { tables = d; ids = tab (λ v. v) n; next = n }

number-identity : (n : ℕ) (d : Doc) (v : ℕ) → v < n → identity (numbered_to n d) v ≡ v
unfolding numbered_to
number-identity n d v h = get_or-tab (λ k. k) n v h

module _ (n : ℕ) (d : Doc) (room : d.used ≤ n) where
  pub numbered_to_sound : Sound d → SoundDocument (numbered_to n d)
  unfolding numbered_to
  numbered_to_sound sound = record {
    tables = sound;
    identities = record {
      row = rw (length-tab (λ v. v) n) room;
      rising = λ v w h l. rw (number-identity n d v (omega arith), number-identity n d w (omega arith)) h;
      below = λ v h. rw (number-identity n d v (omega arith)) (omega arith);
    };
  }

-- what is present below, by identities and by numbers
module _ (n : ℕ) (d : Doc) (room : d.used ≤ n) (sound : Sound d) {v w : ℕ} where
  lower_used : PresentBelow d v w → w < n
  lower_used b = omega (arith, present_used d w b.there)

  upper_used : PresentBelow d v w → v < n
  upper_used b = omega (arith, lower_used b, below_less sound (present_used d w b.there) b.below)

  below_number : PresentBelow d v w → IdentityBelow (numbered_to n d) v w
  unfolding numbered_to
  below_number b = record {
    upper = v;
    lower = w;
    below = b;
    named_upper = number-identity n d v (upper_used b);
    named_lower = number-identity n d w (lower_used b);
  }

number_below : (n : ℕ) (d : Doc) → d.used ≤ n → Sound d → {v w : ℕ} → IdentityBelow (numbered_to n d) v w → PresentBelow d v w
unfolding numbered_to
number_below n d room sound {v} {w} b =
    let u : v ≡ b.upper = sym b.named_upper ∙ number-identity n d b.upper (upper_used n d room sound b.below) in
    let l : w ≡ b.lower = sym b.named_lower ∙ number-identity n d b.lower (lower_used n d room sound b.below) in
    rw (u, l) b.below

-- two tables with the same such identities show the same by them as by nodes
pub numbered_same : (n : ℕ) {r : List ℕ} {d e : Doc} → SameNodes r d e → SameIdentities r (numbered_to n d) (numbered_to n e)
unfolding numbered_to
numbered_same n same = record {
  identities = λ i. (
    (λ s. record { node = s.node; selects = (same.nodes s.node).0 s.selects; named = s.named }),
    (λ s. record { node = s.node; selects = (same.nodes s.node).1 s.selects; named = s.named }),
  );
}

module _ (n : ℕ) {r : List ℕ} {d e : Doc} (room : d.used ≤ n) (room' : e.used ≤ n) (sound : Sound d) (sound' : Sound e) where
  pub numbered_below : SameNodes r d e → SameIdentitiesBelow r (numbered_to n d) (numbered_to n e) → SameBelow r d e
  unfolding numbered_to
  numbered_below nodes same = record {
    nodes = nodes.nodes;
    below = λ v s w. (
      (λ b. number_below n e room' sound' ((same.below v (selected v s (upper_used n d room sound b)) w).0 (below_number n d room sound b))),
      (λ b. number_below n d room sound ((same.below v (selected v s (upper_used n e room' sound' b)) w).1 (below_number n e room' sound' b))),
    );
  }
    where
      selected : (v : ℕ) → Selects r d v → v < n → SelectsIdentity r (numbered_to n d) v
      selected v s h = record { node = v; selects = s; named = number-identity n d v h }

-- two sound documents may show a read the same identities and not the same below
pub identities_not_below : (r : List ℕ) × (d : Document) × (e : Document) × SoundDocument d × SoundDocument e × SameIdentities r d e × (SameIdentitiesBelow r d e → ⊥)
identities_not_below =
    let found = nodes_not_below in
    let d = found.1 in
    let e = found.2 in
    let n = d.used + e.used in
    let room : d.used ≤ n = omega arith in
    let room' : e.used ≤ n = omega arith in (
      found.0,
      numbered_to n d,
      numbered_to n e,
      numbered_to_sound n d room found.3,
      numbered_to_sound n e room' found.4,
      numbered_same n found.5,
      (λ same. found.6 (numbered_below n room room' found.3 found.4 found.5 same)),
    )
