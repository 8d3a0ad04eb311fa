-- The rows of a tree's elements beside the tree: node k of the rows is node `old k` of the tree, with its label, under its parent, siblings in their order.
use Prim.Native.Nat.{ℕ, suc, ◌+◌, ◌<◌, ◌≤◌}
use mathlib.Core.Path.{◌≡◌, sym, ap, ◌∙◌}
use mathlib.Core.List.{List, [], ◌∷◌, ◌++◌}
use mathlib.Core.Logic.{◌⊎◌, inl, inr, ⊎_elim}
use native.Mathlib.Numerals.{add-one}
use native.Mathlib.Omega.{arith}
use lib.ListN.{length, get_or, length-append}
use lib.Seq.{append_snoc, get_or-append_seam}
use Rattle.tables.specs.Words.{nodes, parent, tag}
use Rattle.selection.proofs.Up.{Falls}
use Rattle.text_xml.specs.Tags.{children}
use Rattle.text_xml_form.specs.Elements.{Elements, none, size}
use Rattle.text_xml_form.proofs.Held.{Node, node_size, element_node, Held, no_row, row, held-parts, held-parent, among}
use Rattle.text_xml_form.proofs.Ranges.{Rises, then, Under, children_rise}
use Rattle.text_xml_form.proofs.Drawn.{Drawn, nothing, drawn, drawn_size}

-- old n and the numbers from there on are these
pub data Along (old : ℕ → ℕ) : ℕ → List ℕ → Type 0 where
  no_number : {n : ℕ} → Along old n []
  number : {n c : ℕ} {os : List ℕ} → old n ≡ c → Along old (suc n) os → Along old n (c ∷ os)

along_first : {old : ℕ → ℕ} (n : ℕ) (a b : List ℕ) → Along old n (a ++ b) → Along old n a
along_first n [] b r = no_number
along_first n (c ∷ a) b (number h r) = number h (along_first (suc n) a b r)

along_behind : {old : ℕ → ℕ} (n : ℕ) (a b : List ℕ) → Along old n (a ++ b) → Along old (n + length a) b
along_behind n [] b r = let e : n + 0 ≡ n = omega arith in rw e r
along_behind n (c ∷ a) b (number h r) = let e : n + suc (length a) ≡ suc n + length a = omega arith in rw e (along_behind (suc n) a b r)

-- the numbers of a list are along it
along_from : (before os : List ℕ) → Along (λ k. get_or (before ++ os) k 0) (length before) os
along_from before [] = no_number
along_from before (c ∷ os) =
    let long : length (before ++ (c ∷ [])) ≡ suc (length before) = length-append before (c ∷ []) ∙ add-one (length before) in
    number (get_or-append_seam before c os 0) (rw (append_snoc before c os, long) at (along_from (before ++ (c ∷ [])) os))

pub along_all : (os : List ℕ) → Along (λ k. get_or os k 0) 0 os
along_all os = along_from [] os

-- u holds e inside node v from n on, as the elements of the nodes cs of t, and old says which each is
pub data Copied (t u : List ℕ) (old : ℕ → ℕ) : ℕ → ℕ → List ℕ → Elements → Type 0 where
  no_copy : {v n : ℕ} → Copied t u old v n [] none
  copy : {v n c : ℕ} {cs : List ℕ} {f more e : Elements} → Node (tag t c) f more e → old n ≡ c → parent u n ≡ v → tag u n ≡ tag t c
      → Copied t u old n (suc n) (children t c) f → Copied t u old v (suc n + size f) cs more → Copied t u old v n (c ∷ cs) e

pub copied : {t u cs os : List ℕ} {e : Elements} {old : ℕ → ℕ} {v n : ℕ} → Drawn t cs e os → Held u v n e → Along old n os → Copied t u old v n cs e
copied nothing h r = no_copy
copied {t} (drawn {c = c} {f = f} {more = more} {below = below} {others = others} d o) h (number {n = n} q r) =
    let node = element_node (tag t c) f more in
    let p = held-parts node h in
    let behind = rw (drawn_size d) at (along_behind (suc n) below others r) in
    copy node q p.under p.named (copied d p.inside (along_first (suc n) below others r)) (copied o p.behind behind)

copied-held : {t u : List ℕ} {old : ℕ → ℕ} {cs : List ℕ} {e : Elements} {v n : ℕ} → Copied t u old v n cs e → Held u v n e
copied-held no_copy = no_row
copied-held (copy node q p l i m) = row node p l (copied-held i) (copied-held m)

-- a parent inside a node and one behind it are two
apart : {v n s j k p q : ℕ} → v < n → n < j → j < s → p ≡ q → (p ≡ n) ⊎ ((suc n ≤ p) × (p < j)) → (q ≡ v) ⊎ ((s ≤ q) × (q < k)) → ⊥
apart a c b e (inl g) (inl h) = omega arith
apart a c b e (inl g) (inr h) = omega arith
apart a c b e (inr g) (inl h) = omega arith
apart a c b e (inr g) (inr h) = omega arith

-- node k of u is a node of t, with its label, under its parent
pub record Matches (t u : List ℕ) (old : ℕ → ℕ) (k : ℕ) : Type 0 where
  pub label : tag u k ≡ tag t (old k)
  pub placed : Under t (old (parent u k)) (old k)

module _ (t u : List ℕ) (old : ℕ → ℕ) (falls : Falls t (nodes t)) where
  -- the children of the node that n is
  kept : (n c : ℕ) → old n ≡ c → c < nodes t → Rises (Under t (old n)) (suc c) (children t c)
  kept n c q h = rw q (children_rise t falls c h)

  pub copied_matches : {v n : ℕ} {cs : List ℕ} {e : Elements} → Copied t u old v n cs e → (s : ℕ) → Rises (Under t (old v)) s cs
      → (k : ℕ) → n ≤ k → k < n + size e → Matches t u old k
  unfolding size
  copied_matches no_copy s r k a b = absurd (omega arith)
  copied_matches (copy {n = n} {c = c} node q p l i m) s (then h is r) k a b =
      among node k n a b
      (λ e. rw e (record { label = rw q l; placed = rw (p, q) is }))
      (copied_matches i (suc c) (kept n c q is.node) k)
      (copied_matches m (suc c) r k)

  -- what stands under v itself is of the numbers of cs
  copied_top : {v n : ℕ} {cs : List ℕ} {e : Elements} → Copied t u old v n cs e → (s : ℕ) → Rises (Under t (old v)) s cs → v < n
      → (k : ℕ) → n ≤ k → k < n + size e → parent u k ≡ v → s ≤ old k
  unfolding size
  copied_top no_copy s r o k a b h = absurd (omega arith)
  copied_top (copy {n = n} {c = c} node q p l i m) s (then x is r) o k a b h =
      among node k n a b
      (λ e. rw (e, q) x)
      (λ y z. ⊎_elim (λ e. omega arith) (λ e. omega arith) (held-parent (copied-held i) k y z))
      (λ y z. omega (arith, copied_top m (suc c) r (omega arith) k y z h))

  pub copied_siblings : {v n : ℕ} {cs : List ℕ} {e : Elements} → Copied t u old v n cs e → (s : ℕ) → Rises (Under t (old v)) s cs → v < n
      → (j k : ℕ) → n ≤ j → j < k → k < n + size e → parent u j ≡ parent u k → old j < old k
  unfolding size
  copied_siblings no_copy s r o j k a x b h = absurd (omega arith)
  copied_siblings (copy {v = v} {n = n} {c = c} node q p l i m) s (then x is r) o j k a y b h =
      among node j n a (omega arith)
      (λ e. let top : parent u k ≡ v = sym h ∙ ap (parent u) e ∙ p in
      among node k n (omega arith) b
      (λ g. omega arith)
      (λ z w. ⊎_elim (λ g. omega arith) (λ g. omega arith) (held-parent (copied-held i) k z w))
      (λ z w. omega (arith, copied_top m (suc c) r (omega arith) k z w top, ap old e)))
      (λ z w. among node k n (omega arith) b
      (λ g. omega arith)
      (λ d g. copied_siblings i (suc c) (kept n c q is.node) (omega arith) j k z y g h)
      (λ d g. absurd (apart o z w h (held-parent (copied-held i) j z w) (held-parent (copied-held m) k d g))))
      (λ z w. copied_siblings m (suc c) r (omega arith) j k z y (omega (arith, node_size node)) h)
