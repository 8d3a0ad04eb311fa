-- A table that holds the rows of elements, from a number on: an element with what stands inside it and behind it, short or not.
use Prim.Native.Nat.{ℕ, suc, ◌+◌, ◌*◌, ◌<◌, ◌≤◌}
use mathlib.Core.Path.{◌≡◌, refl, sym, ◌∙◌}
use mathlib.Core.Bool.{true, ◌&&◌}
use mathlib.Core.List.{List, [], ◌∷◌, ◌++◌, append_assoc, append-nil}
use mathlib.Core.Logic.{◌⊎◌, inl, inr, ⊎_elim}
use native.Mathlib.Decide.{dec_lt, ℕ_discrete}
use native.Mathlib.Omega.{arith}
use lib.ListN.{length, length-append}
use lib.Seq.{append_snoc, get_or_at}
use Rattle.tables.specs.Words.{nodes, parent, tag}
use Rattle.selection.proofs.Runs.{both}
use Rattle.text_xml_form.specs.Elements.{Elements, none, short, pair, label_right, labels_right, abreast, size, rows_in, tree_of, element, shortened}
use Rattle.text_xml_form.proofs.Filling.{length_rows, length_row}

-- e is an element of label l, f inside it, and more behind it
pub data Node : ℕ → Elements → Elements → Elements → Type 0 where
  as_short : {l : ℕ} {more : Elements} → Node l none more (short l more)
  as_pair : {l : ℕ} {f more : Elements} → Node l f more (pair l f more)

pub node_size : {l : ℕ} {f more e : Elements} → Node l f more e → size e ≡ suc (size f + size more)
unfolding size
node_size as_short = omega arith
node_size as_pair = refl

pub node_abreast : {l : ℕ} {f more e : Elements} → Node l f more e → abreast e ≡ suc (abreast more)
unfolding abreast
node_abreast as_short = refl
node_abreast as_pair = refl

pub node_labels : {l : ℕ} {f more e : Elements} → Node l f more e → labels_right e ≡ (label_right l && (labels_right f && labels_right more))
unfolding labels_right
node_labels as_short = refl
node_labels as_pair = refl

pub node_shortened : {l : ℕ} {f more e : Elements} → Node l f more e → shortened e ≡ element l (shortened f) (shortened more)
unfolding shortened
node_shortened as_short = refl
node_shortened as_pair = refl

pub element_node : (l : ℕ) (f more : Elements) → Node l f more (element l f more)
element_node l none more = as_short
element_node l (short k others) more = as_pair
element_node l (pair k g others) more = as_pair

-- t has the rows of e, inside node v, from n on
pub data Held (t : List ℕ) : ℕ → ℕ → Elements → Type 0 where
  no_row : {v n : ℕ} → Held t v n none
  row : {v n l : ℕ} {f more e : Elements} → Node l f more e → parent t n ≡ v → tag t n ≡ l → Held t n (suc n) f → Held t v (suc n + size f) more → Held t v n e

-- what is held of an element
pub record Parts (t : List ℕ) (v n l : ℕ) (f more : Elements) : Type 0 where
  pub under : parent t n ≡ v
  pub named : tag t n ≡ l
  pub inside : Held t n (suc n) f
  pub behind : Held t v (suc n + size f) more

pub held-parts : {t : List ℕ} {v n l : ℕ} {f more e : Elements} → Node l f more e → Held t v n e → Parts t v n l f more
held-parts as_short (row as_short p q i m) = record { under = p; named = q; inside = i; behind = m }
held-parts as_pair (row as_pair p q i m) = record { under = p; named = q; inside = i; behind = m }

-- a row behind those of n nodes
module _ (before : List ℕ) (v l n : ℕ) (rest : List ℕ) (h : length before ≡ 2 * n) where
  row_parent : parent (before ++ (v ∷ l ∷ rest)) n ≡ v
  row_parent = get_or_at before v (l ∷ rest) 0 (2 * n) h

  row_tag : tag (before ++ (v ∷ l ∷ rest)) n ≡ l
  row_tag = rw (← append_snoc before v (l ∷ rest)) (get_or_at (before ++ (v ∷ [])) l rest 0 (2 * n + 1) (rw (length-append before (v ∷ []), h)))

-- a table with the rows of elements in it holds them
rows_held : (e : Elements) (v n : ℕ) (t before after : List ℕ) → length before ≡ 2 * n → t ≡ before ++ (rows_in v n e ++ after) → Held t v n e
unfolding rows_in size
rows_held none v n t before after h e = no_row
rows_held (short l more) v n t before after h e =
    let next = rows_in v (suc n) more ++ after in
    let own : parent t n ≡ v = rw e (row_parent before v l n next h) in
    let named : tag t n ≡ l = rw e (row_tag before v l n next h) in
    let there : suc n + size none ≡ suc n = omega arith in
    let behind : Held t v (suc n + size none) more = rw there
    (rows_held more v (suc n) t (before ++ (v ∷ l ∷ [])) after (length_row before v l n h) (e ∙ sym (append_assoc before (v ∷ l ∷ []) next))) in
    row as_short own named no_row behind
rows_held (pair l f more) v n t before after h e =
    let inner = rows_in n (suc n) f in
    let next = rows_in v (suc n + size f) more ++ after in
    let first = before ++ (v ∷ l ∷ []) in
    let same : t ≡ before ++ (v ∷ l ∷ (inner ++ next)) = e ∙ simp append_assoc in
    let own : parent t n ≡ v = rw same (row_parent before v l n (inner ++ next) h) in
    let named : tag t n ≡ l = rw same (row_tag before v l n (inner ++ next) h) in
    let long : length (first ++ inner) ≡ 2 * (suc n + size f) = rw (length-append first inner) (omega (arith, length_row before v l n h, length_rows n (suc n) f)) in
    row as_pair own named
    (rows_held f n (suc n) t first next (length_row before v l n h) (same ∙ sym (append_assoc before (v ∷ l ∷ []) (inner ++ next))))
    (rows_held more v (suc n + size f) t (first ++ inner) after long (same ∙ sym (simp append_assoc)))

pub tree_held : (e : Elements) → Held (tree_of e) 0 0 e
unfolding tree_of
tree_held e = rows_held e 0 0 (rows_in 0 0 e) [] [] refl (sym (append-nil (rows_in 0 0 e)))

pub tree_nodes : (e : Elements) → nodes (tree_of e) ≡ size e
unfolding tree_of
tree_nodes e = omega (arith, length_rows 0 0 e)

-- a number of an element's rows is its own, or of what stands inside, or of what stands behind
pub among : {C : Type 0} {l : ℕ} {f more e : Elements} → Node l f more e → (k n : ℕ) → n ≤ k → k < n + size e
    → (k ≡ n → C) → (suc n ≤ k → k < suc n + size f → C) → (suc n + size f ≤ k → k < suc n + size f + size more → C) → C
among {C} {f = f} {more = more} {e = e} node k n a b own inner next = go (ℕ_discrete k n) (dec_lt k (suc n + size f))
  where
    go : Dec (k ≡ n) → Dec (k < suc n + size f) → C
    go (yes h) d = own h
    go (no h) (yes d) = inner (omega arith) d
    go (no h) (no d) = next (omega arith) (omega (arith, node_size node))

-- a parent is the node that they stand inside, or one of them
pub held-parent : {t : List ℕ} {v n : ℕ} {e : Elements} → Held t v n e → (k : ℕ) → n ≤ k → k < n + size e
    → (parent t k ≡ v) ⊎ ((n ≤ parent t k) × (parent t k < k))
unfolding size
held-parent no_row k a b = absurd (omega arith)
held-parent (row {n = n} node p q i m) k a b =
    among node k n a b
    (λ h. inl (rw h p))
    (λ c d. inr (⊎_elim (λ h. omega arith) (λ h. omega arith) (held-parent i k c d)))
    (λ c d. ⊎_elim inl (λ h. inr (omega arith)) (held-parent m k c d))

-- labels are right where those of the elements are
pub held-label : {t : List ℕ} {v n : ℕ} {e : Elements} → Held t v n e → labels_right e ≡ true → (k : ℕ) → n ≤ k → k < n + size e → label_right (tag t k) ≡ true
unfolding size
held-label no_row r k a b = absurd (omega arith)
held-label {t} (row {n = n} {l = l} {f = f} {more = more} node p q i m) r k a b =
    both (label_right l) (labels_right f && labels_right more) (rw (node_labels node) at r)
    (λ x y. both (labels_right f) (labels_right more) y
    (λ z w. among node k n a b (λ h. rw (h, q) x) (held-label i z k) (held-label m w k)))
