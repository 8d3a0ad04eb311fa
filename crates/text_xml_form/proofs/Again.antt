-- A read tree written again: the same tags, with empty pairs shortened; its nodes are numbered in the order of their start tags.
use Prim.Native.Nat.{ℕ, suc, ◌+◌, ◌<◌, ◌≤◌}
use mathlib.Core.Path.{◌≡◌, refl, sym, ap, ◌∙◌}
use mathlib.Core.Bool.{Bool, true}
use mathlib.Core.List.{List, [], ◌∷◌, ◌++◌}
use mathlib.Core.Logic.{◌⊎◌, inl, inr, ⊎_elim}
use native.Mathlib.Decide.{dec_lt}
use native.Mathlib.Nat.{le_trans}
use native.Mathlib.Omega.{arith}
use lib.ListN.{length, length-append}
use Rattle.tables.specs.Words.{nodes, parent}
use Rattle.selection.proofs.Up.{Falls}
use Rattle.text_xml.specs.Tags.{short_tag, start_tag, end_tag, child_of, children, tree_text}
use Rattle.text_xml.proofs.Tags.{length_short, length_start, length_end, child_child}
use Rattle.text_xml_form.specs.Elements.{Elements, none, short, pair, written, abreast, size, rows_in, tree_of, element, shortened}
use Rattle.text_xml_form.specs.Numbering.{InOrder}
use Rattle.text_xml_form.proofs.Passing.{root-behind}
use Rattle.text_xml_form.proofs.Held.{Node, as_short, as_pair, node_size, node_abreast, node_shortened, element_node, Held, no_row, row, held-parent, tree_held, tree_nodes}
use Rattle.text_xml_form.proofs.Trees.{tree_falls, tree_some}
use Rattle.text_xml_form.proofs.Ranges.{holding, holding-append, holding_none, counted, counted_at, children_among, not_before}
use Rattle.text_xml_form.proofs.Drawn.{Drawn, nothing, drawn, tree_written, tree_starts}

-- no node of t behind m has a parent from n up to m
abbrev Apart : List ℕ → ℕ → ℕ → Type 0
Apart t n m = (k : ℕ) → m ≤ k → k < nodes t → n ≤ parent t k → m ≤ parent t k

-- a range begins with one of it
holding_first : (f : ℕ → Bool) (n a b : ℕ) → f n ≡ true → holding f n (suc (a + b)) ≡ n ∷ (holding f (suc n) a ++ holding f (suc n + a) b)
unfolding holding
holding_first f n a b e = rw (e, holding-append f (suc n) a b)

module _ (t : List ℕ) (falls : Falls t (nodes t)) where
  -- the children of a node are among the rows of the elements inside it
  own-children : (n : ℕ) (f : Elements) → suc n + size f ≤ nodes t → Apart t n (suc n + size f) → children t n ≡ holding (child_of t n) (suc n) (size f)
  own-children n f inside apart =
      children_among t n (suc n) (size f) inside (not_before t falls n (omega arith)) (λ c a b is. omega (arith, apart c a b (omega (arith, is.under)), is.under))

  -- nothing inside a node has a parent before it
  hidden : (v : ℕ) {n : ℕ} {f : Elements} → Held t n (suc n) f → v < n → holding (child_of t v) (suc n) (size f) ≡ []
  hidden v {n} {f} held h = holding_none (child_of t v) (suc n) (size f) (λ c a b e. go c ((child_child t v c).0 e).under (held-parent held c a b))
    where
      go : (c : ℕ) → parent t c ≡ v → (parent t c ≡ n) ⊎ ((suc n ≤ parent t c) × (parent t c < c)) → ⊥
      go c e (inl u) = omega arith
      go c e (inr u) = omega arith

  -- the nodes of elements that are held are those elements, with empty pairs shortened, and are numbered in their order
  held_drawn : {v n : ℕ} {e : Elements} → Held t v n e → v < n → n + size e ≤ nodes t → Apart t n (n + size e)
      → Drawn t (holding (child_of t v) n (size e)) (shortened e) (counted n (size e))
  unfolding holding counted shortened size
  held_drawn no_row h inside apart = nothing
  held_drawn {e = e} (row {v = v} {n = n} {f = f} {more = more} node p q i m) h inside apart =
      let long = node_size node in
      let own : Apart t n (suc n + size f) = λ k a b c. go k a b c (dec_lt k (n + size e)) in
      let d = held_drawn i (omega arith) (omega arith) (λ k a b c. own k a b (omega arith)) in
      let o = held_drawn m (omega arith) (omega arith) (λ k a b c. omega (arith, apart k (omega arith) b (omega arith))) in
      let inner : Drawn t (children t n) (shortened f) (counted (suc n) (size f)) = rw (own-children n f (omega arith) own) d in
      let is = (child_child t v n).1 (record { not_root = omega arith; under = p }) in
      rw (long, node_shortened node, holding_first (child_of t v) n (size f) (size more) is, hidden v i h, holding_first (λ k. true) n (size f) (size more) refl, ← q)
      (drawn inner o)
    where
      go : (k : ℕ) → suc n + size f ≤ k → k < nodes t → n ≤ parent t k → Dec (k < n + size e) → suc n + size f ≤ parent t k
      go k a b c (yes l) = ⊎_elim (λ u. omega arith) (λ u. u.0) (held-parent m k a (omega (arith, node_size node)))
      go k a b c (no l) = omega (arith, node_size node, apart k (omega arith) b c)

-- the same of the root
root_drawn : (t : List ℕ) → Falls t (nodes t) → {e : Elements} → Held t 0 0 e → nodes t ≡ size e → abreast e ≡ 1
    → Drawn t (0 ∷ []) (shortened e) (counted 0 (size e))
unfolding abreast size shortened counted holding
root_drawn t falls no_row all one = absurd (omega arith)
root_drawn t falls (row {f = f} {more = more} node p q i m) all one =
    let last : more ≡ none = root-behind more (sym (node_abreast node) ∙ one) in
    let long : nodes t ≡ suc (size f) = all ∙ node_size node ∙ rw last (omega arith) in
    let inner : Drawn t (children t 0) (shortened f) (counted 1 (size f))
    = rw (own-children t falls 0 f (omega arith) (λ k a b c. omega arith)) (held_drawn t falls i (omega arith) (omega arith) (λ k a b c. omega arith)) in
    rw (node_size node, node_shortened node, last, holding_first (λ k. true) 0 (size f) 0 refl, ← q) (drawn inner nothing)

module _ (e : Elements) (one : abreast e ≡ 1) where
  tree_drawn : Drawn (tree_of e) (0 ∷ []) (shortened e) (counted 0 (size e))
  tree_drawn = root_drawn (tree_of e) (tree_falls e) (tree_held e) (tree_nodes e) one

  pub again : tree_text (tree_of e) ≡ written (shortened e)
  again = tree_written (tree_of e) (tree_falls e) (tree_some e one) tree_drawn

  pub read_in_order : InOrder (tree_of e)
  read_in_order k h =
      rw (tree_starts (tree_of e) (tree_falls e) (tree_some e one) tree_drawn)
      (counted_at 0 (size e) k (rw (tree_nodes e) at h) ∙ omega arith)

-- no pair is empty
pub data Full : Elements → Type 0 where
  no_element : Full none
  short_full : {l : ℕ} {more : Elements} → Full more → Full (short l more)
  pair_full : {l : ℕ} {f more : Elements} → Full f → 0 < abreast f → Full more → Full (pair l f more)

element_full : (l : ℕ) {f more : Elements} → Full f → Full more → Full (element l f more)
unfolding abreast
element_full l no_element o = short_full o
element_full l (short_full {l = k} d) o = pair_full (short_full {l = k} d) (omega arith) o
element_full l (pair_full {l = k} d h i) o = pair_full (pair_full {l = k} d h i) (omega arith) o

element-same : (l : ℕ) (f more : Elements) → 0 < abreast f → element l f more ≡ pair l f more
unfolding abreast
element-same l none more h = absurd (omega arith)
element-same l (short k others) more h = refl
element-same l (pair k g others) more h = refl

-- with empty pairs shortened no pair is empty, and where none is empty nothing is shortened
pub shortened_full : (e : Elements) → Full (shortened e)
unfolding shortened
shortened_full none = no_element
shortened_full (short l more) = short_full (shortened_full more)
shortened_full (pair l f more) = element_full l (shortened_full f) (shortened_full more)

pub shortened_same : {e : Elements} → Full e → shortened e ≡ e
unfolding shortened
shortened_same no_element = refl
shortened_same (short_full {l = l} o) = ap (short l) (shortened_same o)
shortened_same (pair_full {l = l} {f = f} {more = more} d h o) = rw (shortened_same d, shortened_same o) (element-same l f more h)

-- the rows of an element
node_rows : {l : ℕ} {f more e : Elements} → Node l f more e → (v n : ℕ) → rows_in v n e ≡ v ∷ l ∷ (rows_in n (suc n) f ++ rows_in v (suc n + size f) more)
unfolding rows_in size
node_rows as_short v n = let e : suc n + 0 ≡ suc n = omega arith in rw e
node_rows as_pair v n = refl

-- shortened elements have the same rows
shortened-size : (e : Elements) → size (shortened e) ≡ size e
unfolding size shortened
shortened-size none = refl
shortened-size (short l more) = ap suc (shortened-size more)
shortened-size (pair l f more) = rw (node_size (element_node l (shortened f) (shortened more)), shortened-size f, shortened-size more)

shortened_rows : (e : Elements) (v n : ℕ) → rows_in v n (shortened e) ≡ rows_in v n e
unfolding rows_in shortened
shortened_rows none v n = refl
shortened_rows (short l more) v n = ap (λ r. v ∷ l ∷ r) (shortened_rows more v (suc n))
shortened_rows (pair l f more) v n =
    rw (node_rows (element_node l (shortened f) (shortened more)) v n, shortened-size f, shortened_rows f n (suc n), shortened_rows more v (suc n + size f))

pub shortened_tree : (e : Elements) → tree_of (shortened e) ≡ tree_of e
unfolding tree_of
shortened_tree e = shortened_rows e 0 0

-- and takes no more bytes
element_long : (l : ℕ) (f more : Elements) → length (written (element l f more)) ≤ length (written (pair l f more))
unfolding written
element_long l none more =
    rw (length-append (short_tag l) (written more), length-append (start_tag l) (end_tag l ++ written more), length-append (end_tag l) (written more))
    (omega (arith, length_short l, length_start l, length_end l))
element_long l (short k others) more = omega arith
element_long l (pair k f others) more = omega arith

pub shortened_long : (e : Elements) → length (written (shortened e)) ≤ length (written e)
unfolding shortened written
shortened_long none = omega arith
shortened_long (short l more) =
    rw (length-append (short_tag l) (written (shortened more)), length-append (short_tag l) (written more)) (omega (arith, shortened_long more))
shortened_long (pair l f more) =
    le_trans (element_long l (shortened f) (shortened more))
    (rw (
      length-append (start_tag l) (written (shortened f) ++ (end_tag l ++ written (shortened more))),
      length-append (written (shortened f)) (end_tag l ++ written (shortened more)),
      length-append (end_tag l) (written (shortened more)),
      length-append (start_tag l) (written f ++ (end_tag l ++ written more)),
      length-append (written f) (end_tag l ++ written more),
      length-append (end_tag l) (written more),
    )
    (omega (arith, shortened_long f, shortened_long more)))
