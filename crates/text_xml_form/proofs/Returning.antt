-- A tree that is written and read again: the text is right, and the tree is the same up to the numbering.
use Prim.Native.Nat.{ℕ, zero, suc, ◌+◌, ◌*◌, ◌/◌, ◌<◌, ◌≤◌}
use mathlib.Core.Path.{◌≡◌, refl, sym, ap, ◌∙◌}
use mathlib.Core.List.{List, [], ◌∷◌}
use native.Mathlib.Decide.{dec_lt, ℕ_discrete}
use native.Mathlib.Omega.{arith}
use lib.ListN.{length, get_or}
use lib.Seq.{ext_get_or}
use Rattle.tables.specs.Words.{nodes, parent, tag}
use Rattle.tables.specs.Documents.{bare, Sound}
use Rattle.selection.proofs.Up.{Falls}
use Rattle.text_xml.specs.Tags.{child_of, children, in_turn, tree_text, sum_to}
use Rattle.text_xml.proofs.Bytes.{share, some_node, root-takes, sum_same, length_turn}
use Rattle.text_xml_form.specs.Elements.{Elements, size, RightTags}
use Rattle.text_xml_form.specs.Numbering.{starts_in, starts, InOrder, Renumbered}
use Rattle.text_xml_form.specs.Rows.{rows_of}
use Rattle.text_xml_form.proofs.Held.{Held, node_size, tree_held}
use Rattle.text_xml_form.proofs.Trees.{read_tree, read_sound, read_nodes, read_words}
use Rattle.text_xml_form.proofs.Ranges.{Rises, Under, children_rise}
use Rattle.text_xml_form.proofs.Drawn.{drawn_size, drawn_abreast, drawn_labels, drawn_starts, inner, only_root, tree_written, tree_starts, Made, make, made}
use Rattle.text_xml_form.proofs.Copies.{Along, along_all, Copied, no_copy, copy, copied, Matches, copied_matches, copied_siblings}

-- two numberings of nodes: each node of u under the node that its parent is, and siblings in their order
module _ (t u : List ℕ) (old : ℕ → ℕ) (first : old 0 ≡ 0) (falls : Falls u (nodes u)) (under : (k : ℕ) → 0 < k → k < nodes u → Under t (old (parent u k)) (old k))
    (siblings : (j k : ℕ) → 0 < j → j < k → k < nodes u → parent u j ≡ parent u k → old j < old k) where
  -- no two nodes of u are one of t
  once_to : (m j k : ℕ) → k ≤ m → j < k → k < nodes u → old j ≡ old k → ⊥
  once_to zero j k a b c e = omega arith
  once_to (suc m) j k a b c e = go (ℕ_discrete j 0) (dec_lt (parent u j) (parent u k)) (dec_lt (parent u k) (parent u j)) (once_to m)
    where
      go : Dec (j ≡ 0) → Dec (parent u j < parent u k) → Dec (parent u k < parent u j) → ((j k : ℕ) → k ≤ m → j < k → k < nodes u → old j ≡ old k → ⊥) → ⊥
      go (yes h) x y before = omega (arith, ap old h, (under k (omega arith) c).child.not_root)
      go (no h) x y before = ways x y
        where
          above : old (parent u j) ≡ old (parent u k)
          above = sym (under j (omega arith) (omega arith)).child.under ∙ ap (parent t) e ∙ (under k (omega arith) c).child.under

          low : parent u j < j
          low = falls j (omega arith) (omega arith)

          high : parent u k < k
          high = falls k (omega arith) c

          ways : Dec (parent u j < parent u k) → Dec (parent u k < parent u j) → ⊥
          ways (yes x) y = before (parent u j) (parent u k) (omega (arith, high)) x (omega (arith, high)) above
          ways (no x) (yes y) = before (parent u k) (parent u j) (omega (arith, low)) y (omega (arith, low)) (sym above)
          ways (no x) (no y) = omega (arith, siblings j k (omega arith) b c (omega arith))

  once_each : (j k : ℕ) → j < k → k < nodes u → old j ≡ old k → ⊥
  once_each j k = once_to k j k (omega arith)

-- what stands at the root of rows that are a tree's
record Top (t u : List ℕ) (old : ℕ → ℕ) (e : Elements) : Type 0 where
  first : old 0 ≡ 0
  named : tag u 0 ≡ tag t 0
  f : Elements
  inside : Copied t u old 0 1 (children t 0) f
  long : size e ≡ suc (size f)

top_of : {t u : List ℕ} {old : ℕ → ℕ} {e : Elements} → Copied t u old 0 0 (0 ∷ []) e → Top t u old e
unfolding size
top_of (copy {f = f} node q p l i no_copy) = record { first = q; named = l; f = f; inside = i; long = node_size node ∙ omega arith }

-- the tree read back, and which node each was
abbrev back : List ℕ → List ℕ
back t = rows_of (tree_text t)

abbrev old_of : List ℕ → ℕ → ℕ
old_of t k = get_or (starts t) k 0

module _ (t : List ℕ) (sound : Sound (bare t)) where
  -- every node is in the order of the start tags once
  module _ (v : ℕ) (h : v < nodes t) where
    more_levels : (n : ℕ) → nodes t ≡ suc n → in_turn (starts_in t n) (children t v) ≡ in_turn (starts_in t (suc n)) (children t v)
    more_levels n e =
        let m = make t sound.parents (nodes t) v h (omega arith) in
        let from = inner t sound.parents v h in
        drawn_starts t sound.parents m.is n (suc v) from (omega arith) ∙ sym (drawn_starts t sound.parents m.is (suc n) (suc v) from (omega arith))

    starts_first : (n : ℕ) → length (starts_in t (suc n) v) ≡ 1 + length (in_turn (starts_in t n) (children t v))
    unfolding starts_in
    starts_first n = omega arith

    starts-own : (n : ℕ) → nodes t ≡ n → length (starts_in t n v) ≡ 1 + sum_to (share t (λ c. length (starts_in t n c)) v) (nodes t)
    unfolding children
    starts-own zero e = absurd (omega arith)
    starts-own (suc n) e = starts_first n ∙ rw (more_levels n e, length_turn (starts_in t (suc n)) (child_of t v) (nodes t))

  pub starts_all : length (starts t) ≡ nodes t
  unfolding starts
  starts_all =
      root-takes t sound (λ v. 1) (λ v. length (starts_in t (nodes t) v)) (λ v h. starts-own v h (nodes t) refl)
      ∙ sum_same (λ v. 1) 1 (nodes t) (λ i h. refl)
      ∙ omega arith

  whole : Made t (0 ∷ [])
  whole = made t sound.parents (some_node t sound)

  -- its text is that of its elements
  pub text_right : RightTags (tree_text t)
  text_right = record {
    root = whole.elements;
    one = drawn_abreast whole.is;
    labels = drawn_labels t sound whole.is 0 (only_root t sound.parents (some_node t sound));
    spelled = tree_written t sound.parents (some_node t sound) whole.is;
  }

  -- it is read as the rows of its elements
  top : Top t (back t) (old_of t) whole.elements
  unfolding text_right
  top =
      let held : Held (back t) 0 0 whole.elements = rw (read_tree (tree_text t) text_right) (tree_held whole.elements) in
      let along : Along (λ k. get_or (starts t) k 0) 0 whole.order = rw (tree_starts t sound.parents (some_node t sound) whole.is) (along_all whole.order) in
      top_of (copied whole.is held along)

  all_read : nodes (back t) ≡ nodes t
  unfolding text_right
  all_read =
      read_nodes (tree_text t) text_right ∙ sym (drawn_size whole.is) ∙ ap length (sym (tree_starts t sound.parents (some_node t sound) whole.is)) ∙ starts_all

  long : nodes (back t) ≡ suc (size top.f)
  unfolding text_right
  long = read_nodes (tree_text t) text_right ∙ top.long

  below_root : Rises (Under t (old_of t 0)) 1 (children t 0)
  below_root = rw top.first (children_rise t sound.parents 0 (some_node t sound))

  matches : (k : ℕ) → 0 < k → k < nodes (back t) → Matches t (back t) (old_of t) k
  matches k a h = copied_matches t (back t) (old_of t) sound.parents top.inside 1 below_root k a (omega (arith, long))

  in_order : (j k : ℕ) → 0 < j → j < k → k < nodes (back t) → parent (back t) j ≡ parent (back t) k → old_of t j < old_of t k
  in_order j k a l h = copied_siblings t (back t) (old_of t) sound.parents top.inside 1 below_root (omega arith) j k a l (omega (arith, long))

  at_node : (k : ℕ) → k < nodes (back t) → Dec (k ≡ 0) → (old_of t k < nodes t) × (tag (back t) k ≡ tag t (old_of t k))
  at_node k h (yes e) = rw (e, top.first) (some_node t sound, top.named)
  at_node k h (no e) = let m = matches k (omega arith) h in (m.placed.node, m.label)

  pub read_back : length t ≡ 2 * nodes t → Renumbered t (rows_of (tree_text t)) (λ k. get_or (starts t) k 0)
  read_back words =
      let s = tree_text t in
      let again = read_sound s text_right in
      record {
        as_long = omega (arith, read_words s text_right, all_read);
        node = λ k h. (at_node k h (ℕ_discrete k 0)).0;
        once = once_each t (back t) (old_of t) top.first again.parents (λ k a h. (matches k a h).placed) in_order;
        root = top.first;
        label = λ k h. (at_node k h (ℕ_discrete k 0)).1;
        under = λ k a h. sym (matches k a h).placed.child.under;
        siblings = in_order;
      }

-- a table with the same words in the same order
same_words : (t u : List ℕ) → length u ≡ length t → length t ≡ 2 * nodes t
    → ((k : ℕ) → k < nodes t → (parent u k ≡ parent t k) × (tag u k ≡ tag t k)) → u ≡ t
same_words t u long words same = ext_get_or 0 u t long (λ i h. go i (omega arith) (ℕ_discrete i (2 * (i / 2))))
  where
    go : (i : ℕ) → i / 2 < nodes t → Dec (i ≡ 2 * (i / 2)) → get_or u i 0 ≡ get_or t i 0
    go i h (yes e) = rw e (same (i / 2) h).0
    go i h (no e) = let o : i ≡ 2 * (i / 2) + 1 = omega arith in rw o (same (i / 2) h).1

module _ (t : List ℕ) (sound : Sound (bare t)) (words : length t ≡ 2 * nodes t) where
  pub back_in_order : InOrder t → rows_of (tree_text t) ≡ t
  back_in_order order = same_words t u back.as_long words (λ k h. go k h (ℕ_discrete k 0))
    where
      u : List ℕ
      u = rows_of (tree_text t)

      back : Renumbered t u (λ k. get_or (starts t) k 0)
      back = read_back t sound words

      again : Sound (bare u)
      again = read_sound (tree_text t) (text_right t sound)

      go : (k : ℕ) → k < nodes t → Dec (k ≡ 0) → (parent u k ≡ parent t k) × (tag u k ≡ tag t k)
      go k h d =
          let l : k < nodes u = omega (arith, back.as_long) in
          (above l d, back.label k l ∙ ap (tag t) (order k h))
        where
          above : k < nodes u → Dec (k ≡ 0) → parent u k ≡ parent t k
          above l (yes e) = rw e (again.top ∙ sym sound.top)
          above l (no e) = sym (order (parent u k) (omega (arith, again.parents k (omega arith) l))) ∙ back.under k (omega arith) l ∙ ap (parent t) (order k h)
