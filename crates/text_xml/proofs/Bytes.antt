-- How many bytes a tree takes: those of its nodes added up, 17 a node less 8 at the most, and a chain of any length takes so many.
use Prim.Native.Nat.{ℕ, zero, suc, pred, ◌+◌, ◌-◌, ◌*◌, ◌/◌, ◌%◌, ◌<◌, ◌≤◌}
use mathlib.Core.Path.{◌≡◌, refl, sym, ◌∙◌}
use mathlib.Core.Bool.{Bool, true, false, ◌&&◌, cond}
use mathlib.Core.List.{List, [], ◌∷◌, ◌++◌}
use native.Mathlib.Omega.{arith}
use borrow.Author.Tests.{ltb-true, lt-ltb, eq-eqb, ne_eqb}
use lib.Dec.{eqb, ltb, lit<, lit≤}
use lib.ListN.{length, length-append}
use Rattle.tables.specs.Limits.{word_limit}
use Rattle.tables.specs.Words.{nodes, parent, tag}
use Rattle.tables.specs.Documents.{bare, Sound}
use Rattle.selection.specs.Lists.{tab, rising}
use Rattle.selection.proofs.Lists.{below_suc, length-tab, get_or-tab, length-rising, count_holds}
use Rattle.selection.proofs.Presence.{is_present, present_used}
use Rattle.text_xml.specs.Decimal.{decimal}
use Rattle.text_xml.specs.Tags.{start_tag, end_tag, child_of, children, in_turn, element_of, tags_of, tree_text, own_bytes, sum_to, tree_bytes}
use Rattle.text_xml.proofs.Decimal.{decimal_word, length-five}
use Rattle.text_xml.proofs.Tags.{length_short, length_start, length_end, child_child, turn_append, child_behind, each-same_way}

sum_ext : (f g : ℕ → ℕ) (n : ℕ) → ((i : ℕ) → i < n → f i ≡ g i) → sum_to f n ≡ sum_to g n
unfolding sum_to
sum_ext f g zero same = refl
sum_ext f g (suc n) same = rw (sum_ext f g n (λ i h. same i (omega arith)), same n (omega arith))

sum_plus : (f g : ℕ → ℕ) (n : ℕ) → sum_to (λ i. f i + g i) n ≡ sum_to f n + sum_to g n
unfolding sum_to
sum_plus f g zero = refl
sum_plus f g (suc n) = rw (sum_plus f g n) (omega arith)

pub sum_same : (f : ℕ → ℕ) (k n : ℕ) → ((i : ℕ) → i < n → f i ≡ k) → sum_to f n ≡ k * n
unfolding sum_to
sum_same f k zero same = omega arith
sum_same f k (suc n) same = omega (arith, sum_same f k n (λ i h. same i (omega arith)), same n (omega arith))

sum_none : (f : ℕ → ℕ) (n : ℕ) → ((i : ℕ) → i < n → f i ≡ 0) → sum_to f n ≡ 0
sum_none f n none = omega (arith, sum_same f 0 n none)

pub sum_most : (f : ℕ → ℕ) (k n : ℕ) → ((i : ℕ) → i < n → f i ≤ k) → sum_to f n ≤ k * n
unfolding sum_to
sum_most f k zero most = omega arith
sum_most f k (suc n) most = omega (arith, sum_most f k n (λ i h. most i (omega arith)), most n (omega arith))

-- two sums change places
sum_swap : (g : ℕ → ℕ → ℕ) (n m : ℕ) → sum_to (λ v. sum_to (g v) m) n ≡ sum_to (λ c. sum_to (λ v. g v c) n) m
unfolding sum_to
sum_swap g zero m = sym (sum_none (λ c. 0) m (λ i h. refl))
sum_swap g (suc n) m = rw (sum_swap g n m) (sym (sum_plus (λ c. sum_to (λ v. g v c) n) (g n) m))

-- a sum with one number in it
sum_one : (u x n : ℕ) → u < n → sum_to (λ v. cond (eqb u v) x 0) n ≡ x
unfolding sum_to
sum_one u x zero h = absurd (omega arith)
sum_one u x (suc n) h = below_suc u n h
    (λ l. rw (sum_one u x n l, ne_eqb u n (omega arith)) (omega arith))
    (λ e. rw (eq-eqb u n e) (omega (arith, sum_none (λ v. cond (eqb u v) x 0) n (λ i l. rw (ne_eqb u i (omega arith))))))

-- the last, and the first, beside the others
pub sum-last : (f : ℕ → ℕ) (v n : ℕ) → n ≡ suc v → sum_to f n ≡ sum_to f v + f v
unfolding sum_to
sum-last f v n e = rw e

sum_first : (f : ℕ → ℕ) (n : ℕ) → 0 < n → sum_to f n ≡ f 0 + sum_to (λ c. cond (ltb 0 c) (f c) 0) n
unfolding sum_to
sum_first f zero h = absurd (omega arith)
sum_first f (suc zero) h = omega arith
sum_first f (suc (suc n)) h = rw (sum_first f (suc n) (omega arith), lt-ltb 0 (suc n) (omega arith)) (omega arith)

pub length_turn : (text : ℕ → List ℕ) (p : ℕ → Bool) (n : ℕ) → length (in_turn text (rising p n)) ≡ sum_to (λ c. cond (p c) (length (text c)) 0) n
unfolding in_turn rising sum_to
length_turn text p zero = refl
length_turn text p (suc n) = go (p n) (length_turn text p n)
  where
    go : (b : Bool) {k : ℕ} → length (in_turn text (rising p n)) ≡ k → length (in_turn text (cond b (rising p n ++ (n ∷ [])) (rising p n))) ≡ k + cond b (length (text n)) 0
    go true e = rw (turn_append text (rising p n) (n ∷ []), length-append, length-append, e) (omega arith)
    go false e = omega arith

length-element : (l : ℕ) (text : ℕ → List ℕ) (cs : List ℕ) → length (element_of l text cs) ≡ own_bytes l cs + length (in_turn text cs)
unfolding element_of own_bytes in_turn
length-element l text [] = omega (arith, length_short l)
length-element l text (c ∷ cs) =
    rw (length-append (start_tag l ++ in_turn text (c ∷ cs)) (end_tag l), length-append (start_tag l) (in_turn text (c ∷ cs)))
    (omega (arith, length_start l, length_end l))

-- a node with children, and one without
pub bytes_own : (l : ℕ) (cs : List ℕ) → 0 < length cs → own_bytes l cs ≡ 7 + 2 * length (decimal l)
unfolding own_bytes
bytes_own l [] h = absurd (omega arith)
bytes_own l (c ∷ cs) h = refl

pub bytes_alone : (l : ℕ) (cs : List ℕ) → cs ≡ [] → own_bytes l cs ≡ 4 + length (decimal l)
unfolding own_bytes
bytes_alone l cs e = rw e

pub own_most : (l : ℕ) (cs : List ℕ) → l < word_limit → own_bytes l cs ≤ 17
unfolding own_bytes
own_most l [] h = omega (arith, decimal_word l h)
own_most l (c ∷ cs) h = omega (arith, decimal_word l h)

rising_none : (p : ℕ → Bool) (n : ℕ) → ((c : ℕ) → c < n → p c ≡ true → ⊥) → rising p n ≡ []
unfolding rising
rising_none p zero none = refl
rising_none p (suc n) none = go (p n) refl (rising_none p n (λ c h. none c (omega arith)))
  where
    go : (b : Bool) → p n ≡ b → rising p n ≡ [] → cond b (rising p n ++ (n ∷ [])) (rising p n) ≡ []
    go true e q = absurd (none n (omega arith) e)
    go false e q = q

children_some : (t : List ℕ) (v c : ℕ) → c < nodes t → child_of t v c ≡ true → 0 < length (children t v)
unfolding children
children_some t v c h is = rw (length-rising (child_of t v) (nodes t)) (omega (arith, count_holds (child_of t v) c (nodes t) h is))

-- what v takes by itself, what it takes with what is below it, and what c takes in v where each takes so much
abbrev own : List ℕ → ℕ → ℕ
own t v = own_bytes (tag t v) (children t v)

abbrev whole : List ℕ → ℕ → ℕ
whole t v = length (tags_of t v)

abbrev pub share : List ℕ → (ℕ → ℕ) → ℕ → ℕ → ℕ
share t total v c = cond (child_of t v c) (total c) 0

module _ (t : List ℕ) (sound : Sound (bare t)) where
  pub some_node : 0 < nodes t
  some_node = present_used (bare t) 0 sound.root

  -- where each node takes something by itself and what its children take, the root takes what all nodes take by themselves
  module _ (alone total : ℕ → ℕ) (each : (v : ℕ) → v < nodes t → total v ≡ alone v + sum_to (share t total v) (nodes t)) where
    -- every node but the root stands in one node
    share_all : (c : ℕ) → c < nodes t → sum_to (λ v. share t total v c) (nodes t) ≡ cond (ltb 0 c) (total c) 0
    unfolding child_of
    share_all c h = go (ltb 0 c) refl
      where
        go : (b : Bool) → ltb 0 c ≡ b → sum_to (λ v. cond (b && eqb (parent t c) v) (total c) 0) (nodes t) ≡ cond b (total c) 0
        go true e = sum_one (parent t c) (total c) (nodes t) (omega (arith, sound.parents c (ltb-true 0 c e) h))
        go false e = sum_none (λ v. 0) (nodes t) (λ i l. refl)

    -- so all that the nodes take is what they take by themselves, and all that the nodes but the root take
    pub root-takes : total 0 ≡ sum_to alone (nodes t)
    root-takes =
        let all = sum_ext total (λ v. alone v + sum_to (share t total v) (nodes t)) (nodes t) each ∙ sum_plus alone (λ v. sum_to (share t total v) (nodes t)) (nodes t) in
        let under = sum_swap (share t total) (nodes t) (nodes t) ∙ sum_ext (λ c. sum_to (λ v. share t total v c) (nodes t)) (λ c. cond (ltb 0 c) (total c) 0) (nodes t) share_all in
        omega (arith, sum_first total (nodes t) some_node)

  node_bytes : (v : ℕ) → v < nodes t → whole t v ≡ own t v + sum_to (share t (whole t) v) (nodes t)
  unfolding children
  node_bytes v h =
      rw (each-same_way t sound.parents v h, length-element (tag t v) (tags_of t) (children t v), length_turn (tags_of t) (child_of t v) (nodes t))

  pub tree_bytes_lem : length (tree_text t) ≡ tree_bytes t
  unfolding tree_text tree_bytes
  tree_bytes_lem = root-takes (own t) (whole t) node_bytes

  -- a child has a greater number, so the last node has none
  last-alone : (v : ℕ) → nodes t ≡ suc v → children t v ≡ []
  unfolding children
  last-alone v e = rising_none (child_of t v) (nodes t) (λ c h is. omega (arith, child_behind t sound.parents v c h is))

  pub bytes_most : tree_bytes t + 8 ≤ 17 * nodes t
  unfolding tree_bytes
  bytes_most =
      let v = nodes t - 1 in
      let e : nodes t ≡ suc v = omega (arith, some_node) in
      let others = sum_most (own t) 17 v (λ i h. own_most (tag t i) (children t i) (sound.labels i (omega arith))) in
      omega (arith, sum-last (own t) v (nodes t) e, bytes_alone (tag t v) (children t v) (last-alone v e), decimal_word (tag t v) (sound.labels v (omega arith)))

-- word i of a chain: each node under the one before it, and labelled 65,535
unfoldable pub chain_word : ℕ → ℕ
chain_word i = cond (eqb (i % 2) 0) (pred (i / 2)) 65535

-- a chain of n nodes
unfoldable pub chain_of : ℕ → List ℕ
chain_of n = tab chain_word (2 * n)

module _ (n : ℕ) where
  chain-nodes : nodes (chain_of n) ≡ n
  unfolding chain_of
  chain-nodes = rw (length-tab chain_word (2 * n)) (omega arith)

  module _ (v : ℕ) (h : v < n) where
    chain-parent : parent (chain_of n) v ≡ pred v
    unfolding chain_of chain_word
    chain-parent =
        let even : 2 * v % 2 ≡ 0 = omega arith in
        let half : 2 * v / 2 ≡ v = omega arith in
        rw (get_or-tab chain_word (2 * n) (2 * v) (omega arith), even, half)

    chain-tag : tag (chain_of n) v ≡ 65535
    unfolding chain_of chain_word
    chain-tag =
        let odd : (2 * v + 1) % 2 ≡ 1 = omega arith in
        rw (get_or-tab chain_word (2 * n) (2 * v + 1) (omega arith), odd)

    chain_digits : length (decimal (tag (chain_of n) v)) ≡ 5
    chain_digits = rw chain-tag (length-five 65535 (lit≤ tt) (lit< tt))

  -- the next node is a child
  chain_inner : (v : ℕ) → suc v < n → own (chain_of n) v ≡ 17
  chain_inner v h =
      let next = (child_child (chain_of n) v (suc v)).1 (record { not_root = omega arith; under = chain-parent (suc v) h }) in
      let some = children_some (chain_of n) v (suc v) (rw chain-nodes h) next in
      omega (arith, bytes_own (tag (chain_of n) v) (children (chain_of n) v) some, chain_digits v (omega arith))

  pub chain_sound : 0 < n → Sound (bare (chain_of n))
  chain_sound some =
      let all : nodes (chain_of n) ≡ n = chain-nodes in
      record {
        room = omega arith;
        root = is_present (bare (chain_of n)) 0 (omega arith) refl;
        top = chain-parent 0 some;
        parents = λ v k h. rw (chain-parent v (omega arith)) (omega arith);
        named = λ v h. rw (chain-tag v (omega arith)) (omega arith);
        labels = λ v h. rw (chain-tag v (omega arith)) (omega arith);
        closed = λ v k e.
            let h : v < nodes (chain_of n) = present_used (bare (chain_of n)) v e in
            is_present (bare (chain_of n)) (parent (chain_of n) v) (rw (chain-parent v (omega arith)) (omega arith)) refl;
      }

  -- no smaller bound holds, whatever the number of nodes
  pub bytes_reached : 0 < n → (nodes (chain_of n) ≡ n) × (tree_bytes (chain_of n) + 8 ≡ 17 * n)
  unfolding tree_bytes
  bytes_reached some =
      let all : nodes (chain_of n) ≡ n = chain-nodes in
      let v = n - 1 in
      let e : nodes (chain_of n) ≡ suc v = omega arith in
      let others = sum_same (own (chain_of n)) 17 v (λ i h. chain_inner i (omega arith)) in
      let last = bytes_alone (tag (chain_of n) v) (children (chain_of n) v) (last-alone (chain_of n) (chain_sound some) v e) in
      (all, omega (arith, sum-last (own (chain_of n)) v (nodes (chain_of n)) e, chain_digits v (omega arith)))
