-- Trees that are equal up to the numbering have the same text.
use Prim.Native.Nat.{ℕ, zero, suc, ◌<◌, ◌≤◌}
use mathlib.Core.Path.{◌≡◌, refl, sym, ap, ◌∙◌}
use mathlib.Core.Bool.{Bool, true, false, cond}
use mathlib.Core.List.Memᴰ
use mathlib.Core.List.{List, [], ◌∷◌, ◌++◌, map, Memᴰ}
use mathlib.Core.Logic.{◌⊎◌, inl, inr, ⊎_elim}
use native.Mathlib.Decide.{dec_lt, ℕ_discrete}
use native.Mathlib.Omega.{arith}
use Rattle.tables.specs.Words.{nodes, parent}
use Rattle.tables.specs.Documents.{bare, Sound}
use Rattle.selection.specs.Lists.{rising}
use Rattle.selection.proofs.Lists.{below_suc}
use Rattle.text_xml.specs.Tags.{child_of, children, tree_text}
use Rattle.text_xml.proofs.Tags.{child_child}
use Rattle.text_xml.proofs.Bytes.{some_node}
use Rattle.text_xml_form.specs.Elements.{Elements}
use Rattle.text_xml_form.specs.Numbering.{Renumbered}
use Rattle.text_xml_form.proofs.Ranges.{Rises, no_more, then, Under, children_rise}
use Rattle.text_xml_form.proofs.Drawn.{Drawn, nothing, drawn, Siblings, inner, only_root, tree_written, made}
use Rattle.text_xml_form.proofs.Onto.{Reached, onto}

-- a number of a rising list is no less than its start, and P holds of it
rises_least : {P : ℕ → Type 0} {n x : ℕ} {cs : List ℕ} → Rises P n cs → Memᴰ x cs → n ≤ x
rises_least no_more m = absurd (Memᴰ.not-nil m)
rises_least (then a p r) (Memᴰ.head e) = omega arith
rises_least (then a p r) (Memᴰ.tail m) = omega (arith, rises_least r m)

rises_holds : {P : ℕ → Type 0} {n x : ℕ} {cs : List ℕ} → Rises P n cs → Memᴰ x cs → P x
rises_holds no_more m = absurd (Memᴰ.not-nil m)
rises_holds (then a p r) (Memᴰ.head e) = rw e p
rises_holds (then a p r) (Memᴰ.tail m) = rises_holds r m

-- rising lists of the same numbers are equal
rises_same : {P Q : ℕ → Type 0} {n m : ℕ} {a b : List ℕ} → Rises P n a → Rises Q m b
    → ((x : ℕ) → Memᴰ x a → Memᴰ x b) → ((x : ℕ) → Memᴰ x b → Memᴰ x a) → a ≡ b
rises_same no_more no_more f g = refl
rises_same no_more (then {c = d} y q s) f g = absurd (Memᴰ.not-nil (g d (Memᴰ.head refl)))
rises_same (then {c = c} x p r) no_more f g = absurd (Memᴰ.not-nil (f c (Memᴰ.head refl)))
rises_same (then {c = c} {cs = cs} x p r) (then {c = d} {cs = ds} y q s) f g =
    rw (one, rises_same r s (λ z i. left z i (f z (Memᴰ.tail i))) (λ z i. right z i (g z (Memᴰ.tail i))))
  where
    go : (c ≡ d) ⊎ Memᴰ c ds → (d ≡ c) ⊎ Memᴰ d cs → c ≡ d
    go (inl e) k = e
    go (inr i) (inl e) = sym e
    go (inr i) (inr j) = absurd (omega (arith, rises_least s i, rises_least r j))

    one : c ≡ d
    one = go (Memᴰ.cases_cons (f c (Memᴰ.head refl))) (Memᴰ.cases_cons (g d (Memᴰ.head refl)))

    left : (z : ℕ) → Memᴰ z cs → Memᴰ z (d ∷ ds) → Memᴰ z ds
    left z i k = ⊎_elim (λ e. absurd (omega (arith, one, rises_least r i))) (λ j. j) (Memᴰ.cases_cons k)

    right : (z : ℕ) → Memᴰ z ds → Memᴰ z (c ∷ cs) → Memᴰ z cs
    right z i k = ⊎_elim (λ e. absurd (omega (arith, one, rises_least s i))) (λ j. j) (Memᴰ.cases_cons k)

-- every number at which f holds is listed
rising_member : (f : ℕ → Bool) (n x : ℕ) → x < n → f x ≡ true → Memᴰ x (rising f n)
unfolding rising
rising_member f zero x h e = absurd (omega arith)
rising_member f (suc n) x h e = below_suc x n h
    (λ l. go (f n) (rising_member f n x l e))
    (λ q. rw (rw q at e) (Memᴰ.append_right (rising f n) (Memᴰ.head q)))
  where
    go : (b : Bool) → Memᴰ x (rising f n) → Memᴰ x (cond b (rising f n ++ (n ∷ [])) (rising f n))
    go true m = Memᴰ.append_left (n ∷ []) m
    go false m = m

-- every child is among the children
children_member : (t : List ℕ) (v x : ℕ) → Under t v x → Memᴰ x (children t v)
unfolding children
children_member t v x b = rising_member (child_of t v) (nodes t) x b.node ((child_child t v x).1 b.child)

-- the numbers of a list, renamed
map_member : (old : ℕ → ℕ) {x : ℕ} {cs : List ℕ} → Memᴰ x cs → Memᴰ (old x) (map old cs)
map_member old (Memᴰ.head e) = Memᴰ.head (ap old e)
map_member old (Memᴰ.tail m) = Memᴰ.tail (map_member old m)

map-append : (old : ℕ → ℕ) (a b : List ℕ) → map old (a ++ b) ≡ map old a ++ map old b
map-append old [] b = refl
map-append old (x ∷ a) b = ap (λ r. old x ∷ r) (map-append old a b)

map_rises : (old : ℕ → ℕ) {P Q : ℕ → Type 0} {n m : ℕ} {cs : List ℕ} → ((x : ℕ) → P x → Q (old x)) → ((x y : ℕ) → x < y → P x → P y → old x < old y)
    → ((x : ℕ) → n ≤ x → P x → m ≤ old x) → Rises P n cs → Rises Q m (map old cs)
map_rises old each up from no_more = no_more
map_rises old each up from (then {c = c} a p r) = then (from c a p) (each c p) (map_rises old each up (λ x h q. up c x h p q) r)

module _ (t u : List ℕ) (fine : Sound (bare t)) (sound : Sound (bare u)) {old : ℕ → ℕ} (same : Renumbered t u old) where
  as_many : nodes u ≡ nodes t
  as_many = omega (arith, same.as_long)

  -- no other node is the root
  not_root_old : (x : ℕ) → 0 < x → x < nodes u → 0 < old x
  not_root_old x a h = go (ℕ_discrete (old x) 0)
    where
      go : Dec (old x ≡ 0) → 0 < old x
      go (yes e) = absurd (same.once 0 x a h (same.root ∙ sym e))
      go (no e) = omega arith

  -- one node of t is one node of u
  one_old : (j k : ℕ) → j < nodes u → k < nodes u → old j ≡ old k → j ≡ k
  one_old j k a b e = go (dec_lt j k) (dec_lt k j)
    where
      go : Dec (j < k) → Dec (k < j) → j ≡ k
      go (yes h) d = absurd (same.once j k h b e)
      go (no h) (yes d) = absurd (same.once k j d a (sym e))
      go (no h) (no d) = omega arith

  -- every node of t is one of u
  reached : (w : ℕ) → w < nodes t → Reached old (nodes u) w
  reached w h =
      onto (nodes u) old (record { low = λ k l. omega (arith, same.node k l, as_many); once = same.once }) w (omega (arith, as_many))

  -- the children of what c is are what the children of c are
  module _ (c : ℕ) (h : c < nodes u) where
    to_old : (x : ℕ) → Under u c x → Under t (old c) (old x)
    to_old x b = record {
      node = same.node x b.node;
      child = record {
        not_root = not_root_old x b.child.not_root b.node;
        under = sym (same.under x b.child.not_root b.node) ∙ ap old b.child.under;
      };
    }

    of_old : (x : ℕ) → x < nodes u → Under t (old c) (old x) → Under u c x
    of_old x l b = record {
      node = l;
      child = record { not_root = some; under = one_old (parent u x) c (omega (arith, sound.parents x some l)) h (same.under x some l ∙ b.child.under) };
    }
      where
        go : Dec (x ≡ 0) → 0 < x
        go (yes e) = absurd (omega (arith, b.child.not_root, ap old e, same.root))
        go (no e) = omega arith

        some : 0 < x
        some = go (ℕ_discrete x 0)

    olds_rise : Rises (Under t (old c)) 0 (map old (children u c))
    olds_rise =
        map_rises old to_old
        (λ x y l p q. same.siblings x y p.child.not_root l q.node (p.child.under ∙ sym q.child.under))
        (λ x a p. omega arith)
        (children_rise u sound.parents c h)

    same-children : children t (old c) ≡ map old (children u c)
    same-children =
        let rise = children_rise t fine.parents (old c) (same.node c h) in
        rises_same rise olds_rise
        (λ z m. from z (rises_holds rise m) (reached z (rises_holds rise m).node))
        (λ z m. children_member t (old c) z (rises_holds olds_rise m))
      where
        from : (z : ℕ) → Under t (old c) z → Reached old (nodes u) z → Memᴰ z (map old (children u c))
        from z b r = rw (← r.is) (map_member old (children_member u c r.from (of_old r.from r.below (rw r.is b))))

  -- what nodes of u are as elements, those of t are
  same_drawn : {cs os : List ℕ} {e : Elements} → Drawn u cs e os → (m : ℕ) → Siblings u m cs → Drawn t (map old cs) e (map old os)
  same_drawn nothing m r = nothing
  same_drawn (drawn {c = c} {f = f} {more = more} {below = below} {others = others} d o) m (then a b r) =
      let inside : Drawn t (children t (old c)) f (map old below) = rw (same-children c b) (same_drawn d (suc c) (inner u sound.parents c b)) in
      rw (same.label c b, map-append old below others) (drawn inside (same_drawn o (suc c) r))

  pub same_text : tree_text u ≡ tree_text t
  same_text =
      let some = some_node u sound in
      let m = made u sound.parents some in
      let d = rw same.root at (same_drawn m.is 0 (only_root u sound.parents some)) in
      tree_written u sound.parents some m.is ∙ sym (tree_written t fine.parents (some_node t fine) d)
