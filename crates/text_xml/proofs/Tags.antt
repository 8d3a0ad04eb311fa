-- The text of a node, without counting levels: each node is written the same way with its own children inside it, and only one text of the nodes is so.
use Prim.Native.Nat.{ℕ, zero, suc, ◌+◌, ◌-◌, ◌<◌, ◌≤◌}
use mathlib.Core.Path.{◌≡◌, refl, sym, ◌∙◌}
use mathlib.Core.Bool.{Bool, true, false, cond}
use mathlib.Core.List.{List, [], ◌∷◌, ◌++◌, append_assoc}
use mathlib.Core.Logic.{◌↔◌}
use native.Mathlib.Omega.{arith}
use lib.Dec.{eqb, ltb}
use lib.ListN.{length, length-append}
use borrow.Author.Tests.{lt-ltb, eq-eqb, ltb-true, eqb-true}
use Rattle.tables.specs.Words.{nodes, parent, tag}
use Rattle.selection.specs.Embeddings.{Child}
use Rattle.selection.specs.Lists.{rising}
use Rattle.selection.proofs.Runs.{both}
use Rattle.text_xml.specs.Decimal.{decimal}
use Rattle.text_xml.specs.Tags.{element_name, short_tag, start_tag, end_tag, child_of, children, in_turn, element_of, tags_in, tags_of}

-- the test of a child is document 000's word
pub child_child : (t : List ℕ) (v c : ℕ) → (child_of t v c ≡ true) ↔ Child t v c
unfolding child_of
child_child t v c = (
  (λ e. both (ltb 0 c) (eqb (parent t c) v) e (λ a b. record { not_root = ltb-true 0 c a; under = eqb-true (parent t c) v b })),
  λ e. rw (lt-ltb 0 c e.not_root, eq-eqb (parent t c) v e.under),
)

-- how many bytes a tag has
pub length_short : (l : ℕ) → length (short_tag l) ≡ 4 + length (decimal l)
unfolding short_tag element_name
length_short l = rw length-append (omega arith)

pub length_start : (l : ℕ) → length (start_tag l) ≡ 3 + length (decimal l)
unfolding start_tag element_name
length_start l = rw length-append (omega arith)

pub length_end : (l : ℕ) → length (end_tag l) ≡ 4 + length (decimal l)
unfolding end_tag element_name
length_end l = rw length-append (omega arith)

-- nodes written behind others
pub turn_append : (text : ℕ → List ℕ) (us vs : List ℕ) → in_turn text (us ++ vs) ≡ in_turn text us ++ in_turn text vs
unfolding in_turn
turn_append text [] vs = refl
turn_append text (u ∷ us) vs = rw (turn_append text us vs) (sym (append_assoc (text u) (in_turn text us) (in_turn text vs)))

-- two ways to write nodes that agree on those listed
module _ (f g : ℕ → List ℕ) (p : ℕ → Bool) where
  turn_ext : (n : ℕ) → ((c : ℕ) → c < n → p c ≡ true → f c ≡ g c) → in_turn f (rising p n) ≡ in_turn g (rising p n)
  unfolding rising in_turn
  turn_ext zero same = refl
  turn_ext (suc n) same = go (p n) refl (turn_ext n (λ c h e. same c (omega arith) e))
    where
      go : (b : Bool) → p n ≡ b → in_turn f (rising p n) ≡ in_turn g (rising p n)
          → in_turn f (cond b (rising p n ++ (n ∷ [])) (rising p n)) ≡ in_turn g (cond b (rising p n ++ (n ∷ [])) (rising p n))
      go true e q = rw (turn_append f, turn_append g, q, same n (omega arith) e)
      go false e q = q

element_turn : (l : ℕ) (f g : ℕ → List ℕ) (cs : List ℕ) → in_turn f cs ≡ in_turn g cs → element_of l f cs ≡ element_of l g cs
unfolding element_of
element_turn l f g [] e = refl
element_turn l f g (c ∷ cs) e = rw e

module _ (t : List ℕ) (falls : (v : ℕ) → 0 < v → v < nodes t → parent t v < v) where
  -- a child has a greater number
  pub child_behind : (v c : ℕ) → c < nodes t → child_of t v c ≡ true → v < c
  child_behind v c h e =
      let is = (child_child t v c).0 e in
      omega (arith, falls c is.not_root h, is.under)

  element_ext : (l v : ℕ) (f g : ℕ → List ℕ) → ((c : ℕ) → v < c → c < nodes t → f c ≡ g c) → element_of l f (children t v) ≡ element_of l g (children t v)
  unfolding children
  element_ext l v f g same =
      element_turn l f g (rising (child_of t v) (nodes t))
      (turn_ext f g (child_of t v) (nodes t) (λ c h e. same c (child_behind v c h e) h))

  -- levels enough are as good as any
  levels : (n m v : ℕ) → v < nodes t → nodes t - v ≤ n → nodes t - v ≤ m → tags_in t n v ≡ tags_in t m v
  unfolding tags_in
  levels zero m v h a b = absurd (omega arith)
  levels (suc n) zero v h a b = absurd (omega arith)
  levels (suc n) (suc m) v h a b =
      element_ext (tag t v) v (tags_in t n) (tags_in t m) (λ c k l. levels n m c l (omega arith) (omega arith))

  pub each-same_way : (v : ℕ) → v < nodes t → tags_of t v ≡ element_of (tag t v) (tags_of t) (children t v)
  unfolding tags_of tags_in
  each-same_way v h =
      let one : nodes t - v ≡ suc (nodes t - suc v) = omega arith in
      rw one
      (element_ext (tag t v) v (tags_in t (nodes t - suc v)) (tags_of t) (λ c k l. levels (nodes t - suc v) (nodes t - c) c l (omega arith) (omega arith)))

  -- and it is the only way to write the nodes so
  module _ (text : ℕ → List ℕ) (same : (v : ℕ) → v < nodes t → text v ≡ element_of (tag t v) text (children t v)) where
    only_from : (n v : ℕ) → v < nodes t → nodes t - v ≤ n → text v ≡ tags_of t v
    only_from zero v h a = absurd (omega arith)
    only_from (suc n) v h a =
        same v h
        ∙ element_ext (tag t v) v text (tags_of t) (λ c k l. only_from n c l (omega arith))
        ∙ sym (each-same_way v h)

    pub only_way : (v : ℕ) → v < nodes t → text v ≡ tags_of t v
    only_way v h = only_from (nodes t - v) v h (omega arith)
