-- The bytes of a node by itself, and of all nodes added up.
use Prim.Native.Nat.{ℕ, ◌+◌, ◌*◌, ◌<◌, ◌≤◌}
use mathlib.Core.Path.{◌≡◌, refl, sym, ◌∙◌, ap}
use mathlib.Core.Bool.{cond}
use mathlib.Core.List.{List}
use native.Mathlib.Decide.{ℕ_discrete}
use native.Mathlib.Omega.{arith}
use lib.Dec.{eqb}
use lib.ListN.{length, get_or}
use borrow.Author.Tests.{eq-eqb, ne_eqb}
use Rattle.tables.specs.Words.{nodes, tag}
use Rattle.text_xml.specs.Decimal.{decimal}
use Rattle.text_xml.specs.Tags.{children, own_bytes, sum_to, tree_bytes}
use Rattle.text_xml.proofs.Decimal.{decimal_word}
use Rattle.text_xml.proofs.Bytes.{bytes_own, bytes_alone, own_most, sum_most, sum-last}
use Rattle.text_xml_out.specs.Links.{child_from, Nested}
use Rattle.text_xml_out.proofs.Siblings.{children_from, none_left, first_left, children_from_lem}

module _ (digits child : ℕ) where
  pub own_none : child ≡ 0 → 4 + digits ≡ cond (eqb child 0) (4 + digits) (7 + 2 * digits)
  own_none e = rw (eq-eqb child 0 e)

  pub own_some : (child ≡ 0 → ⊥) → 7 + 2 * digits ≡ cond (eqb child 0) (4 + digits) (7 + 2 * digits)
  own_some n = rw (ne_eqb child 0 n)

-- the nodes before v, added up
abbrev pub bytes_to : List ℕ → ℕ → ℕ
bytes_to t v = sum_to (λ v. own_bytes (tag t v) (children t v)) v

module _ (t : List ℕ) where
  pub bytes_none : 0 ≡ bytes_to t 0
  unfolding sum_to
  bytes_none = refl

  pub bytes_all : (v : ℕ) → v ≤ nodes t → nodes t ≤ v → bytes_to t v ≡ tree_bytes t
  unfolding tree_bytes
  bytes_all v h l = let e : v ≡ nodes t = omega arith in rw e

module _ {t first next : List ℕ} (nested : Nested t first next) where
  -- 17 bytes a node at the most
  pub bytes_below : (v : ℕ) → v ≤ nodes t → bytes_to t v ≤ 17 * v
  bytes_below v h = sum_most (λ v. own_bytes (tag t v) (children t v)) 17 v (λ i l. own_most (tag t i) (children t i) (nested.sound.labels i (omega arith)))

  module _ {v : ℕ} (node : v < nodes t) {l digits : ℕ} (name : l ≡ tag t v) (long : digits ≡ length (decimal l)) where
    pub node_digits : digits ≤ 5
    node_digits = rw (long, name) (decimal_word (tag t v) (nested.sound.labels v node))

    -- a node more
    module _ {child own : ℕ} (linked : child ≡ get_or first v 0) (alone : own ≡ cond (eqb child 0) (4 + digits) (7 + 2 * digits)) where
      same_child : child ≡ child_from t v 1
      same_child = linked ∙ nested.linked.firsts v node

      node_own : own ≡ own_bytes (tag t v) (children t v)
      node_own = go (ℕ_discrete child 0)
        where
          all : children t v ≡ children_from t v 1
          all = children_from_lem t v (omega (arith, node))

          go : Dec (child ≡ 0) → own ≡ own_bytes (tag t v) (children t v)
          go (yes e) = rw (alone, eq-eqb child 0 e, long, name, bytes_alone (tag t v) (children t v) (all ∙ none_left t v 1 (omega arith) (sym same_child ∙ e)))
          go (no n) =
              let found = first_left t v 1 (λ e. n (same_child ∙ e)) in
              rw (alone, ne_eqb child 0 n, long, name, bytes_own (tag t v) (children t v) (omega (arith, ap length (all ∙ found.rest))))

      pub node_more : {bytes : ℕ} → bytes ≡ bytes_to t v → bytes + own ≡ bytes_to t (v + 1)
      node_more e = rw (e, node_own) (sym (sum-last (λ v. own_bytes (tag t v) (children t v)) v (v + 1) (omega arith)))
