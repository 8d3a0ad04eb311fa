-- How a node more is linked, from the last one to the first.
use Prim.Native.Nat.{ℕ, suc, ◌-◌, ◌<◌, ◌≤◌}
use mathlib.Core.Path.{◌≡◌, refl, sym, ◌∙◌}
use mathlib.Core.Bool.{true, false, cond}
use mathlib.Core.List.{List}
use native.Mathlib.Decide.{ℕ_discrete}
use native.Mathlib.Omega.{arith}
use lib.ListN.{length, set, get_or, length-set}
use lib.Seq.{get_or-set_same, get_or-set_other}
use borrow.Author.Tests.{lt-ltb, ne_eqb}
use Rattle.tables.specs.Words.{nodes, parent}
use Rattle.tables.specs.Documents.{bare}
use Rattle.selection.proofs.Presence.{present_used}
use Rattle.text_xml.specs.Tags.{child_of}
use Rattle.text_xml.proofs.Tags.{child_child}
use Rattle.text_xml_out.specs.Links.{child_in, child_from, LinkedFrom, Linkable}

module _ (t : List ℕ) (v : ℕ) where
  -- behind the last node there is none; from c on it is c, or the first behind it
  from_end : (c : ℕ) → nodes t ≤ c → child_from t v c ≡ 0
  unfolding child_from child_in
  from_end c h = let e : nodes t - c ≡ 0 = omega arith in rw e

  from_step : (c n : ℕ) → n ≡ suc c → c < nodes t → child_from t v c ≡ cond (child_of t v c) c (child_from t v n)
  unfolding child_from child_in
  from_step c n e h = let q : nodes t - c ≡ suc (nodes t - n) = omega arith in rw (q, e)

-- the nodes from v on are linked, in rows as long as before
pub record Linking (t first₀ next₀ first next : List ℕ) (v : ℕ) : Type 0 where
  pub some : 0 < v
  pub within : v ≤ nodes t
  pub firsts : length first ≡ length first₀
  pub nexts : length next ≡ length next₀
  pub linked : LinkedFrom v t first next

module _ {t first₀ next₀ : List ℕ} (pre : Linkable t first₀ next₀) where
  -- at the end no node is linked yet
  pub link_none : Linking t first₀ next₀ first₀ next₀ (nodes t)
  link_none = record {
    some = present_used (bare t) 0 pre.sound.root;
    within = omega arith;
    firsts = refl;
    nexts = refl;
    linked = record {
      firsts = λ v h. pre.empty v ∙ sym (from_end t v (nodes t) (omega arith));
      nexts = λ v h l. absurd (omega arith);
    };
  }

  module _ {first next : List ℕ} {v : ℕ} (inv : Linking t first₀ next₀ first next v) where
    -- from 1 on all are: the root is nobody's child
    pub link_all : v ≤ 1 → LinkedFrom 1 t first next
    link_all h = let e : v ≡ 1 = omega arith in rw e at inv.linked

    -- a node more: it comes before the children that its parent has so far
    module _ (more : 1 < v) {u : ℕ} (up : u ≡ parent t (v - 1)) where
      abbrev w : ℕ
      w = v - 1

      pub link_up : u < v - 1
      link_up = rw up (pre.sound.parents w (omega arith) (omega arith))

      is_child : child_of t u w ≡ true
      is_child = (child_child t u w).1 (record { not_root = omega arith; under = sym up })

      no_child : (q : ℕ) → (q ≡ u → ⊥) → child_of t q w ≡ false
      unfolding child_of
      no_child q n = rw (lt-ltb 0 w (omega arith), ne_eqb (parent t w) q (λ e. n (sym e ∙ sym up)))

      more_first : (q : ℕ) → q < nodes t → get_or (set first u w) q 0 ≡ child_from t q w
      more_first q h = go (ℕ_discrete q u)
        where
          go : Dec (q ≡ u) → get_or (set first u w) q 0 ≡ child_from t q w
          go (yes e) = rw (e, get_or-set_same first u w 0 (omega (arith, link_up)), from_step t u w v (omega arith) (omega arith), is_child)
          go (no n) = rw (get_or-set_other first u q w 0 n, from_step t q w v (omega arith) (omega arith), no_child q n) (inv.linked.firsts q h)

      more_next : (q : ℕ) → w ≤ q → q < nodes t → get_or (set next w (get_or first u 0)) q 0 ≡ child_from t (parent t q) (suc q)
      more_next q h l = go (ℕ_discrete q w)
        where
          go : Dec (q ≡ w) → get_or (set next w (get_or first u 0)) q 0 ≡ child_from t (parent t q) (suc q)
          go (yes e) =
              let s : suc w ≡ v = omega arith in
              rw (e, get_or-set_same next w (get_or first u 0) 0 (omega arith), sym up, s) (inv.linked.firsts u (omega (arith, link_up)))
          go (no n) = rw (get_or-set_other next w q (get_or first u 0) 0 n) (inv.linked.nexts q (omega arith) l)

      pub link_more : Linking t first₀ next₀ (set first u (v - 1)) (set next (v - 1) (get_or first u 0)) (v - 1)
      link_more = record {
        some = omega arith;
        within = omega arith;
        firsts = length-set first u w ∙ inv.firsts;
        nexts = length-set next w (get_or first u 0) ∙ inv.nexts;
        linked = record { firsts = more_first; nexts = more_next };
      }
