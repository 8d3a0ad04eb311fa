-- The branches of the code on one byte of a text, held against the definitions.
use Prim.Native.Nat.{ℕ, ◌+◌}
use mathlib.Core.Path.{◌≡◌, refl, sym, ◌∙◌}
use mathlib.Core.List.{List, [], ◌∷◌}
use mathlib.Core.Bool.{Bool, true, false, cond, and-true}
use native.Mathlib.Omega.{arith}
use lib.Dec.{eqb}
use lib.ListN.{length, get_or}
use borrow.Author.Tests.{eq-eqb, ne_eqb, lt-ltb}
use Rattle.text_names.specs.Letters.{starts, goes}
use Rattle.tables.specs.Limits.{word_limit}
use Rattle.text_names.specs.Names.{same, number_of}
use Rattle.text_pattern.specs.Texts.{slash, star}
use Rattle.text_pattern.specs.Scan.{kind_of, next_of, ends}
use Rattle.text_pattern.specs.Meaning.{listed, label_of}
use Rattle.text_pattern_in.specs.Walk.{word_from, child_axis, axis_at, found_of}
use Rattle.text_names.proofs.Same.{same_apart}

-- what a byte is
module _ (c : ℕ) {b : ℕ} (is : b ≡ c) where
  pub kind-slash : b ≡ slash → 1 ≡ kind_of c
  unfolding kind_of
  kind-slash e = rw (← is, e)

  pub kind-star : b ≡ 42 → 2 ≡ kind_of c
  unfolding kind_of
  kind-star e = rw (← is, e)

  module _ (n : b ≡ slash → ⊥) (m : b ≡ 42 → ⊥) where
    pub kind-starts : {t : Bool} → t ≡ starts c → t ≡ true → 3 ≡ kind_of c
    unfolding kind_of
    kind-starts p e = rw (ne_eqb c slash (λ h. n (is ∙ h)), ne_eqb c 42 (λ h. m (is ∙ h)), ← p, e)

    module _ {t : Bool} (p : t ≡ starts c) (e : t ≡ false) {u : Bool} (q : u ≡ goes c) where
      pub kind-goes : u ≡ true → 4 ≡ kind_of c
      unfolding kind_of
      kind-goes f = rw (ne_eqb c slash (λ h. n (is ∙ h)), ne_eqb c 42 (λ h. m (is ∙ h)), ← p, e, ← q, f)

      pub kind_other : u ≡ false → 0 ≡ kind_of c
      unfolding kind_of
      kind_other f = rw (ne_eqb c slash (λ h. n (is ∙ h)), ne_eqb c 42 (λ h. m (is ∙ h)), ← p, e, ← q, f)

-- where a text stands behind a byte: that stood before a step, in a name, behind a slash
module _ (k : ℕ) where
  pub begun_star : k ≡ 2 → 2 ≡ next_of 1 k
  unfolding next_of
  begun_star e = rw e

  pub begun_name : k ≡ 3 → 3 ≡ next_of 1 k
  unfolding next_of
  begun_name e = rw e

  pub begun_lost : (k ≡ 2 → ⊥) → (k ≡ 3 → ⊥) → 5 ≡ next_of 1 k
  unfolding next_of
  begun_lost a b = rw (ne_eqb k 2 a, ne_eqb k 3 b)

  pub named-slash : k ≡ 1 → 4 ≡ next_of 3 k
  unfolding next_of
  named-slash e = rw e

  pub named_start : k ≡ 3 → 3 ≡ next_of 3 k
  unfolding next_of
  named_start e = rw e

  pub named-on : k ≡ 4 → 3 ≡ next_of 3 k
  unfolding next_of
  named-on e = rw e

  pub named-lost : (k ≡ 1 → ⊥) → (k ≡ 3 → ⊥) → (k ≡ 4 → ⊥) → 5 ≡ next_of 3 k
  unfolding next_of
  named-lost a b c = rw (ne_eqb k 1 a, ne_eqb k 3 b, ne_eqb k 4 c)

  pub slashed_twice : k ≡ 1 → 1 ≡ next_of 4 k
  unfolding next_of
  slashed_twice e = rw e

  pub slashed_begun : (k ≡ 1 → ⊥) → {r : ℕ} → r ≡ next_of 1 k → r ≡ next_of 4 k
  unfolding next_of
  slashed_begun n e = rw (ne_eqb k 1 n) e

  -- at any place
  module _ (q : ℕ) where
    pub next_at : (n : ℕ) → q ≡ n → {r : ℕ} → r ≡ next_of n k → r ≡ next_of q k
    next_at n a e = rw a e

    module _ (one : q ≡ 1 → ⊥) (three : q ≡ 3 → ⊥) (four : q ≡ 4 → ⊥) where
      pub next_other : (k ≡ 1 → ⊥) → 5 ≡ next_of q k
      unfolding next_of
      next_other n = rw (ne_eqb k 1 n, ne_eqb q 1 one, ne_eqb q 3 three, ne_eqb q 4 four) (go (eqb q 0) (eqb q 2))
        where
          go : (a b : Bool) → ◌≡◌ {A = ℕ} 5 (cond a 5 (cond b 5 5))
          go true b = refl
          go false true = refl
          go false false = refl

      pub next-lost : (q ≡ 0 → ⊥) → (q ≡ 2 → ⊥) → 5 ≡ next_of q k
      unfolding next_of
      next-lost a b = rw (ne_eqb q 0 a, ne_eqb q 1 one, ne_eqb q 2 b, ne_eqb q 3 three, ne_eqb q 4 four)

    pub next_first : k ≡ 1 → q ≡ 0 → 1 ≡ next_of q k
    unfolding next_of
    next_first a b = rw (a, b)

    pub next-star : k ≡ 1 → q ≡ 2 → 4 ≡ next_of q k
    unfolding next_of
    next-star a b = rw (a, b)

-- where a right text may end
pub ends-star : (q : ℕ) → q ≡ 2 → eqb q 2 ≡ ends q
unfolding ends
ends-star q e = rw e

pub ends-name : (q : ℕ) → (q ≡ 2 → ⊥) → eqb q 3 ≡ ends q
unfolding ends
ends-name q n = rw (ne_eqb q 2 n)

-- a step whose slash stands at i: behind one slash or two
module _ (s : List ℕ) (i : ℕ) {b : ℕ} (is : b ≡ get_or s (i + 1) 0) where
  pub word_second : b ≡ slash → i + 2 ≡ word_from s i
  unfolding word_from
  word_second e = rw (eq-eqb (get_or s (i + 1) 0) slash (sym is ∙ e))

  pub word_first : (b ≡ slash → ⊥) → i + 1 ≡ word_from s i
  unfolding word_from
  word_first n = rw (ne_eqb (get_or s (i + 1) 0) slash (λ e. n (is ∙ e)))

  module _ (k : ℕ) where
    pub axis_descendant : b ≡ slash → 2 ≡ axis_at s i k
    unfolding axis_at
    axis_descendant e = rw (eq-eqb (get_or s (i + 1) 0) slash (sym is ∙ e))

    pub axis_first : (b ≡ slash → ⊥) → k ≡ 0 → 0 ≡ axis_at s i k
    unfolding axis_at child_axis
    axis_first n e = rw (ne_eqb (get_or s (i + 1) 0) slash (λ h. n (is ∙ h)), e)

    pub axis_child : (b ≡ slash → ⊥) → (k ≡ 0 → ⊥) → 1 ≡ axis_at s i k
    unfolding axis_at child_axis
    axis_child n m = rw (ne_eqb (get_or s (i + 1) 0) slash (λ h. n (is ∙ h)), ne_eqb k 0 m)

-- a star is one byte
pub star_long : (w : List ℕ) → (length w ≡ 1 → ⊥) → false ≡ same w star
star_long w n = same_apart w star n

pub star_byte : (w : List ℕ) → length w ≡ 1 → {b : ℕ} → b ≡ get_or w 0 0 → eqb b 42 ≡ same w star
unfolding same
star_byte [] e is = absurd (omega (arith, e))
star_byte (c ∷ []) e is = rw (is, and-true)
star_byte (c ∷ d ∷ w) e is = absurd (omega (arith, e))

-- the label of a word
module _ (ws : List (List ℕ)) (w : List ℕ) {t : Bool} (is : t ≡ same w star) where
  pub found_star : t ≡ true → 0 ≡ found_of ws w
  unfolding found_of listed label_of
  found_star e = rw (← is, e)

  module _ (e : t ≡ false) {k : ℕ} (number : k ≡ number_of ws w) where
    pub found_none : k ≡ 0 → word_limit ≡ found_of ws w
    unfolding found_of listed label_of
    found_none z = rw (← is, e, ← number, z)

    pub found_number : (k ≡ 0 → ⊥) → k ≡ found_of ws w
    unfolding found_of listed label_of
    found_number n = rw (← is, e, ← number, lt-ltb 0 k (omega arith))
