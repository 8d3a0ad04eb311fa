-- The branches of the code, held against those of the definitions.
use Prim.Native.Nat.{ℕ, ◌+◌}
use mathlib.Core.Path.{◌≡◌, refl, sym, ◌∙◌}
use mathlib.Core.Bool.{cond}
use mathlib.Core.List.{List}
use lib.Dec.{eqb}
use lib.ListN.{get_or, set}
use lib.Seq.{set-get_or}
use borrow.Author.Tests.{eq-eqb, ne_eqb}
use Rattle.tables.specs.Words.{parent}
use Rattle.doc_mend.specs.Writing.{following, Counted, Putting, Put}

-- equal or not
module _ {A : Type 0} (a b : ℕ) (this that : A) where
  pub where_equal : a ≡ b → this ≡ cond (eqb a b) this that
  where_equal e = rw (eq-eqb a b e) refl

  pub where_other : (a ≡ b → ⊥) → that ≡ cond (eqb a b) this that
  where_other e = rw (ne_eqb a b e) refl

-- three words, two of them from marks
pub words_told : (list : List ℕ) (at v : ℕ) {o n old new : ℕ} → o ≡ old → n ≡ new →
    set (set (set list at v) (at + 1) o) (at + 2) n ≡ set (set (set list at v) (at + 1) old) (at + 2) new
words_told list at v e q = rw (e, q) refl

-- a mark that stays, and one that becomes another
module _ (v new at : ℕ) (marks list : List ℕ) where
  pub put_none : get_or marks v 0 ≡ new → Put v new at marks list marks list at
  put_none e = record {
    marks = rw (← e) (sym (set-get_or marks v 0));
    list = where_equal (get_or marks v 0) new list _ e;
    next = where_equal (get_or marks v 0) new at _ e;
  }

  pub put_there : (get_or marks v 0 ≡ new → ⊥) → {list' : List ℕ} → list' ≡ set (set (set list at v) (at + 1) (get_or marks v 0)) (at + 2) new →
      Put v new at marks list (set marks v new) list' (at + 3)
  put_there e q = record {
    marks = refl;
    list = q ∙ where_other (get_or marks v 0) new list _ e;
    next = where_other (get_or marks v 0) new at _ e;
  }

-- the mended mark of the root, of a node whose parent's counts, of one whose own does
module _ (t row : List ℕ) (old v : ℕ) where
  pub follows_root : v ≡ 0 → 0 ≡ following t old row v
  follows_root z = rw z refl

  pub follows_above : (v ≡ 0 → ⊥) → old ≡ 0 → {u : ℕ} → u ≡ parent t v → get_or row u 0 ≡ following t old row v
  follows_above some z e = rw (ne_eqb v 0 some, z, e) refl

  pub follows_own : (v ≡ 0 → ⊥) → (old ≡ 0 → ⊥) → 1 ≡ following t old row v
  follows_own some other = rw (ne_eqb v 0 some, ne_eqb old 0 other) refl

-- a turn, from what the code reads
module _ (t m row : List ℕ) (v : ℕ) {new : ℕ} (is : new ≡ following t (get_or m v 0) row v) where
  pub counted_turn : {k : ℕ} → k ≡ cond (eqb (get_or m v 0) new) 0 1 → Counted t m v row (set row v new) k
  counted_turn turn = record { row = rw is refl; number = rw is at turn }

  pub put-asked : {list : List ℕ} {at : ℕ} → Putting m list v (following t (get_or m v 0) row v) at → Putting m list v new at
  put-asked asked = rw is asked

  pub put_told : {list m' list' : List ℕ} {at n : ℕ} → Put v new at m list m' list' n → Put v (following t (get_or m v 0) row v) at m list m' list' n
  put_told turn = rw is at turn
