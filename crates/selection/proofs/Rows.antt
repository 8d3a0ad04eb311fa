-- A row says which nodes are chosen in one way only, and a read's row says which nodes are selected by embeddings.
use Prim.Native.Nat.{ℕ, ◌<◌, ◌≤◌}
use mathlib.Core.Path.{◌≡◌, refl, sym, ◌∙◌}
use mathlib.Core.Bool.{Bool, true, false, cond, false≢true}
use mathlib.Core.List.{List}
use mathlib.Core.Logic.Iff
use mathlib.Core.Logic.{◌↔◌}
use native.Mathlib.Decide.{dec_lt, ℕ_discrete}
use native.Mathlib.Omega.{arith}
use lib.ListN.{length, get_or}
use lib.Seq.{ext_get_or}
use Rattle.tables.specs.Patterns.{Pattern}
use Rattle.tables.specs.Documents.{Doc, Sound}
use Rattle.selection.specs.Embeddings.{Selects}
use Rattle.selection.specs.Ways.{selected}
use Rattle.selection.specs.Rows.{Row}
use Rattle.selection.specs.Operations.{read_row}
use Rattle.selection.proofs.Lists.{get_or-tab-before, get_or-tab-behind, length-tab-drop}
use Rattle.selection.proofs.Selecting.{selecting}

-- two bits that are 1 in the same case are equal
pub same_bit : (a b : ℕ) → a ≤ 1 → b ≤ 1 → (a ≡ 1 → b ≡ 1) → (b ≡ 1 → a ≡ 1) → a ≡ b
same_bit a b ha hb f g = go (ℕ_discrete a 1) (ℕ_discrete b 1)
  where
    go : Dec (a ≡ 1) → Dec (b ≡ 1) → a ≡ b
    go (yes p) q = p ∙ sym (f p)
    go (no p) (yes q) = absurd (p (g q))
    go (no p) (no q) = omega arith

-- two rows that choose the same nodes over the same bytes are one row
pub row_one : {chosen : ℕ → Type 0} {n : ℕ} {before a b : List ℕ} → Row chosen n before a → Row chosen n before b → a ≡ b
row_one {n} {before} {a} {b} x y = ext_get_or 0 a b (x.long ∙ sym y.long) (λ v h. at v (dec_lt v n))
  where
    at : (v : ℕ) → Dec (v < n) → get_or a v 0 ≡ get_or b v 0
    at v (yes h) =
        same_bit (get_or a v 0) (get_or b v 0) (x.bit v h) (y.bit v h)
        (λ e. (y.exactly v h).1 ((x.exactly v h).0 e))
        (λ e. (x.exactly v h).1 ((y.exactly v h).0 e))
    at v (no h) = x.later v (omega arith) ∙ sym (y.later v (omega arith))

-- a bit is at most 1, and is 1 exactly where its flag holds
pub bit_most : (b : Bool) → cond b 1 0 ≤ 1
bit_most true = omega arith
bit_most false = omega arith

bit_exactly : (b : Bool) → (◌≡◌ {A = ℕ} (cond b 1 0) 1) ↔ (b ≡ true)
bit_exactly true = ((λ e. refl), (λ e. refl))
bit_exactly false = ((λ e. absurd (omega arith)), (λ e. absurd (false≢true e)))

-- a read's row: byte v is 1 exactly if the pattern selects v by embeddings
pub read_row_lem : {p : List ℕ} {d : Doc} → Pattern p → Sound d → (row : List ℕ) → d.used ≤ length row → Row (Selects p d) d.used row (read_row p d row)
unfolding read_row
read_row_lem {p} {d} pattern sound row long =
    record {
      exactly = λ v h.
          rw (get_or-tab-before (λ v. cond (selected p d v) 1 0) d.used _ v h)
          (Iff.trans (bit_exactly (selected p d v)) (selecting pattern sound v));
      bit = λ v h. rw (get_or-tab-before (λ v. cond (selected p d v) 1 0) d.used _ v h) (bit_most (selected p d v));
      later = λ v h. get_or-tab-behind (λ v. cond (selected p d v) 1 0) d.used row v h;
      long = length-tab-drop (λ v. cond (selected p d v) 1 0) d.used row long;
    }
