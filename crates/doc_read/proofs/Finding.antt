-- The wanted steps that stand at a node, found word by word.
use Prim.Native.Nat.{ℕ, zero, suc, pred, ◌+◌, ◌-◌, ◌^◌, ◌<◌, ◌≤◌}
use mathlib.Core.Path.{◌≡◌, refl, sym, ◌∙◌}
use mathlib.Core.Bool.{Bool, true, false, ◌&&◌, ◌||◌, not, cond, and-false, or-false, or_assoc, and_comm}
use mathlib.Core.List.{List}
use native.Mathlib.Decide.{ℕ_discrete}
use native.Mathlib.Nat.{add-suc, add-zero, lt_of_le_of_lt}
use native.Mathlib.Omega.{arith}
use lib.Bits.{bit_and, and_le_l}
use lib.Dec.{eqb}
use lib.ListN.{get_or}
use borrow.Author.Tests.{eq-eqb, ne_eqb, lt-ltb, le-ltb}
use Rattle.tables.specs.Limits.{step_limit}
use Rattle.tables.specs.Words.{steps}
use Rattle.tables.specs.Documents.{Doc, present}
use Rattle.selection.specs.Lists.{somewhere}
use Rattle.selection.specs.Ways.{up, run, selected}
use Rattle.selection.specs.Operations.{read_row}
use Rattle.selection.proofs.Lists.{tab_ext}
use Rattle.selection.proofs.Somewhere.{to_somewhere, nowhere, somewhere-same}
use Rattle.pattern_set.specs.Sets.{bit, word_steps, Word}
use Rattle.pattern_set.proofs.Bits.{zero_bit, and_bit, same_bits}
use Rattle.pattern_masks.proofs.Passing.{whether, Below}
use Rattle.doc_read.specs.Wanted.{wants, stands_at, wanted_row}
use Rattle.doc_read.specs.Standing.{stands_on, standing, asked, stood_below, shown_byte, shown_row, LastWanted}

-- below n, and in the k numbers from n on
pub somewhere_more : (f : ℕ → Bool) (n k : ℕ) → somewhere f (n + k) ≡ (somewhere f n || somewhere (λ i. f (n + i)) k)
unfolding somewhere
somewhere_more f n zero = rw (add-zero n, or-false (somewhere f n))
somewhere_more f n (suc k) = rw (add-suc n k, somewhere_more f n k, or_assoc (somewhere f n) (somewhere (λ i. f (n + i)) k) (f (n + k)))

-- from n on nowhere
pub somewhere_below : (f : ℕ → Bool) (n m : ℕ) → n ≤ m → Below n f → somewhere f m ≡ somewhere f n
somewhere_below f n m h none =
    let e : m ≡ n + (m - n) = omega arith in
    rw (e, somewhere_more f n (m - n), nowhere (λ i. f (n + i)) (m - n) (λ i l. none (n + i) (omega arith)), or-false (somewhere f n))

-- a number of 64 bits is 0 exactly if it has no bit
pub some_bit : (s : ℕ) → s < 2 ^ word_steps → not (eqb s 0) ≡ somewhere (bit s) word_steps
some_bit s h =
    whether (ℕ_discrete s 0)
    (λ z. rw z (sym (nowhere (bit 0) word_steps (λ i l. zero_bit i))))
    (λ n. rw (ne_eqb s 0 n) (found n (somewhere (bit s) word_steps) refl))
  where
    found : (s ≡ 0 → ⊥) → (b : Bool) → somewhere (bit s) word_steps ≡ b → true ≡ b
    found n true e = refl
    found n false e = absurd (n (same_bits word_steps s 0 h (omega arith) (λ i l. none i l ∙ sym (zero_bit i))))
      where
        none : (i : ℕ) → i < word_steps → bit s i ≡ false
        none i l = sym (unset (bit s i) refl)
          where
            unset : (b : Bool) → bit s i ≡ b → false ≡ b
            unset true q = sym e ∙ to_somewhere (bit s) word_steps i l q
            unset false q = refl

-- so two words have a step in common exactly if their common bits are not all 0
pub meets_bits : (a b : ℕ) → a < 18446744073709551616 → not (eqb (bit_and a b) 0) ≡ somewhere (λ i. bit a i && bit b i) word_steps
meets_bits a b h =
    some_bit (bit_and a b) (lt_of_le_of_lt (and_le_l a b) h)
    ∙ somewhere-same (bit (bit_and a b)) (λ i. bit a i && bit b i) word_steps (λ i l. and_bit a b i)

-- a byte by its branch
module _ (mark before own wanted : ℕ) where
  pub shown_removed : (mark ≡ 0 → ⊥) → before ≡ cond (eqb mark 0 && somewhere (λ i. bit own i && bit wanted i) word_steps) 1 before
  shown_removed h = rw (ne_eqb mark 0 h)

  module _ (h : mark ≡ 0) {b : Bool} (e : b ≡ somewhere (λ i. bit own i && bit wanted i) word_steps) where
    pub shown_found : b ≡ true → 1 ≡ cond (eqb mark 0 && somewhere (λ i. bit own i && bit wanted i) word_steps) 1 before
    shown_found k = rw (h, ← e, k)

    pub shown_other : b ≡ false → before ≡ cond (eqb mark 0 && somewhere (λ i. bit own i && bit wanted i) word_steps) 1 before
    shown_other k = rw (h, ← e, k)

-- a node's byte with what is found below n, and then in one word more
byte_more : (there below word : Bool) → ◌≡◌ {A = ℕ} (cond (there && word) 1 (cond (there && below) 1 0)) (cond (there && (below || word)) 1 0)
byte_more true true true = refl
byte_more true true false = refl
byte_more true false true = refl
byte_more true false false = refl
byte_more false below word = refl

module _ (p wanted : List ℕ) (d : Doc) where
  -- nothing is shown yet
  pub stood_none : (v : ℕ) → 0 ≡ shown_byte p wanted d 0 v
  unfolding stood_below somewhere
  stood_none v = rw (and-false (present d v))

  -- the words of a node and of the wanted steps show the steps of this word
  pub stood_more : (from v : ℕ) → v < d.used → {m before own word b : ℕ} → Word (standing p d.rows v) from own → Word (asked p wanted) from word → m ≡ get_or d.marks v 0 → before ≡ shown_byte p wanted d from v → b ≡ cond (eqb m 0 && somewhere (λ i. bit own i && bit word i) word_steps) 1 before → b ≡ shown_byte p wanted d (from + word_steps) v
  unfolding stood_below
  stood_more from v h {m} {before} {own} {word} stands asks q e made =
      made
      ∙ rw (
        q,
        e,
        lt-ltb v d.used h,
        somewhere-same (λ i. bit own i && bit word i) (λ i. standing p d.rows v (from + i) && asked p wanted (from + i)) word_steps (λ i l. rw (stands.at i l, asks.at i l)),
        somewhere_more (λ i. standing p d.rows v i && asked p wanted i) from word_steps,
      ) (byte_more (eqb (get_or d.marks v 0) 0) (somewhere (λ i. standing p d.rows v i && asked p wanted i) from)
      (somewhere (λ i. standing p d.rows v (from + i) && asked p wanted (from + i)) word_steps))

  -- behind the last step nothing more is found
  pub stood_all : (n : ℕ) → steps p ≤ n → (v : ℕ) → stood_below p wanted d n v ≡ stands_at p wanted d v
  unfolding stood_below stands_at stands_on asked
  stood_all n h v =
      rw (
        somewhere_below (λ i. standing p d.rows v i && asked p wanted i) (steps p) n h (λ i l. rw (le-ltb i (steps p) l)),
        somewhere-same (λ i. standing p d.rows v i && asked p wanted i) (λ i. wants wanted i && run p false i (up d.rows v)) (steps p)
            (λ i l. rw (lt-ltb i (steps p) l) (and_comm (run p false i (up d.rows v)) (wants wanted i))),
      )

  pub shown_all : (n : ℕ) → steps p ≤ n → (row : List ℕ) → shown_row p wanted d n row ≡ wanted_row p wanted d row
  unfolding wanted_row
  shown_all n h row =
      rw (tab_ext (shown_byte p wanted d n) (λ v. cond (stands_at p wanted d v) 1 0) d.used (λ v l. rw (stood_all n h v)))

-- where only the last step is wanted, it stands at the selected nodes
last-alone : (n : ℕ) → 0 < n → (f g : ℕ → Bool) → ((i : ℕ) → i < n → f i ≡ eqb i (pred n)) → somewhere (λ i. f i && g i) n ≡ g (pred n)
unfolding somewhere
last-alone zero h f g e = absurd (omega arith)
last-alone (suc n) h f g e =
    rw (
      nowhere (λ i. f i && g i) n (λ i l. rw (e i (omega arith), ne_eqb i n (λ q. omega arith))),
      e n (omega arith),
      eq-eqb n n refl,
    )

module _ (p : List ℕ) (some : 0 < steps p) (few : steps p ≤ step_limit) {wanted : List ℕ} (asks : LastWanted p wanted) (d : Doc) where
  last_stands : (v : ℕ) → stands_at p wanted d v ≡ selected p d v
  unfolding stands_at selected
  last_stands v =
      rw (last-alone (steps p) some (wants wanted) (λ i. run p false i (up d.rows v)) (asks.only few))

  pub last_row : (row : List ℕ) → wanted_row p wanted d row ≡ read_row p d row
  unfolding wanted_row read_row
  last_row row =
      rw (tab_ext (λ v. cond (stands_at p wanted d v) 1 0) (λ v. cond (selected p d v) 1 0) d.used (λ v l. rw (last_stands v)))
