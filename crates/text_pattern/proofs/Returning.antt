-- A pattern that is written as text reads back the same, and a text that is read is written back unchanged.
use Prim.Native.Nat.{ℕ, zero, suc, ◌+◌, ◌-◌, ◌*◌, ◌<◌, ◌≤◌, zero-le, suc-le-suc}
use mathlib.Core.Path.{◌≡◌, refl, sym, ap}
use mathlib.Core.Bool.{Bool, true, false, ◌&&◌, ◌||◌, cond, false≢true, or-true}
use mathlib.Core.List.{List, [], ◌∷◌}
use mathlib.Core.Logic.{◌⊎◌, inl, inr}
use native.Mathlib.Nat.{not-suc-le-zero, le_of_suc-le-suc}
use native.Mathlib.Omega.{arith}
use lib.Dec.{eqb, ltb}
use lib.ListN.{length, get_or, drop, drop_of_length-le}
use lib.Seq.{drop-cons}
use borrow.Author.Tests.{eqb-true, ne_eqb, lt-ltb, ltb-true}
use Rattle.selection.proofs.Runs.{both, either}
use Rattle.tables.specs.Words.{steps, axis, label}
use Rattle.tables.specs.Patterns.{Pattern}
use Rattle.text_names.specs.Letters.{starts, all_go, name}
use Rattle.text_names.specs.Names.{Names, same, number_of}
use Rattle.text_names.proofs.Same.{same_refl, same_eq, same_not}
use Rattle.text_names.proofs.Naming.{starts-goes}
use Rattle.text_names.proofs.Numbers.{number-listed, listed-number, number-within}
use Rattle.text_pattern.specs.Texts.{Step, star, word_right, later_right, steps_right}
use Rattle.text_pattern.specs.Scan.{right_text}
use Rattle.text_pattern.specs.Meaning.{steps_of, label_of, listed, words_of, word_of, steps_from, text_of}
use Rattle.text_pattern.proofs.Bytes.{clash, star_stops}
use Rattle.text_pattern.proofs.Steps.{steps_spelled, spelled_steps, steps_right_lem}

-- a label is at most the length
pub label-within : (ws : List (List ℕ)) (w : List ℕ) → label_of ws w ≤ length ws
unfolding label_of
label-within ws w = go (same w star)
  where
    go : (b : Bool) → cond b 0 (number_of ws w) ≤ length ws
    go true = zero-le
    go false = number-within ws w

-- a name is no star
name_no_star : (w : List ℕ) → name w ≡ true → same w star ≡ false
unfolding name all_go
name_no_star w h = same_not w star (λ e. both (starts 42) true (rw e at h) (λ s t. clash star_stops (starts-goes 42 s)))

-- what a label is written as is right, and reads back
module _ (ws : List (List ℕ)) (names : Names ws) where
  word_right_lem : (l : ℕ) → l ≤ length ws → word_right (word_of ws l) ≡ true
  unfolding word_right word_of
  word_right_lem zero h = rw (same_refl star)
  word_right_lem (suc k) h =
      let e : suc k - 1 ≡ k = omega arith in
      rw (ne_eqb (suc k) 0 (λ z. omega arith), e, names.named k h) (or-true (same (get_or ws k []) star))

  label_word : (l : ℕ) → l ≤ length ws → label_of ws (word_of ws l) ≡ l
  unfolding label_of word_of
  label_word zero h = rw (same_refl star)
  label_word (suc k) h =
      let e : suc k - 1 ≡ k = omega arith in
      rw (ne_eqb (suc k) 0 (λ z. omega arith), e, name_no_star (get_or ws k []) (names.named k h))
      (number-listed ws names k h)

-- a step's two words
two_words : (p : List ℕ) (i : ℕ) → 2 * i + 1 < length p → drop (2 * i) p ≡ axis p i ∷ label p i ∷ drop (2 * suc i) p
two_words p i h =
    let one : suc (2 * i) ≡ 2 * i + 1 = omega arith in
    let two : suc (2 * i + 1) ≡ 2 * suc i = omega arith in
    rw (drop-cons p (2 * i) 0 (omega arith), one, drop-cons p (2 * i + 1) 0 h, two)

-- the steps of a pattern are right
module _ (ws : List (List ℕ)) (p : List ℕ) (names : Names ws) (pattern : Pattern p) (labels : (i : ℕ) → i < steps p → label p i ≤ length ws) where
  later_axis : (i : ℕ) → suc i < steps p → (eqb (axis p (suc i)) 1 || eqb (axis p (suc i)) 2) ≡ true
  later_axis i h = go (pattern.later i h)
    where
      go : (axis p (suc i) ≡ 1) ⊎ (axis p (suc i) ≡ 2) → (eqb (axis p (suc i)) 1 || eqb (axis p (suc i)) 2) ≡ true
      go (inl e) = rw e
      go (inr e) = rw e

  later_from : (i n : ℕ) → suc i + n ≤ steps p → later_right (steps_from ws p (suc i) n) ≡ true
  unfolding later_right steps_from
  later_from i zero h = refl
  later_from i (suc n) h =
      let l : suc i < steps p = omega arith in
      rw (later_axis i l, word_right_lem ws names (label p (suc i)) (labels (suc i) l), later_from (suc i) n (omega arith))

  steps_from_lem : (n : ℕ) → 0 < n → n ≤ steps p → steps_right (steps_from ws p 0 n) ≡ true
  unfolding steps_right steps_from
  steps_from_lem zero some h = absurd (not-suc-le-zero some)
  steps_from_lem (suc n) some h =
      rw (pattern.first, word_right_lem ws names (label p 0) (labels 0 pattern.some), later_from 0 n (omega arith))

  pub text_right : steps_right (steps_from ws p 0 (steps p)) ≡ true
  text_right = steps_from_lem (steps p) pattern.some (omega arith)

  -- its text has these steps
  pub text_steps : steps_of (text_of ws p) ≡ steps_from ws p 0 (steps p)
  unfolding text_of
  text_steps = steps_spelled (steps_from ws p 0 (steps p)) text_right

  words_from : (i n : ℕ) → 2 * (i + n) ≡ length p → words_of ws (steps_from ws p i n) ≡ drop (2 * i) p
  unfolding words_of steps_from
  words_from i zero h = sym (drop_of_length-le p {i = 2 * i} (omega arith))
  words_from i (suc n) h =
      rw (label_word ws names (label p i) (labels i (omega arith)), words_from (suc i) n (omega arith))
      (sym (two_words p i (omega arith)))

  pub text_returns : 2 * steps p ≡ length p → words_of ws (steps_of (text_of ws p)) ≡ p
  text_returns h = rw text_steps (words_from 0 (steps p) (omega arith))

-- every step's word is a star or listed
unfoldable pub all_listed : List (List ℕ) → List Step → Bool
all_listed ws [] = true
all_listed ws (x ∷ xs) = listed ws x.word && all_listed ws xs

pub length_words : (ws : List (List ℕ)) (xs : List Step) → length (words_of ws xs) ≡ 2 * length xs
unfolding words_of
length_words ws [] = refl
length_words ws (x ∷ xs) = rw (length_words ws xs) (omega arith)

pub steps_words : (ws : List (List ℕ)) (xs : List Step) → steps (words_of ws xs) ≡ length xs
steps_words ws xs = rw (length_words ws xs) (omega arith)

-- behind two words more stands the same, one step on
axis-behind : (a l : ℕ) (p : List ℕ) (i : ℕ) → axis (a ∷ l ∷ p) (suc i) ≡ axis p i
axis-behind a l p i =
    let e : 2 * suc i ≡ suc (suc (2 * i)) = omega arith in
    rw e

label-behind : (a l : ℕ) (p : List ℕ) (i : ℕ) → label (a ∷ l ∷ p) (suc i) ≡ label p i
label-behind a l p i =
    let e : 2 * suc i + 1 ≡ suc (suc (2 * i + 1)) = omega arith in
    rw e

steps-behind : (ws : List (List ℕ)) (a l : ℕ) (p : List ℕ) (i n : ℕ) → steps_from ws (a ∷ l ∷ p) (suc i) n ≡ steps_from ws p i n
unfolding steps_from
steps-behind ws a l p i zero = refl
steps-behind ws a l p i (suc n) = rw (axis-behind a l p i, label-behind a l p i, steps-behind ws a l p (suc i) n)

-- a listed word is what its label is written as
word_label : (ws : List (List ℕ)) (w : List ℕ) → listed ws w ≡ true → word_of ws (label_of ws w) ≡ w
unfolding listed word_of label_of
word_label ws w = go (same w star) refl
  where
    go : (b : Bool) → same w star ≡ b → (b || ltb 0 (number_of ws w)) ≡ true → word_of ws (cond b 0 (number_of ws w)) ≡ w
    go true e h = sym (same_eq w star e)
    go false e h =
        let some : 0 < number_of ws w = ltb-true 0 (number_of ws w) h in
        rw (ne_eqb (number_of ws w) 0 (λ z. omega arith)) (listed-number ws w some).1

steps_return : (ws : List (List ℕ)) (xs : List Step) → all_listed ws xs ≡ true → steps_from ws (words_of ws xs) 0 (length xs) ≡ xs
unfolding all_listed words_of steps_from
steps_return ws [] e = refl
steps_return ws (x ∷ xs) e =
    both (listed ws x.word) (all_listed ws xs) e
    (λ h k. rw (word_label ws x.word h, steps-behind ws x.axis (label_of ws x.word) (words_of ws xs) 0 (length xs), steps_return ws xs k))

pub pattern_returns : (ws : List (List ℕ)) (s : List ℕ) → right_text s ≡ true → all_listed ws (steps_of s) ≡ true → text_of ws (words_of ws (steps_of s)) ≡ s
unfolding text_of
pattern_returns ws s e all =
    rw (steps_words ws (steps_of s), steps_return ws (steps_of s) all) (spelled_steps s e)

pub labels_listed : (ws : List (List ℕ)) (xs : List Step) (i : ℕ) → i < length xs → label (words_of ws xs) i ≤ length ws
unfolding words_of
labels_listed ws [] i h = absurd (not-suc-le-zero h)
labels_listed ws (x ∷ xs) zero h = label-within ws x.word
labels_listed ws (x ∷ xs) (suc i) h =
    rw (label-behind x.axis (label_of ws x.word) (words_of ws xs) i)
    (labels_listed ws xs i (le_of_suc-le-suc h))

-- the pattern of right steps
axes_later : (ws : List (List ℕ)) (xs : List Step) → later_right xs ≡ true → (i : ℕ) → i < length xs → (axis (words_of ws xs) i ≡ 1) ⊎ (axis (words_of ws xs) i ≡ 2)
unfolding words_of later_right
axes_later ws [] e i h = absurd (not-suc-le-zero h)
axes_later ws (x ∷ xs) e zero h =
    both (eqb x.axis 1 || eqb x.axis 2) (word_right x.word && later_right xs) e
    (λ a r. either (eqb x.axis 1) (eqb x.axis 2) a (λ k. inl (eqb-true x.axis 1 k)) (λ k. inr (eqb-true x.axis 2 k)))
axes_later ws (x ∷ xs) e (suc i) h =
    both (eqb x.axis 1 || eqb x.axis 2) (word_right x.word && later_right xs) e
    (λ a r. both (word_right x.word) (later_right xs) r
    (λ w l. rw (axis-behind x.axis (label_of ws x.word) (words_of ws xs) i) (axes_later ws xs l i (le_of_suc-le-suc h))))

pattern-steps : (ws : List (List ℕ)) (xs : List Step) → steps_right xs ≡ true → Pattern (words_of ws xs)
unfolding steps_right words_of
pattern-steps ws [] e = absurd (false≢true e)
pattern-steps ws (x ∷ xs) e =
    both (eqb x.axis 0) (word_right x.word && later_right xs) e
    (λ a r. both (word_right x.word) (later_right xs) r
    (λ w l. record {
      some = rw (steps_words ws (x ∷ xs)) (suc-le-suc zero-le);
      first = eqb-true x.axis 0 a;
      later = λ i h. rw (axis-behind x.axis (label_of ws x.word) (words_of ws xs) i) (axes_later ws xs l i (le_of_suc-le-suc (rw (steps_words ws (x ∷ xs)) at h)));
    }))

pub pattern_accepted : (ws : List (List ℕ)) (s : List ℕ) → right_text s ≡ true → Pattern (words_of ws (steps_of s))
pattern_accepted ws s e = pattern-steps ws (steps_of s) (steps_right_lem s e)

-- so many steps as asked for
pub length_from : (ws : List (List ℕ)) (p : List ℕ) (i n : ℕ) → length (steps_from ws p i n) ≡ n
unfolding steps_from
length_from ws p i zero = refl
length_from ws p i (suc n) = ap suc (length_from ws p (suc i) n)

-- what a label is written as is listed
word_listed : (ws : List (List ℕ)) → Names ws → (l : ℕ) → l ≤ length ws → listed ws (word_of ws l) ≡ true
unfolding listed word_of
word_listed ws names zero h = rw (same_refl star)
word_listed ws names (suc l) h =
    let back : suc l - 1 ≡ l = omega arith in
    let some : number_of ws (get_or ws l []) ≡ suc l = number-listed ws names l h in
    let other : eqb (suc l) 0 ≡ false = ne_eqb (suc l) 0 (λ z. omega (arith, z)) in
    rw (other, back, some, lt-ltb 0 (suc l) (omega arith)) (or-true (same (get_or ws l []) star))

pub steps-listed : (ws : List (List ℕ)) → Names ws → (p : List ℕ) (i n : ℕ) → ((j : ℕ) → j < n → label p (i + j) ≤ length ws) → all_listed ws (steps_from ws p i n) ≡ true
unfolding all_listed steps_from
steps-listed ws names p i zero all = refl
steps-listed ws names p i (suc n) all =
    let here : i + 0 ≡ i = omega arith in
    let first : label p i ≤ length ws = rw here at (all 0 (omega arith)) in
    rw (word_listed ws names (label p i) first)
    (steps-listed ws names p (suc i) n
    (λ j h.
    let on : i + suc j ≡ suc i + j = omega arith in
    rw on at (all (suc j) (omega (arith, h)))))
