-- The steps taken one after another: what is written, and the first whose name is not listed.
use Prim.Native.Nat.{ℕ, suc, ◌+◌, ◌*◌, ◌≤◌, ◌<◌}
use mathlib.Core.Path.{◌≡◌, refl, sym, ◌∙◌, ap}
use mathlib.Core.Bool.{Bool, true, false, cond}
use mathlib.Core.List.{List, [], ◌∷◌, ◌++◌, append_assoc}
use native.Mathlib.Numerals.{add-one}
use native.Mathlib.Omega.{arith}
use lib.ListN.{length, get_or, set, take, drop, length-append, length-drop}
use lib.Seq.{drop-cons, set_at, take_all, append_snoc, length-take-le}
use Rattle.tables.specs.Limits.{word_limit, name_limit}
use Rattle.tables.specs.Checks.{◌then◌, test, refuse, Checked, Fine}
use Rattle.selection.proofs.Runs.{both}
use Rattle.tables.proofs.Accepted.{held, then_first, then_second}
use Rattle.text_names.specs.Names.{lines}
use Rattle.text_pattern.specs.Texts.{Step, step}
use Rattle.text_pattern.specs.Scan.{right_text}
use Rattle.text_pattern.specs.Meaning.{steps_of, label_of, listed, words_of}
use Rattle.text_pattern.proofs.Returning.{label-within, all_listed, length_words}
use Rattle.text_pattern_in.specs.Reading.{listed_check}
use Rattle.text_pattern_in.specs.Walk.{word_to, word_at, axis_at, found_of, Taken}
use Rattle.text_pattern_in.proofs.Left.{left, left_end, At, at_start, at_next, this_step, one_within, one_more, at_end}

-- what the label of a word says
module _ (ws : List (List ℕ)) (w : List ℕ) (few : length ws ≤ name_limit) {r : ℕ} (is : r ≡ found_of ws w) where
  pub label_none : word_limit ≤ r → listed ws w ≡ false
  unfolding found_of
  label_none h = go (listed ws w) is
    where
      go : (b : Bool) → r ≡ cond b (label_of ws w) word_limit → b ≡ false
      go true e = absurd (omega (arith, e, label-within ws w))
      go false e = refl

  pub label_some : r < word_limit → (listed ws w ≡ true) × (r ≡ label_of ws w) × (r ≤ name_limit)
  unfolding found_of
  label_some h = go (listed ws w) is
    where
      go : (b : Bool) → r ≡ cond b (label_of ws w) word_limit → (b ≡ true) × (r ≡ label_of ws w) × (r ≤ name_limit)
      go true e = (refl, e, omega (arith, e, label-within ws w))
      go false e = absurd (omega (arith, e))

-- the words of more steps
words_append : (ws : List (List ℕ)) (xs ys : List Step) → words_of ws (xs ++ ys) ≡ words_of ws xs ++ words_of ws ys
unfolding words_of
words_append ws [] ys = refl
words_append ws (x ∷ xs) ys = rw (words_append ws xs ys)

-- two words behind those that are written
two_put : (first old : List ℕ) (n a b : ℕ) → length first ≡ n → n + 1 < length old → set (set (first ++ drop n old) n a) (n + 1) b ≡ (first ++ (a ∷ b ∷ [])) ++ drop (n + 2) old
two_put first old n a b e h =
    let rest = drop (n + 2) old in
    let one : suc n ≡ n + 1 = omega arith in
    let two : suc (n + 1) ≡ n + 2 = omega arith in
    let cut : drop n old ≡ get_or old n 0 ∷ get_or old (n + 1) 0 ∷ rest = drop-cons old n 0 (omega arith) ∙ rw (one, drop-cons old (n + 1) 0 h, two) in
    let long : length (first ++ (a ∷ [])) ≡ n + 1 = rw (length-append, e) in
    let put : set (first ++ drop n old) n a ≡ (first ++ (a ∷ [])) ++ (get_or old (n + 1) 0 ∷ rest) =
    rw cut (set_at first (get_or old n 0) (get_or old (n + 1) 0 ∷ rest) a n e ∙ sym (append_snoc first a (get_or old (n + 1) 0 ∷ rest))) in
    rw put (set_at (first ++ (a ∷ [])) (get_or old (n + 1) 0) rest b (n + 1) long ∙ append_snoc first a (b ∷ rest) ∙ sym (append_assoc first (a ∷ b ∷ []) rest))

-- the walk with what it has written
pub record Took (l s before words : List ℕ) (i k : ℕ) : Type 0 where
  pub at : At s i k
  pub written : words ≡ words_of (lines l) (take k (steps_of s)) ++ drop (2 * k) before
  pub asked : listed_check (lines l) 0 (steps_of s) ≡ listed_check (lines l) k (left s i k)

pub took_start : (l s before : List ℕ) → right_text s ≡ true → Took l s before before 0 0
unfolding words_of
took_start l s before e =
    let at = at_start s e in
    record { at = at; written = refl; asked = ap (listed_check (lines l) 0) at.here }

module _ {l s before words : List ℕ} {i k : ℕ} (t : Took l s before words i k) where
  -- the words of k steps are written, and all behind them stays
  first_long : length (words_of (lines l) (take k (steps_of s))) ≡ 2 * k
  first_long = rw (length_words, length-take-le k (steps_of s) t.at.some)

  pub took_long : 2 * k ≤ length before → length words ≡ length before
  took_long h = rw (t.written, length-append, first_long, length-drop) (omega arith)

  module _ (room : 2 * length (steps_of s) ≤ length before) (h : i < length s) where
    pub took_room : 2 * k + 1 < length words
    took_room =
        let k-within = one_within (steps_of s) k (this_step t.at h) in
        rw (took_long (omega (arith, k-within, room))) (omega (arith, k-within, room))

    module _ (few : length (lines l) ≤ name_limit) {label : ℕ} (is : label ≡ found_of (lines l) (word_at s i)) where
      here : listed_check (lines l) 0 (steps_of s) ≡ (test (listed (lines l) (word_at s i)) (refuse 15 1 k) then listed_check (lines l) (suc k) (left s (word_to s i) (k + 1)))
      unfolding listed_check
      here = t.asked ∙ ap (listed_check (lines l) k) (sym t.at.here ∙ this_step t.at h)

      pub took_off : word_limit ≤ label → {answer : Checked} → answer ≡ refuse 15 1 k → Taken l s before words answer
      took_off n e = rw e (here ∙ rw (label_none (lines l) (word_at s i) few is n))

      pub took_next : label < word_limit → {axis : ℕ} → axis ≡ axis_at s i k → {to : ℕ} → to ≡ word_to s i → {more : List ℕ}
          → more ≡ set (set words (2 * k) axis) (2 * k + 1) label → Took l s before more to (k + 1)
      unfolding words_of
      took_next n a e m =
          let some = label_some (lines l) (word_at s i) few is n in
          let k-within = one_within (steps_of s) k (this_step t.at h) in
          let first = words_of (lines l) (take k (steps_of s)) in
          let more_steps : take (k + 1) (steps_of s) ≡ take k (steps_of s) ++ (step (axis_at s i k) (word_at s i) ∷ []) = one_more (steps_of s) k (this_step t.at h) in
          let two : 2 * k + 2 ≡ 2 * (k + 1) = omega arith in
          record {
            at = at_next t.at h e;
            written =
                m ∙ rw (t.written, a, some.1)
                (two_put first before (2 * k) (axis_at s i k) (label_of (lines l) (word_at s i)) first_long (omega (arith, k-within, room))
                ∙ rw (more_steps, words_append (lines l) (take k (steps_of s)) (step (axis_at s i k) (word_at s i) ∷ []), two));
            asked = here ∙ rw (some.0, e, add-one k);
          }

  pub took_end : length s ≤ i → Taken l s before words Fine
  unfolding listed_check
  took_end h =
      let all = at_end t.at h in
      let whole : take k (steps_of s) ≡ steps_of s = take_all k (steps_of s) (omega (arith, all)) in
      (t.asked ∙ rw (left_end s i k h), t.written ∙ rw (whole, all))

-- 15 is given where a step's word is not listed
pub all_listed_lem : (ws : List (List ℕ)) (k : ℕ) (xs : List Step) → listed_check ws k xs ≡ Fine → all_listed ws xs ≡ true
unfolding listed_check all_listed
all_listed_lem ws k [] e = refl
all_listed_lem ws k (x ∷ xs) e =
    let first = test (listed ws x.word) (refuse 15 1 k) in
    rw (held (listed ws x.word) _ (then_first first (listed_check ws (suc k) xs) e)) (all_listed_lem ws (suc k) xs (then_second first (listed_check ws (suc k) xs) e))

pub listed_all : (ws : List (List ℕ)) (k : ℕ) (xs : List Step) → all_listed ws xs ≡ true → listed_check ws k xs ≡ Fine
unfolding listed_check all_listed
listed_all ws k [] e = refl
listed_all ws k (x ∷ xs) e = both (listed ws x.word) (all_listed ws xs) e (λ h r. rw (h, listed_all ws (suc k) xs r))
