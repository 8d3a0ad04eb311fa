-- From what the checks and the steps give to the promise of reading; the promise fixes its answer and its buffer.
use Rattle.std.specs.Prelude.{Result, Ok, Err}
use Prim.Native.Nat.{ℕ, ◌*◌, ◌≤◌, ◌<◌}
use mathlib.Core.Path.{◌≡◌, refl, sym, ◌∙◌, ap}
use mathlib.Core.Bool.{true}
use mathlib.Core.List.{List, ◌++◌}
use native.Mathlib.Omega.{arith}
use lib.Dec.{leb}
use lib.ListN.{length, get_or, take, drop}
use lib.Seq.{take_at, take-length}
use borrow.Author.Tests.{leb-true, le-leb, lt-leb}
use Rattle.tables.specs.Limits.{name_limit, step_limit}
use Rattle.tables.specs.Checks.{◌then◌, test, refuse, output_check, Checked, Fine}
use Rattle.tables.specs.declared.refusal.Refusal.{Refusal}
use Rattle.selection.specs.Lists.{tab, front}
use Rattle.selection.proofs.Lists.{front-take}
use Rattle.tables.proofs.Accepted.{never, held, then_first, then_second, output_room}
use Rattle.text_names.specs.Names.{lines, list_check}
use Rattle.text_names.proofs.Lists.{list_names}
use Rattle.text_pattern.specs.Scan.{right_text}
use Rattle.text_pattern.specs.Meaning.{steps_of, text_check, words_of}
use Rattle.text_pattern.proofs.Returning.{length_words}
use Rattle.text_pattern_in.specs.Reading.{listed_check, read_text_check, ReadText}
use Rattle.text_pattern_in.specs.Walk.{Taken}
use Rattle.text_pattern_in.specs.Rest.{form_check, both_check, rest_check, PutAs, StepsRead}

-- the text's check, and its number of steps
module _ (s : List ℕ) {got : Checked} (e : got ≡ text_check s) where
  pub text_fine : got ≡ Fine → right_text s ≡ true
  unfolding text_check
  text_fine f = held (right_text s) _ (sym e ∙ f)

  module _ (f : got ≡ Fine) {n : ℕ} (is : n ≡ length (steps_of s)) where
    pub form_long : step_limit < n → {answer : Checked} → answer ≡ refuse 2 1 0 → answer ≡ form_check s
    unfolding form_check
    form_long h a = rw (← e, f, ← is, lt-leb n step_limit h) a

    pub form_fine : n ≤ step_limit → Fine ≡ form_check s
    unfolding form_check
    form_fine h = rw (← e, f, ← is, le-leb n step_limit h)

  pub form_off : {r : Refusal} → got ≡ Err r → Err r ≡ form_check s
  unfolding form_check
  form_off f = rw (← e, f)

-- the list's check first
module _ (l s : List ℕ) {got : Checked} (e : got ≡ list_check l) where
  pub both_on : got ≡ Fine → {answer : Checked} → answer ≡ form_check s → answer ≡ both_check l s
  unfolding both_check
  both_on f a = rw (← e, f) a

  pub both_off : {r : Refusal} → got ≡ Err r → Err r ≡ both_check l s
  unfolding both_check
  both_off f = rw (← e, f)

-- words put at the front
module _ (ws before : List ℕ) {got : Checked} (e : got ≡ output_check (length ws) (length before)) where
  pub put_room : got ≡ Fine → length ws ≤ length before
  put_room f = output_room (length ws) (length before) (sym e ∙ f)

  pub put_fine : got ≡ Fine → {after : List ℕ} → after ≡ ws ++ drop (length ws) before → PutAs ws before after (Ok (length ws))
  put_fine f a = (sym e ∙ f, refl, a)

  pub put_off : {r : Refusal} → got ≡ Err r → PutAs ws before before (Err r)
  put_off f = (sym e ∙ f, refl)

-- a copied table
pub copied : (ws old : List ℕ) {words : List ℕ} → words ≡ tab (λ j. get_or ws j 0) (length ws) ++ drop (length ws) old → words ≡ ws ++ drop (length ws) old
unfolding front
copied ws old e =
    let same : tab (λ j. get_or ws j 0) (length ws) ≡ ws = front-take (length ws) ws (omega arith) ∙ take-length ws in
    e ∙ rw same

-- the taken steps, put at the front
module _ (l s room pattern : List ℕ) {got : Checked} (t : Taken l s room pattern got) (before : List ℕ) where
  pub steps_off : {r : Refusal} → got ≡ Err r → StepsRead l s before before (Err r)
  unfolding rest_check
  steps_off f =
      let off = rw f at t in
      (rw off, refl)

  module _ (f : got ≡ Fine) {n : ℕ} (is : n ≡ 2 * length (steps_of s)) where
    on : Taken l s room pattern Fine
    on = rw f at t

    words_are : take n pattern ≡ words_of (lines l) (steps_of s)
    words_are = rw on.1 (take_at (words_of (lines l) (steps_of s)) (drop (2 * length (steps_of s)) room) n (length_words (lines l) (steps_of s) ∙ sym is))

    asked : (ws : List ℕ) → ws ≡ take n pattern → rest_check l s (length before) ≡ output_check (length ws) (length before)
    unfolding rest_check
    asked ws w =
        let long : length ws ≡ 2 * length (steps_of s) = rw (w, words_are) (length_words (lines l) (steps_of s)) in
        rw (on.0, long)

    pub steps_read : (ws : List ℕ) → ws ≡ take n pattern → (after : List ℕ) (answer : Result ℕ Refusal) → PutAs ws before after answer → StepsRead l s before after answer
    steps_read ws w after (Err r) p = (asked ws w ∙ p.0, p.1)
    steps_read ws w after (Ok m) p =
        let long : length ws ≡ 2 * length (steps_of s) = rw (w, words_are) (length_words (lines l) (steps_of s)) in
        (asked ws w ∙ p.0, p.1 ∙ long, p.2 ∙ rw (w, words_are))

-- a refusal of the first checks is one of them all
first_refused : (a b c d : Checked) (r : Refusal) → (a then (b then c)) ≡ Err r → (a then (b then (c then d))) ≡ Err r
first_refused (Err q) b c d r e = e
first_refused (Ok _) (Err q) c d r e = e
first_refused (Ok _) (Ok _) (Err q) d r e = e
first_refused (Ok _) (Ok _) (Ok _) d r e = never e refl

-- both halves together
module _ (l s before : List ℕ) {got : Checked} (e : got ≡ both_check l s) where
  module _ (f : got ≡ Fine) where
    list_fine : list_check l ≡ Fine
    unfolding both_check
    list_fine = then_first (list_check l) (form_check s) (sym e ∙ f)

    form_is : form_check s ≡ Fine
    unfolding both_check
    form_is = then_second (list_check l) (form_check s) (sym e ∙ f)

    right_fine : text_check s ≡ Fine
    unfolding form_check
    right_fine = then_first (text_check s) _ form_is

    few_fine : test (leb (length (steps_of s)) step_limit) (refuse 2 1 0) ≡ Fine
    unfolding form_check
    few_fine = then_second (text_check s) (test (leb (length (steps_of s)) step_limit) (refuse 2 1 0)) form_is

    pub both_fine : (length (lines l) ≤ name_limit) × (right_text s ≡ true) × (length (steps_of s) ≤ step_limit)
    both_fine = (
      (list_names l list_fine).few,
      text_fine s refl right_fine,
      leb-true (length (steps_of s)) step_limit (held (leb (length (steps_of s)) step_limit) _ few_fine),
    )

    whole : read_text_check l s (length before) ≡ rest_check l s (length before)
    unfolding read_text_check rest_check
    whole = rw (list_fine, right_fine, few_fine)

    pub read_on : (after : List ℕ) (answer : Result ℕ Refusal) → StepsRead l s before after answer → ReadText l s before after answer
    read_on after (Err r) p = (whole ∙ p.0, p.1)
    read_on after (Ok n) p = (whole ∙ p.0, p.1, p.2)

  pub read_off : {r : Refusal} → got ≡ Err r → ReadText l s before before (Err r)
  unfolding read_text_check both_check form_check
  read_off {r} f = (
    first_refused (list_check l) (text_check s) (test (leb (length (steps_of s)) step_limit) (refuse 2 1 0))
        (listed_check (lines l) 0 (steps_of s) then output_check (2 * length (steps_of s)) (length before)) r (sym e ∙ f),
    refl,
  )

-- two answers with their buffers that meet the promise are the same
module _ (l s before a b : List ℕ) where
  pub read_one : (x y : Result ℕ Refusal) → ReadText l s before a x → ReadText l s before b y → (x ≡ y) × (a ≡ b)
  read_one (Err q) (Err r) f g = let e = f.0 in let h = g.0 in ((cc), f.1 ∙ sym g.1)
  read_one (Err q) (Ok n) f g = let e = f.0 in let h = g.0 in ((cc), (cc))
  read_one (Ok m) (Err r) f g = let e = f.0 in let h = g.0 in ((cc), (cc))
  read_one (Ok m) (Ok n) f g =
      let same = f.1 ∙ sym g.1 in
      (ap Ok same, f.2 ∙ ap (λ (k : ℕ). words_of (lines l) (steps_of s) ++ drop k before) same ∙ sym g.2)
