-- From one step of a text to the next.
use Prim.Native.Nat.{ℕ, suc, ◌+◌, ◌-◌, ◌≤◌, ◌<◌}
use mathlib.Core.Path.{◌≡◌, refl, sym, ◌∙◌, ap}
use mathlib.Core.Bool.{Bool, true, false, cond, false≢true}
use mathlib.Core.List.{List, [], ◌∷◌, ◌++◌}
use native.Mathlib.Numerals.{add-one}
use native.Mathlib.Omega.{arith}
use native.Mathlib.Decide.{dec_lt}
use lib.Dec.{eqb}
use lib.ListN.{length, get_or, take, drop, take-append-drop, get_or-eq_default}
use lib.Seq.{drop-cons, drop-drop, get_or-drop}
use borrow.Author.Tests.{eqb-true}
use Rattle.text_parts.specs.Next.{next}
use Rattle.text_parts.proofs.Finding.{next-least, next_most}
use Rattle.text_parts.proofs.Cutting.{up_to, next_up}
use Rattle.text_names.specs.Entries.{piece}
use Rattle.text_pattern.specs.Texts.{step, slash}
use Rattle.text_pattern.specs.Meaning.{parts, behind, steps_in}
use Rattle.text_pattern.proofs.Steps.{plain, Rest, none, more, child_step, descendant_step}
use Rattle.text_pattern_in.specs.Walk.{word_from, word_to, word_at}

-- up to the next slash there is none, and there the rest begins
up-plain : (t : List ℕ) → plain (take (up_to slash t) t) ≡ true
unfolding plain up_to
up-plain [] = refl
up-plain (c ∷ t) = go (eqb c slash) refl (up-plain t)
  where
    go : (b : Bool) → eqb c slash ≡ b → plain (take (up_to slash t) t) ≡ true → plain (take (cond b 0 (suc (up_to slash t))) (c ∷ t)) ≡ true
    go true e h = refl
    go false e h = rw (e, h)

up_rest : (t : List ℕ) → Rest (drop (up_to slash t) t)
unfolding up_to
up_rest [] = none
up_rest (c ∷ t) = go (eqb c slash) refl (up_rest t)
  where
    go : (b : Bool) → eqb c slash ≡ b → Rest (drop (up_to slash t) t) → Rest (drop (cond b 0 (suc (up_to slash t))) (c ∷ t))
    go true e h = let is : c ≡ slash = eqb-true c slash e in rw is (more t)
    go false e h = h

-- behind one slash: a step, also an empty one at the end of the text
one_slash : (a : ℕ) (w t : List ℕ) → plain w ≡ true → Rest t → eqb (get_or (w ++ t) 0 0) slash ≡ false → steps_in a (behind (parts (slash ∷ (w ++ t)))) ≡ step a w ∷ steps_in 1 (behind (parts t))
unfolding parts steps_in
one_slash a [] [] p none e = refl
one_slash a [] (d ∷ t) p (more u) e = absurd (false≢true (sym e))
one_slash a (c ∷ w) t p r e = child_step a (c ∷ w) t p (omega arith) r

rest_slash : (c : ℕ) (t : List ℕ) → Rest (c ∷ t) → c ≡ slash
rest_slash c t (more u) = refl

-- the part up to the next slash, and what follows it
module _ (s : List ℕ) (from : ℕ) (h : from ≤ length s) where
  up : next slash s from ≡ from + up_to slash (drop from s)
  up = next_up slash s from h

  part_is : piece s from (next slash s from) ≡ take (up_to slash (drop from s)) (drop from s)
  part_is =
      let long : next slash s from - from ≡ up_to slash (drop from s) = omega (arith, up) in
      rw long

  rest_is : drop (next slash s from) s ≡ drop (up_to slash (drop from s)) (drop from s)
  rest_is = ap (λ (n : ℕ). drop n s) up ∙ sym (drop-drop (up_to slash (drop from s)) from s)

  part-plain : plain (piece s from (next slash s from)) ≡ true
  part-plain = rw part_is (up-plain (drop from s))

  rest_rest : Rest (drop (next slash s from) s)
  rest_rest = rw rest_is (up_rest (drop from s))

  joined : drop from s ≡ piece s from (next slash s from) ++ drop (next slash s from) s
  joined = rw (part_is, rest_is) (sym (take-append-drop (up_to slash (drop from s)) (drop from s)))

module _ (s : List ℕ) (i : ℕ) (h : i < length s) where
  -- a byte that is not 0 stands within the text
  pub inside : eqb (get_or s (i + 1) 0) slash ≡ true → i + 1 < length s
  inside e = go (dec_lt (i + 1) (length s))
    where
      go : Dec (i + 1 < length s) → i + 1 < length s
      go (yes k) = k
      go (no k) =
          let out : get_or s (i + 1) 0 ≡ 0 = get_or-eq_default s 0 (omega arith) in
          let is = eqb-true (get_or s (i + 1) 0) slash e in
          absurd (omega (arith, out, is))

  pub from_least : i + 1 ≤ word_from s i
  unfolding word_from
  from_least = go (eqb (get_or s (i + 1) 0) slash)
    where
      go : (b : Bool) → i + 1 ≤ cond b (i + 2) (i + 1)
      go true = omega arith
      go false = omega arith

  pub from_within : word_from s i ≤ length s
  unfolding word_from
  from_within = go (eqb (get_or s (i + 1) 0) slash) refl
    where
      go : (b : Bool) → eqb (get_or s (i + 1) 0) slash ≡ b → cond b (i + 2) (i + 1) ≤ length s
      go true e = omega (arith, inside e)
      go false e = omega arith

  pub to_least : word_from s i ≤ word_to s i
  unfolding word_to
  to_least = next-least slash s (word_from s i)

  pub to_within : word_to s i ≤ length s
  unfolding word_to
  to_within = next_most slash s (word_from s i) from_within

  pub next_rest : Rest (drop (word_to s i) s)
  unfolding word_to
  next_rest = rest_rest s (word_from s i) from_within

  -- the step whose slash stands at i, and the steps of what follows it
  pub next-steps : Rest (drop i s) → (a : ℕ) →
      steps_in a (behind (parts (drop i s))) ≡ step (cond (eqb (get_or s (i + 1) 0) slash) 2 a) (word_at s i) ∷ steps_in 1 (behind (parts (drop (word_to s i) s)))
  unfolding word_from word_to word_at
  next-steps r a =
      let cut = drop-cons s i 0 h in
      let is : get_or s i 0 ≡ slash = rest_slash (get_or s i 0) (drop (suc i) s) (rw cut at r) in
      let front : drop i s ≡ slash ∷ drop (i + 1) s = cut ∙ rw (is, add-one i) in
      rw front (go (eqb (get_or s (i + 1) 0) slash) refl)
    where
      go : (b : Bool) → eqb (get_or s (i + 1) 0) slash ≡ b
          → steps_in a (behind (parts (slash ∷ drop (i + 1) s)))
          ≡ step (cond b 2 a) (piece s (cond b (i + 2) (i + 1)) (next slash s (cond b (i + 2) (i + 1)))) ∷ steps_in 1 (behind (parts (drop (next slash s (cond b (i + 2) (i + 1))) s)))
      go true e =
          let k = inside e in
          let second : get_or s (i + 1) 0 ≡ slash = eqb-true (get_or s (i + 1) 0) slash e in
          let two : suc (i + 1) ≡ i + 2 = omega arith in
          let next-front : drop (i + 1) s ≡ slash ∷ drop (i + 2) s = drop-cons s (i + 1) 0 k ∙ rw (second, two) in
          let within : i + 2 ≤ length s = omega (arith, k) in
          ap (λ (t : List ℕ). steps_in a (behind (parts (slash ∷ t)))) (next-front ∙ ap (λ (t : List ℕ). slash ∷ t) (joined s (i + 2) within))
          ∙ descendant_step a (piece s (i + 2) (next slash s (i + 2))) (drop (next slash s (i + 2)) s) (part-plain s (i + 2) within) (rest_rest s (i + 2) within)
      go false e =
          let within : i + 1 ≤ length s = omega arith in
          let here : get_or (drop (i + 1) s) 0 0 ≡ get_or s (i + 1) 0 = get_or-drop (i + 1) s 0 0 ∙ ap (λ (n : ℕ). get_or s n 0) (omega arith) in
          let other : eqb (get_or (piece s (i + 1) (next slash s (i + 1)) ++ drop (next slash s (i + 1)) s) 0 0) slash ≡ false =
          ap (λ (t : List ℕ). eqb (get_or t 0 0) slash) (sym (joined s (i + 1) within)) ∙ ap (λ (n : ℕ). eqb n slash) here ∙ e in
          ap (λ (t : List ℕ). steps_in a (behind (parts (slash ∷ t)))) (joined s (i + 1) within)
          ∙ one_slash a (piece s (i + 1) (next slash s (i + 1))) (drop (next slash s (i + 1)) s) (part-plain s (i + 1) within) (rest_rest s (i + 1) within) other
