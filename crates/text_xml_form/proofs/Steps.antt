-- The scan of a right text, one byte after the other and one tag after the other, and that a lost text stays lost.
use Prim.Native.Nat.{ℕ, suc, ◌+◌, ◌/◌, ◌%◌, ◌<◌, ◌≤◌}
use mathlib.Core.Path.{◌≡◌, refl, ap, ◌∙◌}
use mathlib.Core.Bool.{true, false}
use mathlib.Core.List.{List, [], ◌∷◌, ◌++◌}
use native.Mathlib.Omega.{arith}
use lib.ListN.{length, get_or}
use borrow.Author.Tests.{ne_eqb, lt-ltb, eq-eqb, ltb-false}
use Rattle.tables.specs.Limits.{word_limit}
use Rattle.text_parts.specs.Scans.{scanned}
use Rattle.text_parts.proofs.Starts.{scanned-append}
use Rattle.text_xml.specs.Decimal.{decimal}
use Rattle.text_xml.specs.Tags.{element_name, short_tag, start_tag, end_tag}
use Rattle.text_xml.proofs.Decimal.{by_digits}
use Rattle.text_xml_form.specs.Elements.{label_right}
use Rattle.text_xml_form.specs.Scan.{Stand, stand, is_digit, further, leads, goes_further, ends_on, fits, stage_on, number_on, open_on, goes, next, on}
use Rattle.text_xml_form.proofs.Names.{of-label, of_digit, to_digit, further-last, further_first, tenth_leads, leads-own}

-- a byte that goes on
pub next-on : (q v : ℕ) (ls : List ℕ) (c : ℕ) → fits q v (get_or ls 0 0) (length ls) c ≡ true
    → next (stand q v ls) c ≡ stand (stage_on q c) (number_on v c) (open_on q v c ls)
unfolding next goes
next-on q v ls c e = rw e

-- a digit leaves the stage and what is open
module _ (c : ℕ) (d : is_digit c ≡ true) where
  pub digit_stage : (q : ℕ) → stage_on q c ≡ q
  unfolding stage_on
  digit_stage q =
      let b = of_digit c d in
      rw (ne_eqb c 62 (λ e. omega (arith, b)), ne_eqb c 60 (λ e. omega (arith, b)), ne_eqb c 47 (λ e. omega (arith, b)), ne_eqb c 110 (λ e. omega (arith, b)))

  pub digit_number : (v : ℕ) → number_on v c ≡ further v c
  unfolding number_on
  digit_number v =
      let b = of_digit c d in
      rw (ne_eqb c 110 (λ e. omega (arith, b)), d)

  pub digit_open : (q v : ℕ) (ls : List ℕ) → open_on q v c ls ≡ ls
  unfolding open_on
  digit_open q v ls =
      let b = of_digit c d in
      rw (ne_eqb c 62 (λ e. omega (arith, b)))

  next_digit : (q v w : ℕ) (ls : List ℕ) → further v c ≡ w → fits q v (get_or ls 0 0) (length ls) c ≡ true → next (stand q v ls) c ≡ stand q w ls
  next_digit q v w ls e f = next-on q v ls c f ∙ rw (digit_stage q, digit_number v, digit_open q v ls, e)

-- in the name of a start tag or short tag
start_digit : (v w d : ℕ) (ls : List ℕ) → d < 10 → further v (48 + d) ≡ w → 0 < w → w < word_limit → next (stand 2 v ls) (48 + d) ≡ stand 2 w ls
unfolding fits goes_further label_right
start_digit v w d ls h e a b = next_digit (48 + d) (to_digit d h) 2 v w ls e (rw (to_digit d h, e, lt-ltb 0 w a, lt-ltb w word_limit b))

-- in the name of an end tag
end_digit : (v w d l : ℕ) (ls : List ℕ) → d < 10 → further v (48 + d) ≡ w → leads w l ≡ true → next (stand 5 v (l ∷ ls)) (48 + d) ≡ stand 5 w (l ∷ ls)
unfolding fits ends_on
end_digit v w d l ls h e a = next_digit (48 + d) (to_digit d h) 5 v w (l ∷ ls) e (rw (to_digit d h, e, a))

-- all digits of a number
start_digits : (ls : List ℕ) (n : ℕ) → 0 < n → n < word_limit → scanned next (stand 2 0 ls) (decimal n) ≡ stand 2 n ls
unfolding scanned
start_digits ls =
    by_digits (λ n s. 0 < n → n < word_limit → scanned next (stand 2 0 ls) s ≡ stand 2 n ls)
    (λ n h a b. start_digit 0 n n ls h (further_first n) a b)
    (λ n s h tenth a b.
    scanned-append next (stand 2 0 ls) s ((48 + n % 10) ∷ [])
    ∙ rw (tenth (omega arith) (omega arith)) (start_digit (n / 10) n (n % 10) ls (omega arith) (further-last n) a b))

end_digits : (l : ℕ) (ls : List ℕ) → l < word_limit → (n : ℕ) → leads n l ≡ true → scanned next (stand 5 0 (l ∷ ls)) (decimal n) ≡ stand 5 n (l ∷ ls)
unfolding scanned
end_digits l ls b =
    by_digits (λ n s. leads n l ≡ true → scanned next (stand 5 0 (l ∷ ls)) s ≡ stand 5 n (l ∷ ls))
    (λ n h a. end_digit 0 n n l ls h (further_first n) a)
    (λ n s h tenth a.
    scanned-append next (stand 5 0 (l ∷ ls)) s ((48 + n % 10) ∷ [])
    ∙ rw (tenth (tenth_leads n l b h a)) (end_digit (n / 10) n (n % 10) l ls (omega arith) (further-last n) a))

-- what stands behind the name
start_end : (l : ℕ) (ls : List ℕ) → 0 < l → next (stand 2 l ls) 62 ≡ stand 6 l (l ∷ ls)
unfolding fits goes_further is_digit stage_on number_on open_on
start_end l ls h = next-on 2 l ls 62 (rw (lt-ltb 0 l h))

short_slash : (l : ℕ) (ls : List ℕ) → 0 < l → next (stand 2 l ls) 47 ≡ stand 3 l ls
unfolding fits goes_further is_digit stage_on number_on open_on
short_slash l ls h = next-on 2 l ls 47 (rw (lt-ltb 0 l h))

short_end : (l : ℕ) (ls : List ℕ) → next (stand 3 l ls) 62 ≡ stand 6 l ls
unfolding fits is_digit stage_on number_on open_on
short_end l ls = next-on 3 l ls 62 refl

end_end : (l : ℕ) (ls : List ℕ) → 0 < l → next (stand 5 l (l ∷ ls)) 62 ≡ stand 6 l ls
unfolding fits ends_on is_digit stage_on number_on open_on
end_end l ls h = next-on 5 l (l ∷ ls) 62 (rw (lt-ltb 0 l h, eq-eqb l l refl))

-- what stands before it
pub first_open : next (stand 0 0 []) 60 ≡ stand 1 0 []
unfolding fits is_digit stage_on number_on open_on
first_open = next-on 0 0 [] 60 refl

pub inner_open : (v l : ℕ) (ls : List ℕ) → next (stand 6 v (l ∷ ls)) 60 ≡ stand 1 v (l ∷ ls)
unfolding fits is_digit stage_on number_on open_on
inner_open v l ls = next-on 6 v (l ∷ ls) 60 (rw (lt-ltb 0 (suc (length ls)) (omega arith)))

start_name : (v : ℕ) (ls : List ℕ) → next (stand 1 v ls) 110 ≡ stand 2 0 ls
unfolding fits is_digit stage_on number_on open_on
start_name v ls = next-on 1 v ls 110 refl

end_slash : (v l : ℕ) (ls : List ℕ) → next (stand 1 v (l ∷ ls)) 47 ≡ stand 4 v (l ∷ ls)
unfolding fits is_digit stage_on number_on open_on
end_slash v l ls = next-on 1 v (l ∷ ls) 47 (rw (lt-ltb 0 (suc (length ls)) (omega arith)))

end_name : (v l : ℕ) (ls : List ℕ) → next (stand 4 v (l ∷ ls)) 110 ≡ stand 5 0 (l ∷ ls)
unfolding fits is_digit stage_on number_on open_on
end_name v l ls = next-on 4 v (l ∷ ls) 110 refl

-- one byte on
step : (x y : Stand) (c : ℕ) (s : List ℕ) → next x c ≡ y → scanned next x (c ∷ s) ≡ scanned next y s
unfolding scanned
step x y c s e = ap (λ z. scanned next z s) e

-- the digits of a number, and more
start_number : (ls : List ℕ) (n : ℕ) (s : List ℕ) → 0 < n → n < word_limit → scanned next (stand 2 0 ls) (decimal n ++ s) ≡ scanned next (stand 2 n ls) s
start_number ls n s a b = scanned-append next (stand 2 0 ls) (decimal n) s ∙ ap (λ z. scanned next z s) (start_digits ls n a b)

end_number : (l : ℕ) (ls : List ℕ) (s : List ℕ) → 0 < l → l < word_limit → scanned next (stand 5 0 (l ∷ ls)) (decimal l ++ s) ≡ scanned next (stand 5 l (l ∷ ls)) s
end_number l ls s a b =
    scanned-append next (stand 5 0 (l ∷ ls)) (decimal l) s ∙ ap (λ z. scanned next z s) (end_digits l ls b l (leads-own l l a refl))

-- whole tags, from where the `<` leads
module _ (x : Stand) (v l : ℕ) (r : label_right l ≡ true) where
  pub start_scanned : (ls : List ℕ) → next x 60 ≡ stand 1 v ls → scanned next x (start_tag l) ≡ stand 6 l (l ∷ ls)
  unfolding start_tag element_name scanned
  start_scanned ls e =
      let b = of-label l r in
      step x (stand 1 v ls) 60 (110 ∷ (decimal l ++ (62 ∷ []))) e
      ∙ step (stand 1 v ls) (stand 2 0 ls) 110 (decimal l ++ (62 ∷ [])) (start_name v ls)
      ∙ start_number ls l (62 ∷ []) b.0 b.1
      ∙ start_end l ls b.0

  pub short_scanned : (ls : List ℕ) → next x 60 ≡ stand 1 v ls → scanned next x (short_tag l) ≡ stand 6 l ls
  unfolding short_tag element_name scanned
  short_scanned ls e =
      let b = of-label l r in
      step x (stand 1 v ls) 60 (110 ∷ (decimal l ++ (47 ∷ 62 ∷ []))) e
      ∙ step (stand 1 v ls) (stand 2 0 ls) 110 (decimal l ++ (47 ∷ 62 ∷ [])) (start_name v ls)
      ∙ start_number ls l (47 ∷ 62 ∷ []) b.0 b.1
      ∙ step (stand 2 l ls) (stand 3 l ls) 47 (62 ∷ []) (short_slash l ls b.0)
      ∙ short_end l ls

  pub end_scanned : (ls : List ℕ) → next x 60 ≡ stand 1 v (l ∷ ls) → scanned next x (end_tag l) ≡ stand 6 l ls
  unfolding end_tag element_name scanned
  end_scanned ls e =
      let b = of-label l r in
      step x (stand 1 v (l ∷ ls)) 60 (47 ∷ 110 ∷ (decimal l ++ (62 ∷ []))) e
      ∙ step (stand 1 v (l ∷ ls)) (stand 4 v (l ∷ ls)) 47 (110 ∷ (decimal l ++ (62 ∷ []))) (end_slash v l ls)
      ∙ step (stand 4 v (l ∷ ls)) (stand 5 0 (l ∷ ls)) 110 (decimal l ++ (62 ∷ [])) (end_name v l ls)
      ∙ end_number l ls (62 ∷ []) b.0 b.1
      ∙ end_end l ls b.0

-- no byte leads back
pub off_next : (x : Stand) (c : ℕ) → on x ≡ false → on (next x c) ≡ false
unfolding on next goes fits
off_next x c e =
    let h : 7 ≤ x.stage = ltb-false x.stage 7 e in
    rw (ne_eqb x.stage 0 (λ e. omega arith), ne_eqb x.stage 1 (λ e. omega arith), ne_eqb x.stage 2 (λ e. omega arith), ne_eqb x.stage 3 (λ e. omega arith), ne_eqb x.stage 4 (λ e. omega arith), ne_eqb x.stage 5 (λ e. omega arith), ne_eqb x.stage 6 (λ e. omega arith))
