-- Where the scan stands tells what has been read: one law a stage, from one byte to the next.
use Prim.Native.Nat.{ℕ, suc, ◌<◌}
use mathlib.Core.Path.{◌≡◌, refl, sym, ap, ◌∙◌}
use mathlib.Core.Bool.{Bool, true, false, ◌&&◌, ◌||◌, cond, false≢true}
use mathlib.Core.List.{List, [], ◌∷◌, ◌++◌, append_assoc, append-nil}
use native.Mathlib.Omega.{arith}
use lib.Dec.{eqb, ltb}
use lib.ListN.{length, get_or}
use lib.Seq.{append_snoc}
use borrow.Author.Tests.{eqb-true, ltb-true}
use Rattle.tables.specs.Limits.{word_limit}
use Rattle.selection.proofs.Runs.{both, either}
use Rattle.text_parts.specs.Scans.{scanned}
use Rattle.text_xml.specs.Decimal.{decimal}
use Rattle.text_xml.specs.Tags.{element_name, short_tag, start_tag, end_tag}
use Rattle.text_xml_form.specs.Elements.{Elements, none, short, pair, written, label_right, labels_right}
use Rattle.text_xml_form.specs.Scan.{Stand, stand, is_digit, further, leads, goes_further, ends_on, fits, stage_on, number_on, open_on, goes, lost, next, standing}
use Rattle.text_xml_form.proofs.Names.{of-label, to_label, leads_some, Name, no_digit, name-further, name_some}
use Rattle.text_xml_form.proofs.Steps.{digit_stage, digit_number, digit_open}
use Rattle.text_xml_form.proofs.Opened.{behind, behind_right, Open, outside, within, One, short_one, pair_one, short_written, pair_written, inside_written}

-- stage, number, open labels, and the text that has been read
pub data Stands : ℕ → ℕ → List ℕ → List ℕ → Type 0 where
  before_root : {v : ℕ} → Stands 0 v [] []
  behind_less : {v : ℕ} {ls a : List ℕ} → Open ls a → Stands 1 v ls (a ++ (60 ∷ []))
  in_name : {v : ℕ} {ls a w : List ℕ} → Open ls a → Name v w → v < word_limit → Stands 2 v ls (a ++ (60 ∷ 110 ∷ w))
  behind_slash : {v : ℕ} {ls a : List ℕ} → Open ls a → label_right v ≡ true → Stands 3 v ls (a ++ (60 ∷ 110 ∷ (decimal v ++ (47 ∷ []))))
  in_end : {v l : ℕ} {ls a : List ℕ} → Open (l ∷ ls) a → Stands 4 v (l ∷ ls) (a ++ (60 ∷ 47 ∷ []))
  in_end_name : {v l : ℕ} {ls a w : List ℕ} → Open (l ∷ ls) a → Name v w → (0 < v → leads v l ≡ true) → Stands 5 v (l ∷ ls) (a ++ (60 ∷ 47 ∷ 110 ∷ w))
  behind_tag : {v l : ℕ} {ls a : List ℕ} → Open (l ∷ ls) a → Stands 6 v (l ∷ ls) a
  behind_root : {v : ℕ} (e : Elements) → One e → Stands 6 v [] (written e)
  nowhere : {v : ℕ} {ls s : List ℕ} → Stands 7 v ls s

as_text : {q v : ℕ} {ls s t : List ℕ} → s ≡ t → Stands q v ls s → Stands q v ls t
as_text e h = rw (← e) h

-- a tag in which one byte more stands
longer : {q v : ℕ} {ls : List ℕ} (a p : List ℕ) (c : ℕ) → Stands q v ls (a ++ (p ++ (c ∷ []))) → Stands q v ls ((a ++ p) ++ (c ∷ []))
longer a p c h = as_text (sym (append_assoc a p (c ∷ []))) h

-- a tag that ends opens an element, or puts one behind others
opened : {ls a : List ℕ} (v l : ℕ) → Open ls a → label_right l ≡ true → Stands 6 v (l ∷ ls) (a ++ start_tag l)
unfolding written labels_right
opened {a = a} v l o r = as_text (ap (λ s. a ++ s) (append-nil (start_tag l))) (behind_tag (within o l r none refl))

put : {ls a : List ℕ} (v : ℕ) → Open ls a → (e : Elements) → One e → Stands 6 v ls (a ++ written e)
put v outside e h = behind_root e h
put v (within {a = a} o l r f g) e h =
    as_text (sym (inside_written a l f e)) (behind_tag (within o l r (behind f e) (behind_right f e g h.labels)))

shut : {l : ℕ} {ls a : List ℕ} (v : ℕ) → Open (l ∷ ls) a → Stands 6 v ls (a ++ end_tag l)
shut v (within {a = a} o l r f g) = as_text (sym (pair_written a l f)) (put v o (pair l f none) (pair_one l f r g))

-- where a byte leads that goes on
abbrev Led : ℕ → ℕ → List ℕ → ℕ → List ℕ → Type 0
Led q v ls c s = Stands (stage_on q c) (number_on v c) (open_on q v c ls) s

-- a digit
led_digit : {q : ℕ} {ls s : List ℕ} (v c : ℕ) → is_digit c ≡ true → Stands q (further v c) ls s → Led q v ls c s
led_digit {q} {ls} v c d h = rw (digit_stage c d q, digit_number c d v, digit_open c d q v ls) h

led_0 : (v c : ℕ) → eqb c 60 ≡ true → Led 0 v [] c (c ∷ [])
unfolding stage_on number_on open_on is_digit
led_0 v c e = rw (eqb-true c 60 e) (behind_less outside)

led_slash : {ls a : List ℕ} (v : ℕ) → Open ls a → ltb 0 (length ls) ≡ true → Stands 4 v ls (a ++ (60 ∷ 47 ∷ []))
led_slash v outside e = absurd (false≢true e)
led_slash v (within o l r f g) e = in_end (within o l r f g)

led_1 : {ls a : List ℕ} (v c : ℕ) → Open ls a → (eqb c 110 || (eqb c 47 && ltb 0 (length ls))) ≡ true → Led 1 v ls c ((a ++ (60 ∷ [])) ++ (c ∷ []))
unfolding stage_on number_on open_on is_digit
led_1 {ls} {a} v c o e =
    longer a (60 ∷ []) c
    (either (eqb c 110) (eqb c 47 && ltb 0 (length ls)) e
    (λ h. rw (eqb-true c 110 h) (in_name o no_digit (omega arith)))
    (λ h. both (eqb c 47) (ltb 0 (length ls)) h (λ k d. rw (eqb-true c 47 k) (led_slash v o d))))

module _ {ls a w : List ℕ} (v c : ℕ) (o : Open ls a) (n : Name v w) where
  led_2_digit : is_digit c ≡ true → label_right (further v c) ≡ true → Led 2 v ls c (a ++ ((60 ∷ 110 ∷ w) ++ (c ∷ [])))
  led_2_digit d r = let b = of-label (further v c) r in led_digit v c d (in_name o (name-further c n d b.0) b.1)

  led_2_greater : label_right v ≡ true → w ≡ decimal v → c ≡ 62 → Led 2 v ls c (a ++ ((60 ∷ 110 ∷ w) ++ (c ∷ [])))
  unfolding stage_on number_on open_on is_digit start_tag element_name
  led_2_greater r e k = rw (k, e) (opened v v o r)

  led_2_slash : label_right v ≡ true → w ≡ decimal v → c ≡ 47 → Led 2 v ls c (a ++ ((60 ∷ 110 ∷ w) ++ (c ∷ [])))
  unfolding stage_on number_on open_on is_digit
  led_2_slash r e k = rw (k, e) (behind_slash o r)

  led_2 : v < word_limit → goes_further v c ≡ true → Led 2 v ls c ((a ++ (60 ∷ 110 ∷ w)) ++ (c ∷ []))
  unfolding goes_further label_right
  led_2 b e = longer a (60 ∷ 110 ∷ w) c (go (is_digit c) refl e)
    where
      go : (d : Bool) → is_digit c ≡ d → cond d (label_right (further v c)) ((eqb c 62 || eqb c 47) && ltb 0 v) ≡ true
          → Led 2 v ls c (a ++ ((60 ∷ 110 ∷ w) ++ (c ∷ [])))
      go true d r = led_2_digit d r
      go false d r =
          both (eqb c 62 || eqb c 47) (ltb 0 v) r
          (λ k s. let some = ltb-true 0 v s in
          let right = to_label v some b in
          either (eqb c 62) (eqb c 47) k
          (λ h. led_2_greater right (name_some n some) (eqb-true c 62 h))
          (λ h. led_2_slash right (name_some n some) (eqb-true c 47 h)))

led_3 : {ls a : List ℕ} (v c : ℕ) → Open ls a → label_right v ≡ true → eqb c 62 ≡ true
    → Led 3 v ls c ((a ++ (60 ∷ 110 ∷ (decimal v ++ (47 ∷ [])))) ++ (c ∷ []))
unfolding stage_on number_on open_on is_digit short_tag element_name
led_3 {ls} {a} v c o r e =
    rw (eqb-true c 62 e)
    (longer a (60 ∷ 110 ∷ (decimal v ++ (47 ∷ []))) 62
    (as_text (ap (λ s. a ++ s) (short_written v ∙ ap (λ s. 60 ∷ 110 ∷ s) (sym (append_assoc (decimal v) (47 ∷ []) (62 ∷ []))))) (put v o (short v none) (short_one v r))))

led_4 : {l : ℕ} {ls a : List ℕ} (v c : ℕ) → Open (l ∷ ls) a → eqb c 110 ≡ true → Led 4 v (l ∷ ls) c ((a ++ (60 ∷ 47 ∷ [])) ++ (c ∷ []))
unfolding stage_on number_on open_on is_digit
led_4 {a = a} v c o e = rw (eqb-true c 110 e) (longer a (60 ∷ 47 ∷ []) 110 (in_end_name o no_digit (λ h. absurd (omega arith))))

module _ {l : ℕ} {ls a w : List ℕ} (v c : ℕ) (o : Open (l ∷ ls) a) (n : Name v w) where
  led_5_digit : is_digit c ≡ true → leads (further v c) l ≡ true → Led 5 v (l ∷ ls) c (a ++ ((60 ∷ 47 ∷ 110 ∷ w) ++ (c ∷ [])))
  led_5_digit d r = led_digit v c d (in_end_name o (name-further c n d (leads_some (further v c) l r)) (λ h. r))

  led_5_greater : w ≡ decimal l → c ≡ 62 → Led 5 v (l ∷ ls) c (a ++ ((60 ∷ 47 ∷ 110 ∷ w) ++ (c ∷ [])))
  unfolding stage_on number_on open_on is_digit end_tag element_name
  led_5_greater e k = rw (k, e) (shut v o)

  led_5 : ends_on v l c ≡ true → Led 5 v (l ∷ ls) c ((a ++ (60 ∷ 47 ∷ 110 ∷ w)) ++ (c ∷ []))
  unfolding ends_on
  led_5 e = longer a (60 ∷ 47 ∷ 110 ∷ w) c (go (is_digit c) refl e)
    where
      go : (d : Bool) → is_digit c ≡ d → cond d (leads (further v c) l) (eqb c 62 && (ltb 0 v && eqb v l)) ≡ true
          → Led 5 v (l ∷ ls) c (a ++ ((60 ∷ 47 ∷ 110 ∷ w) ++ (c ∷ [])))
      go true d r = led_5_digit d r
      go false d r =
          both (eqb c 62) (ltb 0 v && eqb v l) r
          (λ k r. both (ltb 0 v) (eqb v l) r
          (λ s m. led_5_greater (name_some n (ltb-true 0 v s) ∙ ap decimal (eqb-true v l m)) (eqb-true c 62 k)))

led_6 : {l : ℕ} {ls a : List ℕ} (v c : ℕ) → Open (l ∷ ls) a → (eqb c 60 && ltb 0 (suc (length ls))) ≡ true → Led 6 v (l ∷ ls) c (a ++ (c ∷ []))
unfolding stage_on number_on open_on is_digit
led_6 {l} {ls} v c o e = both (eqb c 60) (ltb 0 (suc (length ls))) e (λ h k. rw (eqb-true c 60 h) (behind_less o))

led_root : {s : List ℕ} (v c : ℕ) → (eqb c 60 && ltb 0 0) ≡ true → Led 6 v [] c s
led_root v c e = both (eqb c 60) (ltb 0 0) e (λ h k. absurd (false≢true k))

-- a byte that goes on, at any stage
led : {q v : ℕ} {ls s : List ℕ} (c : ℕ) → Stands q v ls s → fits q v (get_or ls 0 0) (length ls) c ≡ true → Led q v ls c (s ++ (c ∷ []))
unfolding fits
led c (before_root {v}) e = led_0 v c e
led c (behind_less {v} o) e = led_1 v c o e
led c (in_name {v} o n b) e = led_2 v c o n b e
led c (behind_slash {v} o r) e = led_3 v c o r e
led c (in_end {v} o) e = led_4 v c o e
led c (in_end_name {v} o n b) e = led_5 v c o n e
led c (behind_tag {v} o) e = led_6 v c o e
led c (behind_root {v} x h) e = led_root v c e
led c nowhere e = absurd (false≢true e)

-- the scan keeps it, from one byte to the next
abbrev pub At : Stand → List ℕ → Type 0
At x s = Stands x.stage x.number x.opened s

at_next : (x : Stand) (s : List ℕ) (c : ℕ) → At x s → At (next x c) (s ++ (c ∷ []))
unfolding next goes
at_next x s c h = go (fits x.stage x.number (get_or x.opened 0 0) (length x.opened) c) (led c h)
  where
    go : (b : Bool) → (b ≡ true → Led x.stage x.number x.opened c (s ++ (c ∷ [])))
        → At (cond b (stand (stage_on x.stage c) (number_on x.number c) (open_on x.stage x.number c x.opened)) lost) (s ++ (c ∷ []))
    go true k = k refl
    go false k = nowhere

at_scanned : (x : Stand) (s t : List ℕ) → At x s → At (scanned next x t) (s ++ t)
unfolding scanned
at_scanned x s [] h = rw (append-nil s) h
at_scanned x s (c ∷ t) h = rw (append_snoc s c t) at (at_scanned (next x c) (s ++ (c ∷ [])) t (at_next x s c h))

pub at_standing : (s : List ℕ) → At (standing s) s
unfolding standing
at_standing s = at_scanned (stand 0 0 []) [] s before_root
