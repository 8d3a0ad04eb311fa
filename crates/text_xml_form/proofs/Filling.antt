-- The rows that are filled in from one byte to the next are those of the tree; and how many there are.
use Prim.Native.Nat.{ℕ, suc, ◌+◌, ◌*◌, ◌/◌, ◌%◌, ◌<◌}
use mathlib.Core.Path.{◌≡◌, refl, sym, ap, ◌∙◌}
use mathlib.Core.Bool.{Bool, true, false, cond}
use mathlib.Core.List.{List, [], ◌∷◌, ◌++◌, append_assoc, append-nil}
use native.Mathlib.Omega.{arith}
use lib.Dec.{eqb}
use lib.ListN.{length, length-append}
use lib.Seq.{get_or_at}
use borrow.Author.Tests.{ne_eqb}
use Rattle.tables.specs.Words.{nodes, parent}
use Rattle.text_xml.specs.Decimal.{decimal}
use Rattle.text_xml.specs.Tags.{element_name, short_tag, start_tag, end_tag}
use Rattle.text_xml.proofs.Decimal.{by_digits}
use Rattle.text_xml_form.specs.Elements.{Elements, none, short, pair, written, size, rows_in, tree_of}
use Rattle.text_xml_form.specs.Scan.{is_digit, further, stage_on, number_on}
use Rattle.text_xml_form.specs.Rows.{has_row, row_on, node_on, rows_from, rows_of, slashes}
use Rattle.text_xml_form.proofs.Names.{to_digit, further-last, further_first}
use Rattle.text_xml_form.proofs.Steps.{digit_stage, digit_number}
use Rattle.text_xml_form.proofs.Passing.{last_of}

-- two words for each element
pub length_rows : (v n : ℕ) (e : Elements) → length (rows_in v n e) ≡ 2 * size e
unfolding rows_in size
length_rows v n none = refl
length_rows v n (short l more) = omega (arith, length_rows v (suc n) more)
length_rows v n (pair l inside more) =
    let inner : (v n : ℕ) → length (rows_in v n inside) ≡ 2 * size inside = λ v n. length_rows v n inside in
    let behind : (v n : ℕ) → length (rows_in v n more) ≡ 2 * size more = λ v n. length_rows v n more in
    rw (length-append, inner, behind) (omega arith)

-- a digit adds to the number alone
rows_digit : (q v w d u : ℕ) (rows s : List ℕ) → d < 10 → further v (48 + d) ≡ w → rows_from q v u rows ((48 + d) ∷ s) ≡ rows_from q w u rows s
unfolding rows_from has_row row_on node_on
rows_digit q v w d u rows s h e =
    let c = to_digit d h in
    rw (digit_stage (48 + d) c q, digit_number (48 + d) c v, e, ne_eqb (48 + d) 62 (λ e. omega arith))

rows_digits : (q u : ℕ) (rows : List ℕ) (n : ℕ) (s : List ℕ) → rows_from q 0 u rows (decimal n ++ s) ≡ rows_from q n u rows s
rows_digits q u rows =
    by_digits (λ n w. (s : List ℕ) → rows_from q 0 u rows (w ++ s) ≡ rows_from q n u rows s)
    (λ n h s. rows_digit q 0 n n u rows s h (further_first n))
    (λ n w h tenth s.
    ap (rows_from q 0 u rows) (append_assoc w ((48 + n % 10) ∷ []) s)
    ∙ tenth ((48 + n % 10) ∷ s)
    ∙ rows_digit q (n / 10) n (n % 10) u rows s (omega arith) (further-last n))

-- the rows behind a tag
module _ (v u : ℕ) (rows : List ℕ) (l : ℕ) (s : List ℕ) where
  rows_short : rows_from 6 v u rows (short_tag l ++ s) ≡ rows_from 6 l u (rows ++ (u ∷ l ∷ [])) s
  unfolding rows_from has_row row_on node_on stage_on number_on is_digit short_tag element_name
  rows_short = ap (rows_from 2 0 u rows) (append_assoc (decimal l) (47 ∷ 62 ∷ []) s) ∙ rows_digits 2 u rows l (47 ∷ 62 ∷ s)

  rows_start : rows_from 6 v u rows (start_tag l ++ s) ≡ rows_from 6 l (nodes rows) (rows ++ (u ∷ l ∷ [])) s
  unfolding rows_from has_row row_on node_on stage_on number_on is_digit start_tag element_name
  rows_start = ap (rows_from 2 0 u rows) (append_assoc (decimal l) (62 ∷ []) s) ∙ rows_digits 2 u rows l (62 ∷ s)

  rows_end : rows_from 6 v u rows (end_tag l ++ s) ≡ rows_from 6 l (parent rows u) rows s
  unfolding rows_from has_row row_on node_on stage_on number_on is_digit end_tag element_name
  rows_end = ap (rows_from 5 0 u rows) (append_assoc (decimal l) (62 ∷ []) s) ∙ rows_digits 5 u rows l (62 ∷ s)

-- the rows of n nodes, and one more
module _ (rows : List ℕ) (u l n : ℕ) (h : length rows ≡ 2 * n) where
  pub length_row : length (rows ++ (u ∷ l ∷ [])) ≡ 2 * suc n
  length_row = rw (length-append rows (u ∷ l ∷ [])) (omega arith)

  -- with those of the elements inside it
  module _ (f : Elements) where
    abbrev filled : List ℕ
    filled = (rows ++ (u ∷ l ∷ [])) ++ rows_in n (suc n) f

    length-filled : length filled ≡ 2 * (suc n + size f)
    length-filled = rw (length-append (rows ++ (u ∷ l ∷ [])) (rows_in n (suc n) f)) (omega (arith, length_row, length_rows n (suc n) f))

    -- where its parent stands
    filled-parent : parent filled n ≡ u
    filled-parent = rw (append_assoc rows (u ∷ l ∷ []) (rows_in n (suc n) f)) (get_or_at rows u (l ∷ rows_in n (suc n) f) 0 (2 * n) h)

-- the rows of elements, behind those of n nodes
rows_in_lem : (e : Elements) (v u n : ℕ) (rows s : List ℕ) → length rows ≡ 2 * n
    → rows_from 6 v u rows (written e ++ s) ≡ rows_from 6 (last_of v e) u (rows ++ rows_in u n e) s
unfolding written last_of rows_in
rows_in_lem none v u n rows s h = rw (append-nil rows)
rows_in_lem (short l more) v u n rows s h =
    ap (rows_from 6 v u rows) (append_assoc (short_tag l) (written more) s)
    ∙ rows_short v u rows l (written more ++ s)
    ∙ rows_in_lem more l u (suc n) (rows ++ (u ∷ l ∷ [])) s (length_row rows u l n h)
    ∙ ap (λ r. rows_from 6 (last_of l more) u r s) (append_assoc rows (u ∷ l ∷ []) (rows_in u (suc n) more))
rows_in_lem (pair l f more) v u n rows s h =
    let own = rows ++ (u ∷ l ∷ []) in
    let r = filled rows u l n h f in
    let same : (start_tag l ++ (written f ++ (end_tag l ++ written more))) ++ s ≡ start_tag l ++ (written f ++ (end_tag l ++ (written more ++ s))) = simp append_assoc in
    let here : nodes rows ≡ n = omega arith in
    ap (rows_from 6 v u rows) same
    ∙ rows_start v u rows l (written f ++ (end_tag l ++ (written more ++ s)))
    ∙ ap (λ k. rows_from 6 l k own (written f ++ (end_tag l ++ (written more ++ s)))) here
    ∙ rows_in_lem f l n (suc n) own (end_tag l ++ (written more ++ s)) (length_row rows u l n h)
    ∙ rows_end (last_of l f) n r l (written more ++ s)
    ∙ ap (λ k. rows_from 6 l k r (written more ++ s)) (filled-parent rows u l n h f)
    ∙ rows_in_lem more l u (suc n + size f) r s (length-filled rows u l n h f)
    ∙ ap (λ x. rows_from 6 (last_of l more) u x s) (simp append_assoc)

-- before the root's tag is as behind a tag
rows_first : (e : Elements) → rows_from 0 0 0 [] (written e) ≡ rows_from 6 0 0 [] (written e)
unfolding written short_tag start_tag rows_from has_row row_on node_on stage_on number_on is_digit
rows_first none = refl
rows_first (short l more) = refl
rows_first (pair l f more) = refl

pub rows_tree : (e : Elements) → rows_of (written e) ≡ tree_of e
unfolding rows_of tree_of rows_from
rows_tree e =
    rows_first e
    ∙ ap (rows_from 6 0 0 []) (sym (append-nil (written e)))
    ∙ rows_in_lem e 0 0 0 [] [] refl

-- a slash for each element
slashes_none : slashes [] ≡ 0
unfolding slashes
slashes_none = refl

slashes-append : (a b : List ℕ) → slashes (a ++ b) ≡ slashes a + slashes b
unfolding slashes
slashes-append [] b = omega arith
slashes-append (c ∷ a) b = go (eqb c 47) (slashes-append a b)
  where
    go : (t : Bool) → slashes (a ++ b) ≡ slashes a + slashes b
        → cond t (suc (slashes (a ++ b))) (slashes (a ++ b)) ≡ cond t (suc (slashes a)) (slashes a) + slashes b
    go true h = omega arith
    go false h = h

slashes_digit : (d : ℕ) → slashes ((48 + d) ∷ []) ≡ 0
unfolding slashes
slashes_digit d = rw (ne_eqb (48 + d) 47 (λ e. omega arith))

slashes-decimal : (n : ℕ) → slashes (decimal n) ≡ 0
slashes-decimal =
    by_digits (λ n s. slashes s ≡ 0) (λ n h. slashes_digit n)
    (λ n s h tenth. slashes-append s ((48 + n % 10) ∷ []) ∙ omega (arith, tenth, slashes_digit (n % 10)))

slashes_short : (l : ℕ) → slashes (short_tag l) ≡ 1
unfolding slashes short_tag element_name
slashes_short l = slashes-append (decimal l) (47 ∷ 62 ∷ []) ∙ rw (slashes-decimal l)

slashes_start : (l : ℕ) → slashes (start_tag l) ≡ 0
unfolding slashes start_tag element_name
slashes_start l = slashes-append (decimal l) (62 ∷ []) ∙ rw (slashes-decimal l)

slashes_end : (l : ℕ) → slashes (end_tag l) ≡ 1
unfolding slashes end_tag element_name
slashes_end l = ap suc (slashes-append (decimal l) (62 ∷ []) ∙ rw (slashes-decimal l))

pub slashes-size : (e : Elements) → slashes (written e) ≡ size e
unfolding written size
slashes-size none = slashes_none
slashes-size (short l more) = slashes-append (short_tag l) (written more) ∙ omega (arith, slashes_short l, slashes-size more)
slashes-size (pair l f more) =
    slashes-append (start_tag l) (written f ++ (end_tag l ++ written more))
    ∙ omega (arith, slashes_start l, slashes-append (written f) (end_tag l ++ written more), slashes-append (end_tag l) (written more), slashes_end l, slashes-size f, slashes-size more)
