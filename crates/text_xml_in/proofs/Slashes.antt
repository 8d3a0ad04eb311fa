-- The slashes of a text: as far as they are counted, and that a right text has one for each row.
use Prim.Native.Nat.{ℕ, suc, ◌+◌, ◌*◌, ◌<◌, ◌≤◌}
use mathlib.Core.Path.{◌≡◌, refl, ap, ◌∙◌}
use mathlib.Core.Bool.{Bool, true, false, cond}
use mathlib.Core.List.{List, ◌∷◌}
use native.Mathlib.Numerals.{add-one}
use native.Mathlib.Omega.{arith}
use lib.Dec.{eqb}
use lib.ListN.{length, get_or, drop, drop_of_length-le}
use lib.Seq.{drop-cons}
use mir.Val.{bool_byte}
use Rattle.text_xml_form.specs.Elements.{tree_of}
use Rattle.text_xml_form.specs.Scan.{right_tags}
use Rattle.text_xml_form.specs.Rows.{rows_of, slashes}
use Rattle.text_xml_form.proofs.Scanning.{scan_right}
use Rattle.text_xml_form.proofs.Filling.{length_rows, rows_tree, slashes-size}

slashes_first : (c : ℕ) (s : List ℕ) → slashes (c ∷ s) ≡ cond (eqb c 47) 1 0 + slashes s
unfolding slashes
slashes_first c s = go (eqb c 47)
  where
    go : (b : Bool) → cond b (suc (slashes s)) (slashes s) ≡ cond b 1 0 + slashes s
    go true = omega arith
    go false = omega arith

-- a slash counts one
slash-one : (t : Bool) → bool_byte t ≡ cond t 1 0
slash-one true = refl
slash-one false = refl

-- the text before i has k slashes
pub record Counted (s : List ℕ) (i k : ℕ) : Type 0 where
  pub within : i ≤ length s
  pub few : k ≤ i
  pub left : k + slashes (drop i s) ≡ slashes s

pub counted_start : (s : List ℕ) → Counted s 0 0
counted_start s = record { within = omega arith; few = omega arith; left = omega arith }

module _ {s : List ℕ} {i k : ℕ} (at : Counted s i k) where
  module _ (h : i < length s) {c b : ℕ} (is : c ≡ get_or s i 0) (one : b ≡ bool_byte (eqb c 47)) where
    slash-worth : b ≡ cond (eqb c 47) 1 0
    slash-worth = one ∙ slash-one (eqb c 47)

    slash-small : b ≤ 1
    slash-small = rw slash-worth (go (eqb c 47))
      where
        go : (t : Bool) → cond t 1 0 ≤ 1
        go true = omega arith
        go false = omega arith

    pub counted-fits : k + b ≤ length s
    counted-fits = omega (arith, at.few, slash-small)

    pub counted_next : Counted s (i + 1) (k + b)
    counted_next =
        let rest : slashes (drop i s) ≡ b + slashes (drop (suc i) s) = ap slashes (drop-cons s i 0 h) ∙ slashes_first (get_or s i 0) (drop (suc i) s) ∙ rw (slash-worth, is) in
        rw add-one
        (record {
          within = h;
          few = omega (arith, at.few, slash-small);
          left = omega (arith, at.left, rest);
        })

  pub counted_end : length s ≤ i → k ≡ slashes s
  unfolding slashes
  counted_end h =
      let rest : slashes (drop i s) ≡ 0 = ap slashes (drop_of_length-le s {i = i} h) in
      omega (arith, at.left, rest)

-- a right text has as many slashes as its tree has nodes
pub rows_slashes : (s : List ℕ) → right_tags s ≡ true → length (rows_of s) ≡ 2 * slashes s
unfolding tree_of
rows_slashes s e =
    let r = scan_right s e in
    rw (r.spelled, rows_tree r.root, slashes-size r.root) (length_rows 0 0 r.root)
