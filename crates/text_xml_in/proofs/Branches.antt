-- The branches of the code on one byte of a text, held against the definitions.
use Prim.Native.Nat.{ℕ, ◌+◌, ◌-◌, ◌*◌, ◌<◌, ◌≤◌}
use mathlib.Core.Path.{◌≡◌}
use mathlib.Core.Bool.{Bool, true, false}
use native.Mathlib.Omega.{arith}
use mathlib.Core.List.{List}
use lib.ListN.{set}
use borrow.Author.Tests.{lt-ltb, le-ltb, le-leb, lt-leb, eq-eqb, ne_eqb}
use Rattle.tables.specs.Words.{parent}
use Rattle.text_xml_form.specs.Elements.{label_right}
use Rattle.text_xml_form.specs.Scan.{is_digit, further, leads, goes_further, ends_on, stage_on, number_on, depth_on}
use Rattle.text_xml_form.specs.Rows.{has_row}
use Rattle.text_xml_in.specs.Levels.{held_levels, held_at, noted, low_on}
use Rattle.text_xml_in.specs.Rows.{put_on, count_on, inside_on}

-- in the name of a start tag
module _ (v c : ℕ) {t : Bool} (is : t ≡ is_digit c) where
  pub goes_digit : t ≡ true → {w : ℕ} → w ≡ further v c → {r : Bool} → r ≡ label_right w → r ≡ goes_further v c
  unfolding goes_further
  goes_digit e p h = rw (← is, e, ← p) h

-- in the name of an end tag
module _ (v l c : ℕ) {t : Bool} (is : t ≡ is_digit c) where
  pub ends_digit : t ≡ true → {w : ℕ} → w ≡ further v c → {r : Bool} → r ≡ leads w l → r ≡ ends_on v l c
  unfolding ends_on
  ends_digit e p h = rw (← is, e, ← p) h

-- the stage behind a byte
module _ (q c : ℕ) where
  pub stage_end : c ≡ 62 → 6 ≡ stage_on q c
  unfolding stage_on
  stage_end e = rw e

  pub stage_begin : c ≡ 60 → 1 ≡ stage_on q c
  unfolding stage_on
  stage_begin e = rw e

  pub stage_close : c ≡ 47 → q ≡ 1 → 4 ≡ stage_on q c
  unfolding stage_on
  stage_close e k = rw (e, k)

  pub stage_short : c ≡ 47 → (q ≡ 1 → ⊥) → 3 ≡ stage_on q c
  unfolding stage_on
  stage_short e k = rw (e, ne_eqb q 1 k)

  pub stage_digit : (c ≡ 62 → ⊥) → (c ≡ 60 → ⊥) → (c ≡ 47 → ⊥) → (c ≡ 110 → ⊥) → q ≡ stage_on q c
  unfolding stage_on
  stage_digit a b d e = rw (ne_eqb c 62 a, ne_eqb c 60 b, ne_eqb c 47 d, ne_eqb c 110 e)

  pub stage-name : c ≡ 110 → q ≡ 1 → 2 ≡ stage_on q c
  unfolding stage_on
  stage-name e k = rw (e, k)

  pub stage_end_name : c ≡ 110 → (q ≡ 1 → ⊥) → 5 ≡ stage_on q c
  unfolding stage_on
  stage_end_name e k = rw (e, ne_eqb q 1 k)

-- the number behind a byte
module _ (v c : ℕ) where
  pub number-name : c ≡ 110 → 0 ≡ number_on v c
  unfolding number_on
  number-name e = rw e

  pub number_digit : (c ≡ 110 → ⊥) → {t : Bool} → t ≡ is_digit c → t ≡ true → {r : ℕ} → r ≡ further v c → r ≡ number_on v c
  unfolding number_on
  number_digit n is e h = rw (ne_eqb c 110 n, ← is, e) h

  pub number_same : (c ≡ 110 → ⊥) → {t : Bool} → t ≡ is_digit c → t ≡ false → v ≡ number_on v c
  unfolding number_on
  number_same n is e = rw (ne_eqb c 110 n, ← is, e)

-- how many elements are open behind a byte
module _ (q c d : ℕ) where
  pub depth_same : (c ≡ 62 → ⊥) → d ≡ depth_on q c d
  unfolding depth_on
  depth_same n = rw (ne_eqb c 62 n)

-- the row of levels
module _ (q v c d e : ℕ) (row : List ℕ) where
  pub note_other : (c ≡ 62 → ⊥) → row ≡ noted q v c d e row
  unfolding noted
  note_other n = rw (ne_eqb c 62 n)

  module _ (is : c ≡ 62) where
    pub note_end : (q ≡ 2 → ⊥) → row ≡ noted q v c d e row
    unfolding noted
    note_end n = rw (is, ne_eqb q 2 n)

    module _ (at : q ≡ 2) where
      pub note_deep : e ≤ d → row ≡ noted q v c d e row
      unfolding noted
      note_deep n = rw (is, at, le-ltb d e n)

      module _ (less : d < e) where
        pub note_far : held_levels < e - d → row ≡ noted q v c d e row
        unfolding noted
        note_far n = rw (is, at, lt-ltb d e less, lt-leb (e - d) held_levels n)

        pub note_here : e - d ≤ held_levels → set row (held_at d) v ≡ noted q v c d e row
        unfolding noted
        note_here n = rw (is, at, lt-ltb d e less, le-leb (e - d) held_levels n)

module _ (q d low : ℕ) where
  pub low_same : (q ≡ 2 → ⊥) → low ≡ low_on q d low
  unfolding low_on
  low_same n = rw (ne_eqb q 2 n)

  module _ (at : q ≡ 2) where
    pub low_full : d - low ≡ held_levels → low + 1 ≡ low_on q d low
    unfolding low_on
    low_full e = rw (at, eq-eqb (d - low) held_levels e) (omega arith)

    pub low_room : (d - low ≡ held_levels → ⊥) → low ≡ low_on q d low
    unfolding low_on
    low_room n = rw (at, ne_eqb (d - low) held_levels n)

-- rows
module _ (q v c u k : ℕ) (words : List ℕ) {b : Bool} (is : b ≡ has_row q c) where
  pub put_none : b ≡ false → (k ≡ count_on q c k) × (words ≡ put_on q v c u k words)
  unfolding count_on put_on
  put_none e = (rw (← is, e), rw (← is, e))

  pub put_one : b ≡ true → {after : List ℕ} → after ≡ set (set words (2 * k) u) (2 * k + 1) v → (k + 1 ≡ count_on q c k) × (after ≡ put_on q v c u k words)
  unfolding count_on put_on
  put_one e h = (rw (← is, e) (omega arith), rw (← is, e) h)

module _ (q c u k : ℕ) (words : List ℕ) where
  pub inside_same : (c ≡ 62 → ⊥) → u ≡ inside_on q c u k words
  unfolding inside_on
  inside_same n = rw (ne_eqb c 62 n)

  module _ (is : c ≡ 62) where
    pub inside_new : q ≡ 2 → k ≡ inside_on q c u k words
    unfolding inside_on
    inside_new e = rw (is, e)

    pub inside_outer : q ≡ 5 → {r : ℕ} → r ≡ parent words u → r ≡ inside_on q c u k words
    unfolding inside_on
    inside_outer e h = rw (is, e) h

    pub inside_short : (q ≡ 2 → ⊥) → (q ≡ 5 → ⊥) → u ≡ inside_on q c u k words
    unfolding inside_on
    inside_short a b = rw (is, ne_eqb q 2 a, ne_eqb q 5 b)
