-- Inside: whether a text is right, and its longest start that some right text has, from one byte to the next. proofs/Scanning.antt holds this against RightTags
-- and Longest. Of the bytes 110 is `n`, 60 `<`, 47 `/`, 62 `>`.
use Rattle.std.specs.Prelude.{ℕ, suc, ◌+◌, ◌-◌, ◌*◌, ◌/◌, Bool, false, ◌&&◌, ◌||◌, cond, List, [], ◌∷◌, eqb, ltb, leb, length, get_or}
use Rattle.text_parts.specs.Scans.{scanned, lasting}
use Rattle.text_xml_form.specs.Elements.{label_right}

-- where a text stands. Stages: 0 before the root's tag, 1 behind `<`, 2 in the name of a start tag or short tag, 3 behind the slash of a short tag,
-- 4 behind `</`, 5 in the name of an end tag, 6 behind a tag, 7 where no right text begins so. The number that the last name has so far; the labels of
-- the open elements, the innermost first.
pub record Stand : Type 0 where
  pub stage : ℕ
  pub number : ℕ
  pub opened : List ℕ

abbrev pub stand : ℕ → ℕ → List ℕ → Stand
stand q v ls = record { stage = q; number = v; opened = ls }

-- a digit
unfoldable pub is_digit : ℕ → Bool
is_digit c = leb 48 c && leb c 57

-- a number with a digit behind it
unfoldable pub further : ℕ → ℕ → ℕ
further v c = 10 * v + (c - 48)

-- the digits of w are those that a label l begins with
unfoldable pub leads : ℕ → ℕ → Bool
leads w l = ltb 0 w && (eqb w l || (eqb w (l / 10) || (eqb w (l / 100) || (eqb w (l / 1000) || eqb w (l / 10000)))))

-- c goes on in the name of a start tag or short tag, or ends it: no zero stands first, and no label is past 65,535
unfoldable pub goes_further : ℕ → ℕ → Bool
goes_further v c = cond (is_digit c) (label_right (further v c)) ((eqb c 62 || eqb c 47) && ltb 0 v)

-- c goes on in the name of the end tag of label l, or ends it
unfoldable pub ends_on : ℕ → ℕ → ℕ → Bool
ends_on v l c = cond (is_digit c) (leads (further v c) l) (eqb c 62 && (ltb 0 v && eqb v l))

-- c goes on, at this stage and number, with d open elements, the innermost of this label
unfoldable pub fits : ℕ → ℕ → ℕ → ℕ → ℕ → Bool
fits q v l d c =
    cond (eqb q 0) (eqb c 60)
    (cond (eqb q 1) (eqb c 110 || (eqb c 47 && ltb 0 d))
    (cond (eqb q 2) (goes_further v c)
    (cond (eqb q 3) (eqb c 62)
    (cond (eqb q 4) (eqb c 110)
    (cond (eqb q 5) (ends_on v l c)
    (cond (eqb q 6) (eqb c 60 && ltb 0 d) false))))))

-- the stage behind a byte that goes on
unfoldable pub stage_on : ℕ → ℕ → ℕ
stage_on q c =
    cond (eqb c 62) 6
    (cond (eqb c 60) 1
    (cond (eqb c 47) (cond (eqb q 1) 4 3)
    (cond (eqb c 110) (cond (eqb q 1) 2 5) q)))

-- the number behind it: a name begins with none
unfoldable pub number_on : ℕ → ℕ → ℕ
number_on v c = cond (eqb c 110) 0 (cond (is_digit c) (further v c) v)

-- all but the innermost
abbrev pub outer : List ℕ → List ℕ
outer [] = []
outer (l ∷ ls) = ls

-- the open elements behind it: `>` ends a start tag, which opens one, or an end tag, which closes one
unfoldable pub open_on : ℕ → ℕ → ℕ → List ℕ → List ℕ
open_on q v c ls = cond (eqb c 62) (cond (eqb q 2) (v ∷ ls) (cond (eqb q 5) (outer ls) ls)) ls

-- how many there are
unfoldable pub depth_on : ℕ → ℕ → ℕ → ℕ
depth_on q c d = cond (eqb c 62) (cond (eqb q 2) (suc d) (cond (eqb q 5) (d - 1) d)) d

-- where no right text begins so
abbrev pub lost : Stand
lost = stand 7 0 []

unfoldable pub goes : Stand → ℕ → Bool
goes x c = fits x.stage x.number (get_or x.opened 0 0) (length x.opened) c

unfoldable pub next : Stand → ℕ → Stand
next x c = cond (goes x c) (stand (stage_on x.stage c) (number_on x.number c) (open_on x.stage x.number c x.opened)) lost

-- some right text begins so
unfoldable pub on : Stand → Bool
on x = ltb x.stage 7

-- a right text may end here: behind a tag, and no element is open
unfoldable pub ends : Stand → Bool
ends x = eqb x.stage 6 && eqb (length x.opened) 0

-- where a text stands behind s
unfoldable pub standing : List ℕ → Stand
standing s = scanned next (stand 0 0 []) s

-- s is a right text
unfoldable pub right_tags : List ℕ → Bool
right_tags s = ends (standing s)

-- the length of the longest start of s that some right text has
unfoldable pub longest_tags : List ℕ → ℕ
longest_tags s = lasting next on (stand 0 0 []) s
