-- Trees as tags, as they are read: exactly the shape that they are written in, but that a pair may be empty; and the tree that they mean.
-- This is about the form alone: the limit of nodes does not enter.
use Rattle.std.specs.Prelude.{ℕ, suc, ◌+◌, ◌≡◌, Bool, true, ◌&&◌, List, [], ◌∷◌, ◌++◌, ltb}
use Rattle.tables.specs.Limits.{word_limit}
use Rattle.text_xml.specs.Tags.{short_tag, start_tag, end_tag}

-- elements that stand one behind the other: none; `<n1/>` and more; `<n1>`, what stands inside, `</n1>` and more
pub data Elements : Type 0 where
  none : Elements
  short : ℕ → Elements → Elements
  pair : ℕ → Elements → Elements → Elements

-- their text
unfoldable pub written : Elements → List ℕ
written none = []
written (short l more) = short_tag l ++ written more
written (pair l inside more) = start_tag l ++ (written inside ++ (end_tag l ++ written more))

-- a label is 1 to 65,535
unfoldable pub label_right : ℕ → Bool
label_right l = ltb 0 l && ltb l word_limit

-- all labels are
unfoldable pub labels_right : Elements → Bool
labels_right none = true
labels_right (short l more) = label_right l && labels_right more
labels_right (pair l inside more) = label_right l && (labels_right inside && labels_right more)

-- how many stand one behind the other
unfoldable pub abreast : Elements → ℕ
abreast none = 0
abreast (short l more) = suc (abreast more)
abreast (pair l inside more) = suc (abreast more)

-- s is a right text: one element, the root, and nothing behind it
pub record RightTags (s : List ℕ) : Type 0 where
  pub root : Elements
  pub one : abreast root ≡ 1
  pub labels : labels_right root ≡ true
  pub spelled : s ≡ written root

-- how many elements there are, with those inside
unfoldable pub size : Elements → ℕ
size none = 0
size (short l more) = suc (size more)
size (pair l inside more) = suc (size inside + size more)

-- the rows of elements inside node v, parent and label, numbered from n on in the order of their start tags
unfoldable pub rows_in : ℕ → ℕ → Elements → List ℕ
rows_in v n none = []
rows_in v n (short l more) = v ∷ l ∷ rows_in v (suc n) more
rows_in v n (pair l inside more) = v ∷ l ∷ (rows_in n (suc n) inside ++ rows_in v (suc n + size inside) more)

-- the tree that they mean; the root's parent word is 0
unfoldable pub tree_of : Elements → List ℕ
tree_of root = rows_in 0 0 root

-- an element with this inside: `<n1></n1>` as `<n1/>`
abbrev pub element : ℕ → Elements → Elements → Elements
element l none more = short l more
element l (short k others) more = pair l (short k others) more
element l (pair k inside others) more = pair l (pair k inside others) more

-- with empty pairs shortened
unfoldable pub shortened : Elements → Elements
shortened none = none
shortened (short l more) = short l (shortened more)
shortened (pair l inside more) = element l (shortened inside) (shortened more)
