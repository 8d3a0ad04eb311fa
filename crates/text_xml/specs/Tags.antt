-- The text of a tree: element n and the label in decimal; children in rising node number, each written the same way with its own children inside it.
use Rattle.std.specs.Prelude.{ℕ, zero, suc, ◌+◌, ◌-◌, ◌*◌, Bool, ◌&&◌, List, [], ◌∷◌, ◌++◌, eqb, ltb, length}
use Rattle.tables.specs.Words.{nodes, parent, tag}
use Rattle.selection.specs.Lists.{rising}
use Rattle.text_xml.specs.Decimal.{decimal}

-- n and the label; of the bytes here and below 110 is `n`, 60 `<`, 47 `/`, 62 `>`
unfoldable pub element_name : ℕ → List ℕ
element_name l = 110 ∷ decimal l

-- `<n1/>`
unfoldable pub short_tag : ℕ → List ℕ
short_tag l = 60 ∷ element_name l ++ (47 ∷ 62 ∷ [])

-- `<n1>`
unfoldable pub start_tag : ℕ → List ℕ
start_tag l = 60 ∷ element_name l ++ (62 ∷ [])

-- `</n1>`
unfoldable pub end_tag : ℕ → List ℕ
end_tag l = 60 ∷ 47 ∷ element_name l ++ (62 ∷ [])

-- c is a child of v
unfoldable pub child_of : List ℕ → ℕ → ℕ → Bool
child_of t v c = ltb 0 c && eqb (parent t c) v

-- the children of v, in rising node number
unfoldable pub children : List ℕ → ℕ → List ℕ
children t v = rising (child_of t v) (nodes t)

-- what these nodes are written as, one behind the other
unfoldable pub in_turn : (ℕ → List ℕ) → List ℕ → List ℕ
in_turn text [] = []
in_turn text (c ∷ cs) = text c ++ in_turn text cs

-- a node with this label and these children: the short tag where there are none, otherwise start tag, the children, end tag
unfoldable pub element_of : ℕ → (ℕ → List ℕ) → List ℕ → List ℕ
element_of l text [] = short_tag l
element_of l text (c ∷ cs) = start_tag l ++ in_turn text (c ∷ cs) ++ end_tag l

-- v with what is below it, at most n levels of nodes
unfoldable pub tags_in : List ℕ → ℕ → ℕ → List ℕ
tags_in t zero v = []
tags_in t (suc n) v = element_of (tag t v) (tags_in t n) (children t v)

-- v with all that is below it: parents fall, so v and what is below it have no more levels than there are nodes from v on
unfoldable pub tags_of : List ℕ → ℕ → List ℕ
tags_of t v = tags_in t (nodes t - v) v

-- the text of a tree is that of its root
unfoldable pub tree_text : List ℕ → List ℕ
tree_text t = tags_of t 0

-- how many bytes a node with these children takes by itself: `<n1/>`, or `<n1>` and `</n1>`
unfoldable pub own_bytes : ℕ → List ℕ → ℕ
own_bytes l [] = 4 + length (decimal l)
own_bytes l (c ∷ cs) = 7 + 2 * length (decimal l)

-- f 0 and f 1 and so on, n of them, added up
unfoldable pub sum_to : (ℕ → ℕ) → ℕ → ℕ
sum_to f zero = 0
sum_to f (suc n) = sum_to f n + f n

-- how many bytes a tree takes: every node by itself, added up
unfoldable pub tree_bytes : List ℕ → ℕ
tree_bytes t = sum_to (λ v. own_bytes (tag t v) (children t v)) (nodes t)
