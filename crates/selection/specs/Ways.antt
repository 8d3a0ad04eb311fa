-- Inside: selection computed, as a run of the pattern over the labels from a node up to the root. On sound documents it is selection by embeddings.
use Rattle.std.specs.Prelude.{ℕ, zero, suc, pred, Bool, true, false, ◌&&◌, ◌||◌, cond, List, [], ◌∷◌, eqb, ltb}
use Rattle.tables.specs.Words.{steps, axis, label, parent, tag}
use Rattle.tables.specs.Documents.{Doc, present}

-- the labels from v up to the root, v's own first; at most n of them
unfoldable pub ups : List ℕ → ℕ → ℕ → List ℕ
ups t zero v = []
ups t (suc n) zero = tag t 0 ∷ []
ups t (suc n) (suc v) = tag t (suc v) ∷ ups t n (parent t (suc v))

-- parents fall, so a node has no more nodes above it than its number
unfoldable pub up : List ℕ → ℕ → List ℕ
up t v = ups t (suc v) v

abbrev pub empty : List ℕ → Bool
empty [] = true
empty (l ∷ w) = false

-- A run over a way, nearest label first. Its state is the number of the last step that landed: the step takes the label and the
-- step before it runs on over the rest, the first step only at the root; or, where the state may stay, the label is passed over.
unfoldable pub runs : (ℕ → ℕ → Bool) → (ℕ → Bool) → ℕ → List ℕ → Bool
runs take stay i [] = false
runs take stay zero (l ∷ w) = (take 0 l && empty w) || (stay 0 && runs take stay 0 w)
runs take stay (suc i) (l ∷ w) = (take (suc i) l && runs take stay i w) || (stay (suc i) && runs take stay (suc i) w)

-- a step takes a label: a wildcard any, a name its own
abbrev pub takes : List ℕ → ℕ → ℕ → Bool
takes p i l = eqb (label p i) 0 || eqb (label p i) l

-- a state may stay where the next axis is descendant; after the last step, where anything below it counts too
abbrev pub stays : List ℕ → Bool → ℕ → Bool
stays p below i = cond (ltb (suc i) (steps p)) (eqb (axis p (suc i)) 2) below

abbrev pub last : List ℕ → ℕ
last p = pred (steps p)

unfoldable pub run : List ℕ → Bool → ℕ → List ℕ → Bool
run p below i w = runs (takes p) (stays p below) i w

-- p selects at the end of this way
abbrev pub sel : List ℕ → List ℕ → Bool
sel p w = run p false (last p) w

-- p selects v in d
unfoldable pub selected : List ℕ → Doc → ℕ → Bool
selected p d v = present d v && sel p (up d.rows v)
