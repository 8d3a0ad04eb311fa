-- Inside: landing and reaching computed over the labels of a way, and what the functions of the plain reading ask of each other.
use Rattle.std.specs.Prelude.{ℕ, zero, suc, ◌<◌, ◌≤◌, Bool, false, ◌&&◌, ◌||◌, List, [], ◌∷◌, length}
use Rattle.tables.specs.Words.{steps, nodes, parent}
use Rattle.selection.specs.Ways.{up, empty, runs, takes, stays}

-- a step lands at the nearest label of a way: it takes the label, and the step before it runs over the rest, the first step only at the root
unfoldable pub landed : (ℕ → ℕ → Bool) → (ℕ → Bool) → ℕ → List ℕ → Bool
landed take stay i [] = false
landed take stay zero (l ∷ w) = take 0 l && empty w
landed take stay (suc i) (l ∷ w) = take (suc i) l && runs take stay i w

-- a step is reached from somewhere above: it landed at a label further on
unfoldable pub reached : (ℕ → ℕ → Bool) → (ℕ → Bool) → ℕ → List ℕ → Bool
reached take stay i [] = false
reached take stay i (l ∷ w) = landed take stay i w || reached take stay i w

-- step i of p lands on node v of t, and reaches it from above
unfoldable pub lands_on : List ℕ → List ℕ → ℕ → ℕ → Bool
lands_on p t i v = landed (takes p) (stays p false) i (up t v)

unfoldable pub reaches_to : List ℕ → List ℕ → ℕ → ℕ → Bool
reaches_to p t i v = reached (takes p) (stays p false) i (up t v)

-- what landing and reaching ask of their caller: a step of p, a node of t, and parents that fall
pub record Asked (p t : List ℕ) (i v : ℕ) : Type 0 where
  pub step : i < steps p
  pub node : v < nodes t
  pub falls : (u : ℕ) → 0 < u → u < nodes t → parent t u < u

-- what filling the row asks of its caller
pub record Readable (p t row : List ℕ) : Type 0 where
  pub some : 0 < steps p
  pub falls : (u : ℕ) → 0 < u → u < nodes t → parent t u < u
  pub room : nodes t ≤ length row
