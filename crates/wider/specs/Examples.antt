-- Pairs with no conflict, not even a deep one, of which a wider pair has one: a is label 1, b 2, c 3, d 4.
use Rattle.std.specs.Prelude.{ℕ, List, [], ◌∷◌}
use Rattle.conflict.specs.Conflict.{Update, Conflict, Deep}
use Rattle.wider.specs.Wider.{Widened}

pub record OnlyWider (r : List ℕ) (u : Update) (s : List ℕ) (v : Update) : Type 0 where
  pub widened : Widened r u s v
  pub none : Deep r u → ⊥
  pub some : Conflict s v

abbrev pub a : List ℕ
a = 0 ∷ 1 ∷ []

abbrev pub a/b : List ℕ
a/b = 0 ∷ 1 ∷ 1 ∷ 2 ∷ []

abbrev pub a/c : List ℕ
a/c = 0 ∷ 1 ∷ 1 ∷ 3 ∷ []

abbrev pub a//c : List ℕ
a//c = 0 ∷ 1 ∷ 2 ∷ 3 ∷ []

abbrev pub a//d : List ℕ
a//d = 0 ∷ 1 ∷ 2 ∷ 4 ∷ []

-- a, and any child of it
abbrev pub a/any : List ℕ
a/any = 0 ∷ 1 ∷ 1 ∷ 0 ∷ []

-- the tree of one node c, and the same with d below it
abbrev pub c_alone : List ℕ
c_alone = 0 ∷ 3 ∷ []

abbrev pub c_and_d : List ℕ
c_and_d = 0 ∷ 3 ∷ 0 ∷ 4 ∷ []
