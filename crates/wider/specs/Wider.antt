-- Wider patterns, inserted trees and updates, as document 02 has them in W-212: any number of changes at once, or none.
use Rattle.tables.specs.Checks.{Fine}
use Rattle.std.specs.Prelude.{ℕ, suc, ◌<◌, ◌≡◌, List, ◌++◌, ◌⊎◌, length}
use Rattle.tables.specs.Words.{steps, axis, label, Bits16}
use Rattle.conflict.specs.Conflict.{Update, delete, insert, UpdateBits}
use Rattle.check_verdict.specs.Order.{deep_check}

-- a label stays, or is made a wildcard
abbrev pub WiderLabel : ℕ → ℕ → Type 0
WiderLabel narrow wide = (wide ≡ narrow) ⊎ (wide ≡ 0)

-- an axis stays, or is made descendant where it is child
abbrev pub WiderAxis : ℕ → ℕ → Type 0
WiderAxis narrow wide = (wide ≡ narrow) ⊎ ((narrow ≡ 1) × (wide ≡ 2))

-- a pattern, step by step; the first axis stays
pub record WiderPattern (narrow wide : List ℕ) : Type 0 where
  pub long : length wide ≡ length narrow
  pub first : axis wide 0 ≡ axis narrow 0
  pub axes : (i : ℕ) → suc i < steps narrow → WiderAxis (axis narrow (suc i)) (axis wide (suc i))
  pub labels : (i : ℕ) → i < steps narrow → WiderLabel (label narrow i) (label wide i)

-- an inserted tree: the same words, and more behind
pub record WiderTree (narrow wide : List ℕ) : Type 0 where
  pub behind : List ℕ
  pub words : wide ≡ narrow ++ behind

-- an update of the same kind
pub data WiderUpdate : Update → Update → Type 0 where
  deletes : {p q : List ℕ} → WiderPattern p q → WiderUpdate (delete p) (delete q)
  inserts : {p q x y : List ℕ} → WiderPattern p q → WiderTree x y → WiderUpdate (insert p x) (insert q y)

-- a read and an update, s and v, are wider than r and u
pub record Wider (r : List ℕ) (u : Update) (s : List ℕ) (v : Update) : Type 0 where
  pub read : WiderPattern r s
  pub update : WiderUpdate u v

-- a read and an update that no verdict refuses, of words of 16 bits
pub record Accepted (r : List ℕ) (u : Update) : Type 0 where
  pub read_words : Bits16 r
  pub update_words : UpdateBits u
  pub fine : deep_check r u ≡ Fine

-- both pairs are accepted, and s and v are wider than r and u
pub record Widened (r : List ℕ) (u : Update) (s : List ℕ) (v : Update) : Type 0 where
  pub narrow : Accepted r u
  pub wide : Accepted s v
  pub wider : Wider r u s v
