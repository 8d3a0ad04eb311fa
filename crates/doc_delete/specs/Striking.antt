-- Inside: what striking a document asks and gives.
use Rattle.std.specs.Prelude.{ℕ, ◌≤◌, ◌≡◌, ◌&&◌, ◌||◌, cond, List, eqb, length}
use Rattle.tables.specs.Documents.{Doc, Sound}
use Rattle.selection.specs.Operations.{deleted, removed}
use Rattle.doc_updates.specs.Asking.{Chosen}

-- 1 for a present node that is selected or below a struck one, else 0
unfoldable pub strikes : ℕ → ℕ → ℕ → ℕ
strikes mark own above = cond (eqb mark 0 && (eqb own 1 || eqb above 1)) 1 0

-- a sound document, with a byte and a mark for each used node
pub record Strikable (d : Doc) (row : List ℕ) : Type 0 where
  pub sound : Sound d
  pub bytes : d.used ≤ length row
  pub marks : d.used ≤ length d.marks

-- a delete's marks and its count, by whichever pattern the row was made
pub record Strikes (d : Doc) (row after : List ℕ) (n : ℕ) : Type 0 where
  pub marks : (p : List ℕ) → Chosen p d row → after ≡ (deleted p d).marks
  pub number : (p : List ℕ) → Chosen p d row → n ≡ removed p d
