-- Compaction: what it answers, and what the lent rows hold after it.
use Rattle.outcomes.specs.declared.updates.Compacted.{Compacted}
use Rattle.tables.specs.declared.refusal.Refusal.{Refusal}
use Rattle.std.specs.Prelude.{ℕ, ◌≡◌, List, Result, Ok, Err}
use Rattle.tables.specs.Checks.{where_fine, Checked}
use Rattle.identities.specs.Documents.{Document}
use Rattle.identities.specs.Checks.{whole_check}
use Rattle.identities.specs.Compaction.{staying, dropped, compacted}

-- the refusal, or the new used count and how many nodes were dropped
abbrev pub compact_answer : Checked → ℕ → ℕ → Result Compacted Refusal
compact_answer (Ok tt) used gone = Ok (record { used = used; dropped = gone })
compact_answer (Err r) used gone = Err r

-- the answer and the rows of a compaction; a refusal changes none
pub record Compact (d : Document) (rows₀ marks₀ ids₀ rows₁ marks₁ ids₁ : List ℕ) (answer : Result Compacted Refusal) : Type 0 where
  pub answered : answer ≡ compact_answer (whole_check d) (staying d.tables) (dropped d.tables)
  pub rows : rows₁ ≡ where_fine (whole_check d) (compacted d).tables.rows rows₀
  pub marks : marks₁ ≡ where_fine (whole_check d) (compacted d).tables.marks marks₀
  pub ids : ids₁ ≡ where_fine (whole_check d) (compacted d).ids ids₀
