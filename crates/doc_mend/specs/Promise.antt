-- Mending: the order of its checks, what it answers, and what the marks and the list hold after it.
use Rattle.tables.specs.declared.refusal.Refusal.{Refusal}
use Rattle.std.specs.Prelude.{ℕ, ◌*◌, ◌≡◌, List, length, Result, Ok, Err}
use Rattle.tables.specs.Checks.{◌then◌, where_fine, shape_check, output_check, Checked}
use Rattle.identities.specs.Documents.{Document}
use Rattle.identities.specs.Checks.{identities_check}
use Rattle.mending.specs.Mending.{mended_marks, changes, change_list}

-- 12 for the used count, node by node 4 then 5, 12 for identities, then 7 exactly when the whole list doesn't fit; the marks are not asked
unfoldable pub mend_check : Document → ℕ → Checked
mend_check d words =
    shape_check d.tables
    then identities_check d.ids d.tables.used d.next
    then output_check (3 * changes d.tables) words

-- the refusal, or how many marks ended up different
abbrev pub mend_answer : Checked → ℕ → Result ℕ Refusal
mend_answer (Ok tt) n = Ok n
mend_answer (Err r) n = Err r

-- the answer, the marks and the list of a mending; a refusal changes neither
pub record Mend (d : Document) (marks₀ list₀ marks₁ list₁ : List ℕ) (answer : Result ℕ Refusal) : Type 0 where
  pub answered : answer ≡ mend_answer (mend_check d (length list₀)) (changes d.tables)
  pub marks : marks₁ ≡ where_fine (mend_check d (length list₀)) (mended_marks d.tables) marks₀
  pub list : list₁ ≡ where_fine (mend_check d (length list₀)) (change_list d.tables list₀) list₀
