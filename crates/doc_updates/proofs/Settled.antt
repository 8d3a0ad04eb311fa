-- The promises settle answer and tables: two that meet them are the same.
use Rattle.std.specs.Prelude.{Result}
use Rattle.outcomes.specs.declared.updates.Inserted.{Inserted}
use Rattle.tables.specs.declared.refusal.Refusal.{Refusal}
use Prim.Native.Nat.{ℕ}
use mathlib.Core.Path.{◌≡◌, sym, ◌∙◌}
use mathlib.Core.List.{List}
use Rattle.identities.specs.Documents.{Document}
use Rattle.doc_updates.specs.Updating.{Delete, Insert}

pub delete_one : {p : List ℕ} {d : Document} {before a b : List ℕ} {x y : Result ℕ Refusal} → Delete p d before a x → Delete p d before b y → (x ≡ y) × (a ≡ b)
delete_one f g = (f.answered ∙ sym g.answered, f.marks ∙ sym g.marks)

pub insert_one : {p x : List ℕ} {d : Document} {rows₀ marks₀ ids₀ rows₁ marks₁ ids₁ rows₂ marks₂ ids₂ : List ℕ} {a b : Result Inserted Refusal} →
    Insert p x d rows₀ marks₀ ids₀ rows₁ marks₁ ids₁ a → Insert p x d rows₀ marks₀ ids₀ rows₂ marks₂ ids₂ b → (a ≡ b) × (rows₁ ≡ rows₂) × (marks₁ ≡ marks₂) × (ids₁ ≡ ids₂)
insert_one f g = (f.answered ∙ sym g.answered, f.rows ∙ sym g.rows, f.marks ∙ sym g.marks, f.ids ∙ sym g.ids)
