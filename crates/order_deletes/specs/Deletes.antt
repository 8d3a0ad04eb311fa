-- Deletes called one after another, each by its promise, on the marks that the one before it left.
use Rattle.tables.specs.declared.refusal.Refusal.{Refusal}
use Rattle.std.specs.Prelude.{ℕ, ◌+◌, List, [], ◌∷◌, Result, Ok, Err}
use Rattle.identities.specs.Documents.{Document, document}
use Rattle.doc_updates.specs.Updating.{Delete}

-- the document with these marks: all else as it was, its identities and the next one among it
abbrev pub with_marks : Document → List ℕ → Document
with_marks d marks = document d.tables.rows marks d.tables.used d.ids d.next

-- deletes at these patterns, in this order, from document d on: what each answers, and the marks after the last
pub data Deletes : List (List ℕ) → Document → List (Result ℕ Refusal) → List ℕ → Type 0 where
  over : {d : Document} → Deletes [] d [] d.tables.marks
  next : {p marks last : List ℕ} {ps : List (List ℕ)} {d : Document} {answer : Result ℕ Refusal} {answers : List (Result ℕ Refusal)}
      → Delete p d d.tables.marks marks answer → Deletes ps (with_marks d marks) answers last → Deletes (p ∷ ps) d (answer ∷ answers) last

-- how many nodes these answers tell as newly removed, all together; a refusal tells of none
unfoldable pub total : List (Result ℕ Refusal) → ℕ
total [] = 0
total (Ok n ∷ answers) = n + total answers
total (Err why ∷ answers) = total answers

-- there are calls of these deletes
pub record CalledInTurn (ps : List (List ℕ)) (d : Document) : Type 0 where
  pub answers : List (Result ℕ Refusal)
  pub last : List ℕ
  pub calls : Deletes ps d answers last

-- an example: the chain a, b, c, labels 1, 2, 3, nothing removed, of identities 4, 7 and 9, the next one 12; deletes at a/b and at a//c
abbrev pub abc : Document
abc = document (0 ∷ 1 ∷ 0 ∷ 2 ∷ 1 ∷ 3 ∷ []) (0 ∷ 0 ∷ 0 ∷ []) 3 (4 ∷ 7 ∷ 9 ∷ []) 12

abbrev pub a/b : List ℕ
a/b = 0 ∷ 1 ∷ 1 ∷ 2 ∷ []

abbrev pub a//c : List ℕ
a//c = 0 ∷ 1 ∷ 2 ∷ 3 ∷ []
