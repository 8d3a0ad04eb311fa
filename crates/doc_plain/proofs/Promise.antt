-- From what the checks and the loop give to the promise of the plain reading; the promise fixes answer and row.
use Rattle.std.specs.Prelude.{Ok, Err}
use Prim.Native.Nat.{ℕ, ◌≤◌}
use mathlib.Core.Path.{◌≡◌, refl, sym, ◌∙◌, ap}
use mathlib.Core.Bool.{cond}
use mathlib.Core.List.{List, ◌++◌}
use lib.ListN.{length, drop}
use Rattle.tables.specs.Limits.{plain_steps, plain_nodes}
use Rattle.tables.specs.Words.{nodes, Bits16}
use Rattle.tables.specs.Documents.{bare}
use Rattle.tables.specs.Checks.{◌then◌, pattern_check, tree_check, output_check, Checked, Fine}
use Rattle.tables.specs.declared.refusal.Refusal.{Refusal}
use Rattle.tables.proofs.Accepted.{then_first, then_second, output_room}
use Rattle.tables.proofs.Soundness.{accepted_pattern, accepted_tree}
use Rattle.selection.specs.Lists.{tab}
use Rattle.selection.specs.Ways.{last, selected}
use Rattle.selection.specs.Operations.{read_row}
use Rattle.selection.proofs.Lists.{tab_ext}
use Rattle.selection.proofs.Rows.{read_row_lem, row_one}
use Rattle.check_plain.specs.Bare.{plain_check}
use Rattle.doc_plain.specs.Plain.{RowAfter, PlainRead}
use Rattle.doc_plain.specs.Landing.{Readable, lands_on}
use Rattle.doc_plain.proofs.Landing.{lands_selected}

module _ (p t : List ℕ) (bytes : ℕ) (e : plain_check p t bytes ≡ Fine) where
  rest_fine : (pattern_check p plain_steps 1 then output_check (nodes t) bytes) ≡ Fine
  unfolding plain_check
  rest_fine = then_second (tree_check t plain_nodes 5) (pattern_check p plain_steps 1 then output_check (nodes t) bytes) e

  tree_fine : tree_check t plain_nodes 5 ≡ Fine
  unfolding plain_check
  tree_fine = then_first (tree_check t plain_nodes 5) (pattern_check p plain_steps 1 then output_check (nodes t) bytes) e

  pattern_fine : pattern_check p plain_steps 1 ≡ Fine
  pattern_fine = then_first (pattern_check p plain_steps 1) (output_check (nodes t) bytes) rest_fine

  room : nodes t ≤ bytes
  room = output_room (nodes t) bytes (then_second (pattern_check p plain_steps 1) (output_check (nodes t) bytes) rest_fine)

-- accepted tables can be read
pub readable : (p t row : List ℕ) {got : Checked} → Bits16 t → got ≡ plain_check p t (length row) → got ≡ Fine → Readable p t row
readable p t row words e f =
    let fine : plain_check p t (length row) ≡ Fine = sym e ∙ f in
    record {
      some = (accepted_pattern p plain_steps 1 (pattern_fine p t (length row) fine)).some;
      falls = (accepted_tree t plain_nodes 5 (tree_fine p t (length row) fine) words).parents;
      room = room p t (length row) fine;
    }

-- a row that was filled is the read's row, and so says which nodes are selected by embeddings
pub plain_read : (p t before : List ℕ) {after : List ℕ} {got : Checked} → Bits16 t → got ≡ plain_check p t (length before) → got ≡ Fine →
    after ≡ tab (λ v. cond (lands_on p t (last p) v) 1 0) (nodes t) ++ drop (nodes t) before → PlainRead p t before after Fine
unfolding read_row
plain_read p t before words e f filled =
    let fine : plain_check p t (length before) ≡ Fine = sym e ∙ f in
    let same = tab_ext (λ v. cond (lands_on p t (last p) v) 1 0) (λ v. cond (selected p (bare t) v) 1 0) (nodes t) (λ v h. ap (λ b. cond b 1 0) (lands_selected p t v h)) in
    record {
      answered = sym fine;
      row = rw (filled ∙ ap (λ (xs : List ℕ). xs ++ drop (nodes t) before) same)
          (read_row_lem
          (accepted_pattern p plain_steps 1 (pattern_fine p t (length before) fine))
          (accepted_tree t plain_nodes 5 (tree_fine p t (length before) fine) words)
          before
          (room p t (length before) fine));
    }

pub plain_refused : (p t before : List ℕ) {got : Checked} {r : Refusal} → got ≡ plain_check p t (length before) → got ≡ Err r → PlainRead p t before before (Err r)
plain_refused p t before e f = record { answered = sym f ∙ e; row = refl }

rows_one : (p t before : List ℕ) {a b : List ℕ} (x : Checked) → RowAfter p t before a x → RowAfter p t before b x → a ≡ b
rows_one p t before (Ok tt) f g = row_one f g
rows_one p t before (Err r) f g = f ∙ sym g

-- two answers with their rows that meet the promise are the same
pub plain_one : {p t before a b : List ℕ} {x y : Checked} → PlainRead p t before a x → PlainRead p t before b y → (x ≡ y) × (a ≡ b)
plain_one {p} {t} {before} {x = x} f g =
    let same = f.answered ∙ sym g.answered in
    (same, rows_one p t before x f.row (rw (← same) at g.row))
