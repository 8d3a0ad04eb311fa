-- What holds after a mending: of one that was refused, and of one that was accepted. The promise settles answer, marks and list.
use Rattle.std.specs.Prelude.{Result, Ok, Err}
use Prim.Native.Nat.{ℕ, ◌*◌, ◌≤◌}
use mathlib.Core.Path.{◌≡◌, refl, sym, ◌∙◌}
use mathlib.Core.List.{List}
use native.Mathlib.Omega.{arith}
use lib.ListN.{length}
use borrow.Author.Tests.{le-leb}
use Rattle.tables.specs.Checks.{◌then◌, shape_check, output_check, Checked, Fine}
use Rattle.tables.specs.declared.refusal.Refusal.{Refusal}
use Rattle.tables.proofs.Accepted.{then_first, then_second, output_room}
use Rattle.identities.specs.Documents.{Document}
use Rattle.identities.specs.Checks.{identities_check}
use Rattle.mending.specs.Mending.{mended_marks, changes, change_list}
use Rattle.doc_mend.specs.Promise.{mend_check, mend_answer, Mend}

-- two that meet the promise are the same
pub mend_one : {d : Document} {marks₀ list₀ marks₁ list₁ marks₂ list₂ : List ℕ} {a b : Result ℕ Refusal} →
    Mend d marks₀ list₀ marks₁ list₁ a → Mend d marks₀ list₀ marks₂ list₂ b → (a ≡ b) × (marks₁ ≡ marks₂) × (list₁ ≡ list₂)
mend_one f g = (f.answered ∙ sym g.answered, f.marks ∙ sym g.marks, f.list ∙ sym g.list)

-- one that answers a refusal met it, one that answers a number met none
refused_told : (c : Checked) (k : ℕ) {r : Refusal} → Err r ≡ mend_answer c k → c ≡ Err r
refused_told (Ok tt) k e = let z : ◌≡◌ {A = ℕ} 0 1 = cc in absurd (omega arith)
refused_told (Err r) k e = cc

pub changed_fine : (c : Checked) (k : ℕ) {n : ℕ} → Ok n ≡ mend_answer c k → c ≡ Fine
changed_fine (Ok tt) k e = refl
changed_fine (Err r) k e = let z : ◌≡◌ {A = ℕ} 0 1 = cc in absurd (omega arith)

-- a refused mending tells the refusal of its checks, and changes neither marks nor list
module _ {d : Document} {marks₀ list₀ marks₁ list₁ : List ℕ} {r : Refusal} (done : Mend d marks₀ list₀ marks₁ list₁ (Err r)) where
  pub mend_told : mend_check d (length list₀) ≡ Err r
  mend_told = refused_told (mend_check d (length list₀)) (changes d.tables) done.answered

  pub mend_same : (marks₁ ≡ marks₀) × (list₁ ≡ list₀)
  mend_same = (rw mend_told at done.marks, rw mend_told at done.list)

-- what its checks are fine of
module _ (d : Document) (words : ℕ) (fine : mend_check d words ≡ Fine) where
  rest : (identities_check d.ids d.tables.used d.next then output_check (3 * changes d.tables) words) ≡ Fine
  unfolding mend_check
  rest = then_second (shape_check d.tables) (identities_check d.ids d.tables.used d.next then output_check (3 * changes d.tables) words) fine

  pub fine_shape : shape_check d.tables ≡ Fine
  unfolding mend_check
  fine_shape = then_first (shape_check d.tables) (identities_check d.ids d.tables.used d.next then output_check (3 * changes d.tables) words) fine

  pub fine_identities : identities_check d.ids d.tables.used d.next ≡ Fine
  fine_identities = then_first (identities_check d.ids d.tables.used d.next) (output_check (3 * changes d.tables) words) rest

  pub fine_room : 3 * changes d.tables ≤ words
  fine_room =
      output_room (3 * changes d.tables) words (then_second (identities_check d.ids d.tables.used d.next) (output_check (3 * changes d.tables) words) rest)

-- and back
pub fine_all : (d : Document) (words : ℕ) → shape_check d.tables ≡ Fine → identities_check d.ids d.tables.used d.next ≡ Fine → 3 * changes d.tables ≤ words →
    mend_check d words ≡ Fine
unfolding mend_check output_check
fine_all d words shape identified room = rw (shape, identified, le-leb (3 * changes d.tables) words room) refl

-- an accepted one met no refusal
module _ (d : Document) {list₀ marks list : List ℕ} {n : ℕ} (done : Mend d d.tables.marks list₀ marks list (Ok n)) where
  pub mend_fine : mend_check d (length list₀) ≡ Fine
  mend_fine = changed_fine (mend_check d (length list₀)) (changes d.tables) done.answered

  -- it answers how many marks ended up different, lists them, and leaves the document mended
  pub mend_number : n ≡ changes d.tables
  mend_number = let e : Ok n ≡ Ok (changes d.tables) = rw mend_fine at done.answered in cc

  pub mend_list : list ≡ change_list d.tables list₀
  mend_list = rw mend_fine at done.list

  pub mend_marks : marks ≡ mended_marks d.tables
  mend_marks = rw mend_fine at done.marks
