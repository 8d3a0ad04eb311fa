-- What the calls leave is what is promised.
use Rattle.std.specs.Prelude.{Result, Ok, Err}
use Prim.Native.Nat.{ℕ, ◌*◌, ◌≤◌}
use mathlib.Core.Path.{◌≡◌, refl, sym, ◌∙◌}
use mathlib.Core.List.{List}
use native.Mathlib.Omega.{arith}
use lib.ListN.{length}
use Rattle.tables.specs.Limits.{used_limit}
use Rattle.tables.specs.Documents.{Doc}
use Rattle.tables.specs.Checks.{◌then◌, shape_check, output_check, Checked, Fine}
use Rattle.tables.specs.declared.refusal.Refusal.{Refusal}
use Rattle.tables.proofs.Accepted.{then_assoc, then_first, output_room}
use Rattle.tables.proofs.Soundness.{shape_facts}
use Rattle.identities.specs.Documents.{Document}
use Rattle.identities.specs.Checks.{identities_check}
use Rattle.mending.specs.Mending.{mended_marks, changes, change_list}
use Rattle.mending.proofs.Listing.{changes_most}
use Rattle.doc_mend.specs.Promise.{mend_check, Mend}
use Rattle.doc_mend.specs.Writing.{Written}

-- no more changes than a document can have nodes
pub changes_few : (d : Doc) → shape_check d ≡ Fine → changes d ≤ used_limit
changes_few d shape = omega (arith, changes_most d, (shape_facts d shape).1)

-- the list has room, or not
pub list_room : (d : Doc) {n words : ℕ} {got : Checked} → n ≡ changes d → got ≡ output_check (3 * n) words → got ≡ Fine → 3 * changes d ≤ words
list_room d {n} {words} number checked told = rw number at (output_room (3 * n) words (sym checked ∙ told))

module _ (d : Doc) (list₀ : List ℕ) {n : ℕ} {got : Checked} (number : n ≡ changes d) (checked : got ≡ output_check (3 * n) (length list₀)) where
  is : got ≡ output_check (3 * changes d) (length list₀)
  is = rw number at checked

  pub written_done : got ≡ Fine → {marks list : List ℕ} → (marks ≡ mended_marks d) × (list ≡ change_list d list₀) → Written d list₀ marks list (Ok n)
  written_done told made =
      let fine : output_check (3 * changes d) (length list₀) ≡ Fine = sym is ∙ told in
      record { answered = rw (fine, number) refl; marks = rw fine made.0; list = rw fine made.1 }

  pub written_refused : {r : Refusal} → got ≡ Err r → Written d list₀ d.marks list₀ (Err r)
  written_refused told =
      let refused : output_check (3 * changes d) (length list₀) ≡ Err _ = sym is ∙ told in
      record { answered = rw refused refl; marks = rw refused refl; list = rw refused refl }

-- the shape and the identities are right, or not
module _ (d : Document) {got : Checked} (checked : got ≡ (shape_check d.tables then identities_check d.ids d.tables.used d.next)) where
  pub mendable_shape : got ≡ Fine → shape_check d.tables ≡ Fine
  mendable_shape told = then_first (shape_check d.tables) (identities_check d.ids d.tables.used d.next) (sym checked ∙ told)

  -- then the room is left to ask
  room_left : (words : ℕ) → mend_check d words ≡ (got then output_check (3 * changes d.tables) words)
  unfolding mend_check
  room_left words =
      rw checked (sym (then_assoc (shape_check d.tables) (identities_check d.ids d.tables.used d.next) (output_check (3 * changes d.tables) words)))

  pub mend_done : got ≡ Fine → {list₀ marks₁ list₁ : List ℕ} {answer : Result ℕ Refusal} → Written d.tables list₀ marks₁ list₁ answer → Mend d d.tables.marks list₀ marks₁ list₁ answer
  mend_done told {list₀} made =
      let asked : mend_check d (length list₀) ≡ output_check (3 * changes d.tables) (length list₀) = rw told at (room_left (length list₀)) in
      record { answered = rw asked made.answered; marks = rw asked made.marks; list = rw asked made.list }

  pub mend_refused : {r : Refusal} → got ≡ Err r → (list : List ℕ) → Mend d d.tables.marks list d.tables.marks list (Err r)
  mend_refused told list =
      let refused : mend_check d (length list) ≡ Err _ = rw told at (room_left (length list)) in
      record { answered = rw refused refl; marks = rw refused refl; list = rw refused refl }
