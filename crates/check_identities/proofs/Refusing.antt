-- Where identities are refused, so is the document, and no check behind it is reached.
use Rattle.std.specs.Prelude.{Err}
use mathlib.Core.Path.{◌≡◌, sym, ◌∙◌}
use Rattle.tables.specs.Checks.{◌then◌, document_check, Checked, Fine}
use Rattle.tables.specs.declared.refusal.Refusal.{Refusal}
use Rattle.identities.specs.Documents.{Document}
use Rattle.identities.specs.Checks.{identities_check, whole_check}
use Rattle.identities.proofs.Checks.{whole_right}

module _ (d : Document) {got : Checked} (e : got ≡ identities_check d.ids d.tables.used d.next) where
  pub found_right : got ≡ Fine → whole_check d ≡ document_check d.tables
  found_right told = whole_right d (sym e ∙ told)

  pub found_wrong : {r why : Refusal} → got ≡ Err r → (document_check d.tables then Err r) ≡ Err why → whole_check d ≡ Err why
  unfolding whole_check
  found_wrong told before = rw (← e, told) before

-- the first refusal of two
module _ {got first : Checked} (r : Refusal) (e : got ≡ first) where
  pub second_left : got ≡ Fine → (first then Err r) ≡ Err r
  second_left told = rw (← e, told)

  pub first_left : {why : Refusal} → got ≡ Err why → (first then Err r) ≡ Err why
  first_left told = rw (← e, told)
