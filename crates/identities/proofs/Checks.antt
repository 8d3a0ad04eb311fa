-- The check of identities is fine exactly if they are right, and that of a document exactly if those of its tables and of its identities are.
use Rattle.std.specs.Prelude.{Ok, Err}
use Prim.Native.Nat.{ℕ, zero, suc, ◌<◌, ◌≤◌}
use mathlib.Core.Path.{◌≡◌, refl}
use mathlib.Core.Bool.{true, and-eq-true_iff}
use mathlib.Core.List.{List}
use mathlib.Core.Logic.{◌↔◌}
use native.Mathlib.Nat.{zero-add, not-suc-le-zero}
use native.Mathlib.Omega.{arith}
use lib.Dec.{ltb, leb}
use lib.ListN.{length, get_or}
use borrow.Author.Tests.{ltb-true, leb-true, lt-ltb, le-leb, ne_eqb}
use Rattle.tables.specs.Words.{Bits16}
use Rattle.tables.specs.Checks.{◌then◌, test, refuse, each, document_check, Checked, Fine}
use Rattle.tables.proofs.Accepted.{held, then_first, then_second, then_both, each_fine, each_all}
use Rattle.tables.proofs.Soundness.{accepted_document}
use Rattle.selection.proofs.Lists.{below_suc}
use Rattle.identities.specs.Documents.{Document, identity, Identified, SoundDocument}
use Rattle.identities.specs.Checks.{identity_right, identity_check, identities_check, whole_check}

-- what a fine check says of the row
module _ (ids : List ℕ) (used next : ℕ) (e : identities_check ids used next ≡ Fine) where
  pub row_long : used ≤ length ids
  unfolding identities_check
  row_long = leb-true used (length ids) (held (leb used (length ids)) _ (then_first (test (leb used (length ids)) (refuse 12 5 0)) (each (identity_check ids next) 0 used) e))

  right_at : (v : ℕ) → v < used → identity_right ids next v ≡ true
  unfolding identities_check identity_check
  right_at v h =
      held (identity_right ids next v) _
      (rw zero-add at (each_fine (identity_check ids next) 0 used (then_second (test (leb used (length ids)) (refuse 12 5 0)) (each (identity_check ids next) 0 used) e) v h))

  pub row_below : (v : ℕ) → v < used → get_or ids v 0 < next
  unfolding identity_right
  row_below v h = ltb-true (get_or ids v 0) next ((and-eq-true_iff (ltb (get_or ids v 0) next) _).0 (right_at v h)).0

  -- each identity is above that of the node before
  row_step : (v : ℕ) → suc v < used → get_or ids v 0 < get_or ids (suc v) 0
  unfolding identity_right
  row_step v h =
      let both = rw (ne_eqb (suc v) 0 (λ z. omega (arith, z))) at (right_at (suc v) h) in
      ltb-true (get_or ids v 0) (get_or ids (suc v) 0) ((and-eq-true_iff (ltb (get_or ids (suc v) 0) next) (ltb (get_or ids v 0) (get_or ids (suc v) 0))).0 both).1

  -- so above that of every node before
  pub row_rising : (v w : ℕ) → v < w → w < used → get_or ids v 0 < get_or ids w 0
  row_rising v zero h l = absurd (not-suc-le-zero h)
  row_rising v (suc w) h l =
      below_suc v w h (λ k. omega (arith, row_rising v w k (omega arith), row_step w l)) (λ q. rw q (row_step w l))

-- the check is fine exactly if the identities are right
pub fine_identified : (d : Document) → identities_check d.ids d.tables.used d.next ≡ Fine → Identified d
fine_identified d e = record {
  row = row_long d.ids d.tables.used d.next e;
  rising = row_rising d.ids d.tables.used d.next e;
  below = row_below d.ids d.tables.used d.next e;
}

identity_fine : (d : Document) → Identified d → (v : ℕ) → v < d.tables.used → identity_check d.ids d.next v ≡ Fine
unfolding identity_check identity_right
identity_fine d right zero h = rw (lt-ltb (identity d 0) d.next (right.below 0 h))
identity_fine d right (suc v) h =
    rw (ne_eqb (suc v) 0 (λ z. omega (arith, z)), lt-ltb (identity d (suc v)) d.next (right.below (suc v) h), lt-ltb (identity d v) (identity d (suc v)) (right.rising v (suc v) (omega arith) h))

pub identified_fine : (d : Document) → Identified d → identities_check d.ids d.tables.used d.next ≡ Fine
unfolding identities_check
identified_fine d right =
    rw (le-leb d.tables.used (length d.ids) right.row)
    (each_all (identity_check d.ids d.next) 0 d.tables.used (λ v h. rw zero-add (identity_fine d right v h)))

pub identified_exactly : (d : Document) → (identities_check d.ids d.tables.used d.next ≡ Fine) ↔ Identified d
identified_exactly d = (fine_identified d, identified_fine d)

-- the check of a document: its tables, then its identities
module _ (d : Document) where
  pub whole_tables : whole_check d ≡ Fine → document_check d.tables ≡ Fine
  unfolding whole_check
  whole_tables e = then_first (document_check d.tables) (identities_check d.ids d.tables.used d.next) e

  pub whole_identities : whole_check d ≡ Fine → identities_check d.ids d.tables.used d.next ≡ Fine
  unfolding whole_check
  whole_identities e = then_second (document_check d.tables) (identities_check d.ids d.tables.used d.next) e

  pub whole_fine : document_check d.tables ≡ Fine → identities_check d.ids d.tables.used d.next ≡ Fine → whole_check d ≡ Fine
  unfolding whole_check
  whole_fine = then_both (document_check d.tables) (identities_check d.ids d.tables.used d.next)

  -- where the identities are right it is that of the tables
  pub whole_right : identities_check d.ids d.tables.used d.next ≡ Fine → whole_check d ≡ document_check d.tables
  unfolding whole_check
  whole_right e = rw e (go (document_check d.tables))
    where
      go : (c : Checked) → (c then Fine) ≡ c
      go (Ok tt) = refl
      go (Err r) = refl

  -- a document that meets no refusal has right identities, and is sound where its words have 16 bits
  pub whole_identified : whole_check d ≡ Fine → Identified d
  whole_identified e = fine_identified d (whole_identities e)

  pub whole_sound : whole_check d ≡ Fine → Bits16 d.tables.rows → SoundDocument d
  whole_sound e words = record { tables = accepted_document d.tables (whole_tables e) words; identities = whole_identified e }
