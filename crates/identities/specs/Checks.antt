-- The check of a document with identities: document 01's order for its tables, then 12 for the identities.
use Rattle.std.specs.Prelude.{ℕ, pred, Bool, true, ◌&&◌, cond, List, eqb, ltb, leb, length, get_or}
use Rattle.tables.specs.Checks.{◌then◌, test, refuse, each, document_check, Checked}
use Rattle.identities.specs.Documents.{Document}

-- an identity is below the next one, and above that of the node before
unfoldable pub identity_right : List ℕ → ℕ → ℕ → Bool
identity_right ids next v = ltb (get_or ids v 0) next && cond (eqb v 0) true (ltb (get_or ids (pred v) 0) (get_or ids v 0))

-- 12: an identity is out of order, or not below the next one
unfoldable pub identity_check : List ℕ → ℕ → ℕ → Checked
identity_check ids next v = test (identity_right ids next v) (refuse 12 5 0)

-- 12 for identities: their row is shorter than the used count, or one of them is wrong
unfoldable pub identities_check : List ℕ → ℕ → ℕ → Checked
identities_check ids used next = test (leb used (length ids)) (refuse 12 5 0) then each (identity_check ids next) 0 used

-- a document: 12 for the used count, node by node 4 then 5, 12 for marks, 12 for identities
unfoldable pub whole_check : Document → Checked
whole_check d = document_check d.tables then identities_check d.ids d.tables.used d.next
