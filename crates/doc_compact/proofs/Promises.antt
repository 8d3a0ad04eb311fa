-- From what the check and the pass give to the promise of a compaction.
use Rattle.std.specs.Prelude.{Result, Ok, Err}
use Rattle.tables.specs.Checks.{Checked, Fine}
use Rattle.outcomes.specs.declared.updates.Compacted.{Compacted}
use Prim.Native.Nat.{ℕ, ◌-◌, ◌≤◌}
use mathlib.Core.Path.{◌≡◌, sym, ◌∙◌}
use mathlib.Core.List.{List}
use native.Mathlib.Omega.{arith}
use Rattle.tables.specs.Words.{Bits16}
use Rattle.tables.specs.Documents.{Doc}
use Rattle.tables.specs.declared.refusal.Refusal.{Refusal}
use Rattle.tables.proofs.Soundness.{used_facts}
use Rattle.identities.specs.Documents.{Document}
use Rattle.identities.specs.Checks.{whole_check}
use Rattle.identities.specs.Compaction.{staying, dropped}
use Rattle.identities.proofs.Checks.{whole_tables, whole_sound}
use Rattle.compaction.proofs.Places.{staying-dropped, staying_most}
use Rattle.doc_compact.specs.Compacting.{Compact}
use Rattle.doc_compact.specs.Closing.{Closable, Closed, ClosedUp}

-- what is used no longer is what was dropped
module _ (d : Doc) (ids₀ : List ℕ) {rows marks ids : List ℕ} {n : ℕ} (closed : Closed d ids₀ rows marks ids n) where
  pub closed_most : n ≤ d.used
  closed_most = rw closed.number (staying_most d)

  pub closed_answer : ClosedUp d ids₀ rows marks ids (record { used = n; dropped = d.used - n })
  closed_answer =
      let gone : d.used - staying d ≡ dropped d = omega (arith, staying-dropped d) in
      record { rows = closed.rows; marks = closed.marks; ids = closed.ids; answered = rw (closed.number, gone) }

module _ (d : Document) {got : Checked} (checked : got ≡ whole_check d) where
  module _ (told : got ≡ Fine) where
    fine : whole_check d ≡ Fine
    fine = sym checked ∙ told

    -- a document that meets no refusal can be closed up
    pub closable : Bits16 d.tables.rows → Closable d.tables d.ids
    closable words =
        let facts = used_facts d.tables (whole_tables d fine) in
        let sound = whole_sound d fine words in
        record { sound = sound.tables; limit = facts.1; marks = facts.3; identities = sound.identities.row }

    pub compact_done : {rows marks ids : List ℕ} {answer : Result Compacted Refusal} {done : Compacted} → ClosedUp d.tables d.ids rows marks ids done → answer ≡ Ok done →
        Compact d d.tables.rows d.tables.marks d.ids rows marks ids answer
    compact_done closed e = record {
      answered = rw (e, fine, closed.answered);
      rows = rw fine (closed.rows d.next);
      marks = rw fine (closed.marks d.next);
      ids = rw fine (closed.ids d.next);
    }

  pub compact_refused : {r : Refusal} → got ≡ Err r →
      Compact d d.tables.rows d.tables.marks d.ids d.tables.rows d.tables.marks d.ids (Err r)
  compact_refused told =
      let refused : whole_check d ≡ Err _ = sym checked ∙ told in
      record { answered = rw refused; rows = rw refused; marks = rw refused; ids = rw refused }
