-- From what the checks and the copies give to the promise of insert.
use Rattle.std.specs.Prelude.{Result, Ok, Err}
use Rattle.outcomes.specs.declared.updates.Inserted.{Inserted}
use Prim.Native.Nat.{ℕ, ◌+◌, ◌*◌, ◌-◌, ◌≤◌}
use mathlib.Core.Path.{◌≡◌, sym, ◌∙◌, ap}
use mathlib.Core.List.{List}
use native.Mathlib.Omega.{arith}
use lib.ListN.{length}
use Rattle.tables.specs.Limits.{step_limit, tree_limit, identity_limit}
use Rattle.tables.specs.Words.{nodes, Bits16}
use Rattle.tables.specs.Documents.{Doc, doc}
use Rattle.tables.specs.Checks.{◌then◌, document_check, pattern_check, tree_check, Checked, Fine}
use Rattle.tables.specs.declared.refusal.Refusal.{Refusal}
use Rattle.tables.proofs.Accepted.{then_assoc, then_first, then_second}
use Rattle.tables.proofs.Soundness.{used_facts, accepted_tree, accepted_nodes}
use Rattle.selection.specs.Lists.{rising, count}
use Rattle.selection.specs.Operations.{copies, inserted, grafts}
use Rattle.selection.proofs.Lists.{count_most}
use Rattle.selection.proofs.Inserting.{Room}
use Rattle.identities.specs.Documents.{Document}
use Rattle.identities.specs.Checks.{whole_check}
use Rattle.identities.specs.Updates.{written, given, inserted_in, nameable, fits_in}
use Rattle.doc_updates.specs.Updating.{insert_check, insert_answer, Insert}
use Rattle.doc_updates.specs.Asking.{chosen, tables_check, Asked}
use Rattle.doc_updates.proofs.Asking.{row_copies, row_points}
use Rattle.identities.proofs.Updates.{fits_tables, fits_ids, named_most}
use Rattle.doc_updates.proofs.Accepted.{insert_whole, insert_tree, insert_named, insert_fits, copied_fine, refused_told}
use Rattle.doc_graft.specs.Grafting.{copied_all}
use Rattle.doc_graft.proofs.Trees.{chosen-grafts}
use Rattle.doc_insert.specs.Planning.{Small, left_check, Planned, Nameable}

never_copied : {r : Refusal} {made : Inserted} → ◌≡◌ {A = Result Inserted Refusal} (Err r) (Ok made) → ⊥
never_copied e = let z : ◌≡◌ {A = ℕ} 0 1 = cc in omega arith

-- an insert is planned on the row of a read
module _ (p x : List ℕ) (d : Doc) {before after : List ℕ} {got : Checked}
    (asked : Asked (tables_check p x d) p d before after got) where
  module _ (told : got ≡ Fine) where
    three : tables_check p x d ≡ Fine
    three = sym asked.answered ∙ told

    pub small : {n next : ℕ} → n ≡ count (chosen after) d.used → next ≤ identity_limit → Small d.used n (nodes x) next
    small e h =
        let used = used_facts d (then_first (document_check d) (pattern_check p step_limit 2 then tree_check x tree_limit 3) three) in
        let tree = then_second (pattern_check p step_limit 2) (tree_check x tree_limit 3) (then_second (document_check d) (pattern_check p step_limit 2 then tree_check x tree_limit 3) three) in
        record {
          uses = used.1;
          points = omega (arith, e, count_most (chosen after) d.used, used.1);
          tree = accepted_nodes x tree_limit 3 tree;
          identity = h;
        }

    pub tables_on : {n next : ℕ} (words marks ids : ℕ) {answer : Result Inserted Refusal} → n ≡ count (chosen after) d.used →
        answer ≡ insert_answer (left_check (d.used + n * nodes x) (next + n * nodes x) words marks ids) n (d.used + n * nodes x) (next + n * nodes x) →
        Planned (tables_check p x d then left_check (d.used + written p x d) (next + written p x d) words marks ids) p x d next before after answer
    unfolding written
    tables_on words marks ids e q =
        let same = e ∙ row_copies p d before (asked.row told) in
        record { answered = q ∙ rw (three, same); row = λ copied. asked.row told }

  pub tables_off : {r : Refusal} (rest : Checked) {next : ℕ} → got ≡ Err r → Planned (tables_check p x d then rest) p x d next before after (Err r)
  tables_off rest told =
      let refused : tables_check p x d ≡ Err _ = sym asked.answered ∙ told in
      record { answered = rw refused; row = λ copied. absurd (never_copied copied) }

-- by the checks of an insert, where identities are right, and where they are not
module _ (p x : List ℕ) (d : Document) where
  left : Checked
  left = left_check (d.tables.used + written p x d.tables) (d.next + written p x d.tables) (length d.tables.rows) (length d.tables.marks) (length d.ids)

  same_check : whole_check d ≡ document_check d.tables → insert_check p x d ≡ (tables_check p x d.tables then left)
  unfolding left nameable fits_in
  same_check whole =
      insert_whole p x d whole
      ∙ sym
      (then_assoc (document_check d.tables) (pattern_check p step_limit 2 then tree_check x tree_limit 3) left
      ∙ rw (then_assoc (pattern_check p step_limit 2) (tree_check x tree_limit 3) left))

  pub planned_on : {before after : List ℕ} {answer : Result Inserted Refusal} → whole_check d ≡ document_check d.tables →
      Planned (tables_check p x d.tables then left_check (d.tables.used + written p x d.tables) (d.next + written p x d.tables) (length d.tables.rows) (length d.tables.marks) (length d.ids))
      p x d.tables d.next before after answer →
      Planned (insert_check p x d) p x d.tables d.next before after answer
  unfolding left
  planned_on whole h = record { answered = rw (same_check whole) h.answered; row = h.row }

  pub planned_off : {before after : List ℕ} {why : Refusal} → whole_check d ≡ Err why → Planned (insert_check p x d) p x d.tables d.next before after (Err why)
  planned_off refused = record { answered = rw (insert_whole p x d refused); row = λ copied. absurd (never_copied copied) }

module _ (p x : List ℕ) (d : Document) {before after : List ℕ} {answer : Result Inserted Refusal} (planned : Planned (insert_check p x d) p x d.tables d.next before after answer) where
  module _ {n used last : ℕ} (told : answer ≡ Ok (record { copies = n; used = used; next = last })) where
    passes : insert_check p x d ≡ Fine
    passes = copied_fine (insert_check p x d) (copies p d.tables) (d.tables.used + written p x d.tables) (d.next + written p x d.tables) (sym planned.answered ∙ told)

    -- so many nodes are written
    used_is : used ≡ d.tables.used + written p x d.tables
    used_is =
        let answered :
        ◌≡◌ {A = Result Inserted Refusal} (Ok (record { copies = n; used = used; next = last }))
        (Ok (record { copies = copies p d.tables; used = d.tables.used + written p x d.tables; next = d.next + written p x d.tables }))
        = sym told ∙ (rw passes at planned.answered)
        in
        let made :
        ◌≡◌ {A = Inserted} (record { copies = n; used = used; next = last })
        (record { copies = copies p d.tables; used = d.tables.used + written p x d.tables; next = d.next + written p x d.tables })
        = cc
        in ap (λ (all : Inserted). all.used) made

    grown : used - d.tables.used ≡ written p x d.tables
    grown =
        let e = used_is in
        omega (arith, e)

    pub grows : d.tables.used ≤ used
    grows =
        let e = used_is in
        omega (arith, e)

    -- there are identities for them, and room
    pub copies-nameable : Nameable d.ids d.tables.used (used - d.tables.used) d.next
    copies-nameable =
        rw grown (record { room = fits_ids p x d (insert_fits p x d passes); last = named_most p x d (insert_named p x d passes) })

    -- a plan that is fine has room for every copy, and x is a tree: the copies are its grafts
    copies-grafts : Bits16 x → Bits16 d.tables.rows →
        copied_all x (rising (chosen after) d.tables.used) d.tables ≡ grafts x (rising (chosen after) d.tables.used) d.tables
    copies-grafts words table =
        let same = row_copies p d.tables before (planned.row told) in
        let room : Room p x d.tables = fits_tables p x d (insert_fits p x d passes) in
        chosen-grafts x words (accepted_tree x tree_limit 3 (insert_tree p x d passes) words).parents (chosen after) d.tables
        (record { limit = rw same room.limit; rows = rw same room.rows; marks = rw same room.marks })
        table

    pub insert_done : Bits16 x → Bits16 d.tables.rows → {rows marks ids : List ℕ} {end : ℕ} →
        doc rows marks end ≡ copied_all x (rising (chosen after) d.tables.used) d.tables →
        ids ≡ given d.ids d.tables.used (used - d.tables.used) d.next →
        Insert p x d d.tables.rows d.tables.marks d.ids rows marks ids (Ok (record { copies = n; used = used; next = last }))
    unfolding inserted inserted_in
    insert_done words table copied named =
        let same = row_points p d.tables before (planned.row told) in
        let all = copied ∙ copies-grafts words table in
        record {
          answered = sym told ∙ planned.answered;
          rows = rw (passes, ← same) (ap (λ (e : Doc). e.rows) all);
          marks = rw (passes, ← same) (ap (λ (e : Doc). e.marks) all);
          ids = rw passes (named ∙ rw grown);
        }

  pub insert_refused : {r : Refusal} → answer ≡ Err r →
      Insert p x d d.tables.rows d.tables.marks d.ids d.tables.rows d.tables.marks d.ids (Err r)
  insert_refused told =
      let refused : insert_check p x d ≡ Err _ =
      refused_told (insert_check p x d) (copies p d.tables) (d.tables.used + written p x d.tables) (d.next + written p x d.tables) (sym planned.answered ∙ told) in
      record { answered = sym told ∙ planned.answered; rows = rw refused; marks = rw refused; ids = rw refused }
