-- The checks of an update around its reading: the reading's own 7 is never met, since a document uses at most 4,096 nodes.
use Rattle.std.specs.Prelude.{Ok, Err}
use Prim.Native.Nat.{ℕ, ◌<◌, ◌≤◌}
use mathlib.Core.Path.{◌≡◌, refl, sym, ◌∙◌}
use mathlib.Core.Bool.{cond}
use mathlib.Core.List.{List}
use native.Mathlib.Nat.{le_trans}
use lib.Dec.{leb}
use lib.ListN.{length}
use borrow.Author.Tests.{le-leb}
use Rattle.tables.specs.Limits.{step_limit, used_limit}
use Rattle.tables.specs.Documents.{Doc}
use Rattle.tables.specs.Checks.{◌then◌, test, refuse, document_check, pattern_check, output_check, Checked, Fine}
use Rattle.tables.specs.declared.refusal.Refusal.{Refusal}
use Rattle.tables.proofs.Accepted.{never, then_assoc}
use Rattle.tables.proofs.Soundness.{used_facts}
use Rattle.selection.specs.Lists.{rising, count}
use Rattle.selection.specs.Ways.{selected}
use Rattle.selection.specs.Operations.{read_row, points, copies}
use Rattle.selection.proofs.Lists.{count_ext}
use Rattle.selection.proofs.Filling.{row_new, row_long}
use Rattle.selection.proofs.Inserting.{copies-count}
use Rattle.check_read.specs.Readable.{read_tables_check}
use Rattle.doc_read.specs.Reading.{ReadTables}
use Rattle.doc_updates.specs.Asking.{chosen, Chosen, Asked}
use Rattle.doc_updates.proofs.Bits.{bit_flag}
use Rattle.doc_updates.proofs.Counting.{rising_ext}

then_fine : (a : Checked) → (a then Fine) ≡ a
then_fine (Ok tt) = refl
then_fine (Err r) = refl

-- with a byte for 4,096 nodes the checks of a read are the document's and the pattern's
pub never_short : (p : List ℕ) (table : ℕ) (d : Doc) (bytes : ℕ) → used_limit ≤ bytes → read_tables_check p table d bytes ≡ (document_check d then pattern_check p step_limit table)
unfolding read_tables_check output_check
never_short p table d bytes long = go (document_check d) (λ e. rw (le-leb d.used bytes (le_trans (used_facts d e).1 long)) (then_fine (pattern_check p step_limit table)))
  where
    go : (c : Checked) → (c ≡ Fine → (pattern_check p step_limit table then test (leb d.used bytes) (refuse 7 4 0)) ≡ pattern_check p step_limit table) →
        (c then pattern_check p step_limit table then test (leb d.used bytes) (refuse 7 4 0)) ≡ (c then pattern_check p step_limit table)
    go (Ok tt) f = f refl
    go (Err r) f = refl

module _ (p : List ℕ) (d : Doc) (before : List ℕ) (long : used_limit ≤ length before) (rest : Checked) {got : Checked} {after : List ℕ} (read : ReadTables p 2 d before after got) where
  first_two : got ≡ (document_check d then pattern_check p step_limit 2)
  first_two = read.answered ∙ never_short p 2 d (length before) long

  whole : Checked
  whole = document_check d then pattern_check p step_limit 2 then rest

  is_whole : (got then rest) ≡ whole
  unfolding whole
  is_whole = rw first_two (then_assoc (document_check d) (pattern_check p step_limit 2) rest)

  -- a reading that is fine goes on with the rest of the checks, one that is refused ends them
  pub asked-on : {answer : Checked} → got ≡ Fine → answer ≡ rest → Asked (document_check d then pattern_check p step_limit 2 then rest) p d before after answer
  unfolding whole
  asked-on told e = record { answered = e ∙ (rw told at is_whole); row = λ fine. rw told at read.row }

  pub asked_off : {r : Refusal} → got ≡ Err r → Asked (document_check d then pattern_check p step_limit 2 then rest) p d before after (Err r)
  unfolding whole
  asked_off told = record { answered = rw told at is_whole; row = λ fine. never refl fine }

-- the row of a read: a byte for each used node, 1 where it is selected
module _ (p : List ℕ) (d : Doc) (before : List ℕ) {after : List ℕ} (e : after ≡ read_row p d before) where
  pub row_chosen : Chosen p d after
  unfolding read_row
  row_chosen = row_new (λ v. cond (selected p d v) 1 0) before d.used e

  pub row_bytes : d.used ≤ length before → d.used ≤ length after
  unfolding read_row
  row_bytes h = rw (row_long (λ v. cond (selected p d v) 1 0) before d.used e h) h

  chosen-selected : (v : ℕ) → v < d.used → chosen after v ≡ selected p d v
  unfolding chosen
  chosen-selected v h = rw (row_chosen v h) (bit_flag (selected p d v))

  -- so it has as many as there are copies to make, and lists the update points
  pub row_copies : count (chosen after) d.used ≡ copies p d
  row_copies = count_ext (chosen after) (selected p d) d.used chosen-selected ∙ sym (copies-count p d)

  pub row_points : rising (chosen after) d.used ≡ points p d
  unfolding points
  row_points = rising_ext (chosen after) (selected p d) d.used chosen-selected
