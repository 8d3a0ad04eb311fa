-- Each call is refused exactly where its order of checks gives a refusal, by that one, and a refused call changes nothing.
use Rattle.std.specs.Prelude.{Option, Some, None, Result, Ok, Err}
use Rattle.outcomes.specs.declared.updates.Inserted.{Inserted}
use Rattle.outcomes.specs.declared.updates.Compacted.{Compacted}
use Prim.Native.Nat.{ℕ, ◌*◌, ◌/◌}
use mathlib.Core.Path.{◌≡◌, refl, sym}
use mathlib.Core.Bool.{Bool, true, false, cond}
use mathlib.Core.List.{List}
use lib.Dec.{ltb, leb}
use lib.ListN.{length}
use Rattle.tables.specs.Limits.{batch_limit}
use Rattle.identities.specs.Documents.{Document}
use Rattle.identities.specs.Checks.{whole_check}
use Rattle.tables.specs.Checks.{◌then◌, test, refuse, output_check, pattern_check, tree_check, Checked, Fine}
use Rattle.tables.specs.Refusals.{numbered}
use Rattle.tables.specs.declared.refusal.Refusal.{Refusal}
use Rattle.tables.proofs.Accepted.{never}
use Rattle.c_answer.specs.declared.answer.Answer.{Answer}
use Rattle.c_answer.specs.Answers.{refusing, Told}
use Rattle.c_numbers.specs.Numbers.{of_checked, of_deleted, of_inserted, of_compacted, of_mended, of_verdict, of_deeply, of_evidence, of_stepped, of_planned, of_parsed, of_spelled, of_printed}
use Rattle.check_plain.specs.Bare.{plain_check}
use Rattle.doc_plain.specs.Plain.{PlainRead}
use Rattle.check_read.specs.Readable.{read_check}
use Rattle.doc_read.specs.Reading.{Read}
use Rattle.doc_updates.specs.Updating.{delete_check, insert_check, Delete, Insert}
use Rattle.doc_updates.proofs.Deletes.{delete_same}
use Rattle.doc_updates.proofs.Inserts.{insert_same}
use Rattle.doc_updates.proofs.Accepted.{removed_fine, kept_told, copied_fine, refused_told}
use Rattle.doc_compact.specs.Compacting.{Compact}
use Rattle.doc_compact.proofs.Laws.{closed_fine, compact_told, compact_same}
use Rattle.doc_mend.specs.Promise.{mend_check, Mend}
use Rattle.doc_mend.proofs.Laws.{changed_fine, mend_told, mend_same}
use Rattle.conflict.specs.Conflict.{Update}
use Rattle.check_verdict.specs.Order.{verdict_check, deep_check}
use Rattle.verdict.specs.Promise.{NodeVerdict}
use Rattle.verdict_deep.specs.Promise.{DeepVerdict}
use Rattle.check_evidence.specs.Order.{evidence_check}
use Rattle.verdict_evidence.specs.Promise.{Checks}
use Rattle.batch_frame.specs.Frames.{frame_check, frame_of, answered, frame_at}
use Rattle.batch_walk.specs.Walking.{answer_of, walk_check, step_at}
use Rattle.batch_check.specs.Batches.{plan_check}
use Rattle.conflict.specs.Conflict.{Deep}
use Rattle.batch_mode.specs.Modes.{relation_of, mode_of}
use Rattle.batch_plan.specs.Batch.{PlanBy, Plan, PlanIn, plan_in_check}
use Rattle.text_line_in.specs.Lines.{line_check, ReadAs}
use Rattle.text_line_out.specs.Spelling.{WrittenAs}
use Rattle.text_pattern_in.specs.Reading.{read_text_check, ReadText}
use Rattle.text_pattern_out.specs.Writing.{write_text_check, WriteText}
use Rattle.text_xml_in.specs.Reading.{read_tree_check, ReadTree}
use Rattle.text_xml_out.specs.Writing.{write_tree_check, WriteTree}
use Rattle.text_printer.specs.Printer.{PrintedAs}
use Rattle.demands.specs.Demands.{ByOrder, Nothing}
use Rattle.demands.proofs.Numbering.{every_number}

-- an order that is fine, and one that refuses
module _ {order : Checked} {Kept : Type 0} where
  was_fine : {a : Answer} → order ≡ Fine → a.refusal ≡ 0 → ByOrder order a Kept
  was_fine fine e = record { works = λ f. e; refused = λ why r. never r fine }

  was_refused : {why : Refusal} → order ≡ Err why → Kept → ByOrder order (refusing why) Kept
  was_refused {why} r kept =
      record {
        works = λ f. never r f;
        refused = λ other q. let same : why ≡ other = cc (r, q) in (rw same, every_number other, kept);
      }

  -- the numbers of an answer that meets a promise
  told : {E : Type 0} {numbers : E → Answer} {P : E → Type 0} {a : Answer} → ((x : E) → P x → ByOrder order (numbers x) Kept) → Told numbers P a → ByOrder order a Kept
  told each t = rw t.shown (each t.answer t.promised)

-- a check by itself
checks : {Kept : Type 0} (c : Checked) → ((why : Refusal) → c ≡ Err why → Kept) → ByOrder c (of_checked c) Kept
checks (Ok tt) kept = was_fine refl refl
checks (Err why) kept = was_refused refl (kept why refl)

pub patterns : (p : List ℕ) (limit table : ℕ) → ByOrder (pattern_check p limit table) (of_checked (pattern_check p limit table)) Nothing
patterns p limit table = checks (pattern_check p limit table) (λ why e. tt)

pub trees : (t : List ℕ) (limit table : ℕ) → ByOrder (tree_check t limit table) (of_checked (tree_check t limit table)) Nothing
trees t limit table = checks (tree_check t limit table) (λ why e. tt)

pub documents : (d : Document) → ByOrder (whole_check d) (of_checked (whole_check d)) Nothing
documents d = checks (whole_check d) (λ why e. tt)

-- documents
pub plains : (p t before after : List ℕ) (a : Answer) → Told of_checked (PlainRead p t before after) a → ByOrder (plain_check p t (length before)) a (after ≡ before)
plains p t before after a =
    told (λ x h. rw (← h.answered) (checks x (λ why e. rw e at h.row)))

pub reads : (p : List ℕ) (d : Document) (before after : List ℕ) (a : Answer) → Told of_checked (Read p d before after) a
    → ByOrder (read_check p d (length before)) a (after ≡ before)
reads p d before after a =
    told (λ x h. rw (← h.answered) (checks x (λ why e. rw e at h.row)))

pub deletes : (p : List ℕ) (d : Document) (before after : List ℕ) (a : Answer) → Told of_deleted (Delete p d before after) a → ByOrder (delete_check p d) a (after ≡ before)
deletes p d before after a = told one
  where
    one : (x : Result ℕ Refusal) → Delete p d before after x → ByOrder (delete_check p d) (of_deleted x) (after ≡ before)
    one (Ok n) h = was_fine (removed_fine _ _ h.answered) refl
    one (Err why) h = was_refused (kept_told _ _ h.answered) (delete_same h)

pub inserts : (p x : List ℕ) (d : Document) (rows₀ marks₀ ids₀ rows₁ marks₁ ids₁ : List ℕ) (a : Answer) → Told of_inserted (Insert p x d rows₀ marks₀ ids₀ rows₁ marks₁ ids₁) a
    → ByOrder (insert_check p x d) a ((rows₁ ≡ rows₀) × (marks₁ ≡ marks₀) × (ids₁ ≡ ids₀))
inserts p x d rows₀ marks₀ ids₀ rows₁ marks₁ ids₁ a = told one
  where
    one : (y : Result Inserted Refusal) → Insert p x d rows₀ marks₀ ids₀ rows₁ marks₁ ids₁ y → ByOrder (insert_check p x d) (of_inserted y) ((rows₁ ≡ rows₀) × (marks₁ ≡ marks₀) × (ids₁ ≡ ids₀))
    one (Ok made) h = was_fine (copied_fine _ _ _ _ (sym h.answered)) refl
    one (Err why) h = was_refused (refused_told _ _ _ _ (sym h.answered)) (insert_same h)

pub compactions : (d : Document) (rows₀ marks₀ ids₀ rows₁ marks₁ ids₁ : List ℕ) (a : Answer) → Told of_compacted (Compact d rows₀ marks₀ ids₀ rows₁ marks₁ ids₁) a
    → ByOrder (whole_check d) a ((rows₁ ≡ rows₀) × (marks₁ ≡ marks₀) × (ids₁ ≡ ids₀))
compactions d rows₀ marks₀ ids₀ rows₁ marks₁ ids₁ a = told one
  where
    one : (x : Result Compacted Refusal) → Compact d rows₀ marks₀ ids₀ rows₁ marks₁ ids₁ x → ByOrder (whole_check d) (of_compacted x) ((rows₁ ≡ rows₀) × (marks₁ ≡ marks₀) × (ids₁ ≡ ids₀))
    one (Ok done) h = was_fine (closed_fine (whole_check d) _ _ h.answered) refl
    one (Err why) h = was_refused (compact_told h) (compact_same h)

pub mends : (d : Document) (marks₀ list₀ marks₁ list₁ : List ℕ) (a : Answer) → Told of_mended (Mend d marks₀ list₀ marks₁ list₁) a
    → ByOrder (mend_check d (length list₀)) a ((marks₁ ≡ marks₀) × (list₁ ≡ list₀))
mends d marks₀ list₀ marks₁ list₁ a = told one
  where
    one : (x : Result ℕ Refusal) → Mend d marks₀ list₀ marks₁ list₁ x → ByOrder (mend_check d (length list₀)) (of_mended x) ((marks₁ ≡ marks₀) × (list₁ ≡ list₀))
    one (Ok n) h = was_fine (changed_fine _ _ h.answered) refl
    one (Err why) h = was_refused (mend_told h) (mend_same h)

-- verdicts
pub verdicts : (r : List ℕ) (u : Update) (before after : List ℕ) (a : Answer) → Told of_verdict (NodeVerdict r u before after) a
    → ByOrder (verdict_check r u (length before)) a (after ≡ before)
verdicts r u before after a = told one
  where
    one : (x : Result (Option ℕ) Refusal) → NodeVerdict r u before after x → ByOrder (verdict_check r u (length before)) (of_verdict x) (after ≡ before)
    one (Ok None) h = was_fine h.fine refl
    one (Ok (Some n)) h = was_fine h.fine refl
    one (Err why) h = was_refused h.given h.kept

pub deeps : (r : List ℕ) (u : Update) (a : Answer) → Told of_deeply (DeepVerdict r u) a → ByOrder (deep_check r u) a Nothing
deeps r u a = told one
  where
    one : (x : Result Bool Refusal) → DeepVerdict r u x → ByOrder (deep_check r u) (of_deeply x) Nothing
    one (Ok false) h = was_fine h.fine refl
    one (Ok true) h = was_fine h.fine refl
    one (Err why) h = was_refused h tt

pub evidences : (r : List ℕ) (u : Update) (t : List ℕ) (a : Answer) → Told of_evidence (Checks r u t) a → ByOrder (evidence_check r u t) a Nothing
evidences r u t a = told one
  where
    one : (x : Result (Option ℕ) Refusal) → Checks r u t x → ByOrder (evidence_check r u t) (of_evidence x) Nothing
    one (Ok None) h = was_fine h.fine refl
    one (Ok (Some v)) h = was_fine h.fine refl
    one (Err why) h = was_refused h tt

-- batches
pub walks : (b : List ℕ) (n at : ℕ) → ByOrder (walk_check b n at) (of_stepped (step_at b n at)) Nothing
unfolding walk_check step_at frame_at
walks b n at = go (leb (length b) batch_limit) (ltb at (length b)) (frame_check b n at)
  where
    go : (s t : Bool) (c : Checked)
        → ByOrder (test s (refuse 10 6 batch_limit) then cond t c Fine)
        (of_stepped (cond s (cond t (answer_of (answered c (frame_of b at))) (Ok None)) (Err (record { reason = numbered 10; table = 6; place = batch_limit }))))
        Nothing
    go true true (Ok tt) = was_fine refl refl
    go true true (Err why) = was_refused refl tt
    go true false c = was_fine refl refl
    go false t c = was_refused refl tt

planned_by : {order : Checked} → (Related : List ℕ → Update → Type 0) (b before after : List ℕ) (x : Result ℕ Refusal) → PlanBy order Related b before after x
    → ByOrder order (of_planned x) (after ≡ before)
planned_by Related b before after (Ok n) h = was_fine h.0 refl
planned_by Related b before after (Err why) h = was_refused h.0 h.1

pub plans_in : (m : ℕ) (b before after : List ℕ) (a : Answer) → Told of_planned (PlanIn m b before after) a → ByOrder (plan_in_check m b (length before)) a (after ≡ before)
plans_in m b before after a = told (planned_by (relation_of (mode_of m)) b before after)

pub plans : (b before after : List ℕ) (a : Answer) → Told of_planned (Plan b before after) a → ByOrder (plan_check b (length before)) a (after ≡ before)
plans b before after a = told (planned_by Deep b before after)

-- lines
pub lines_in : (s : List ℕ) (line : ℕ) (before after : List ℕ) (a : Answer) → Told of_parsed (ReadAs s line before after) a
    → ByOrder (line_check s line then output_check (length s / 4) (length before)) a (after ≡ before)
lines_in s line before after a = told one
  where
    one : (x : Result ℕ Refusal) → ReadAs s line before after x → ByOrder (line_check s line then output_check (length s / 4) (length before)) (of_parsed x) (after ≡ before)
    one (Ok n) h = was_fine h.0 refl
    one (Err why) h = was_refused h.0 h.1

pub lines_out : (ws before after : List ℕ) (a : Answer) → Told of_spelled (WrittenAs ws before after) a → ByOrder (output_check (4 * length ws) (length before)) a (after ≡ before)
lines_out ws before after a = told one
  where
    one : (x : Result ℕ Refusal) → WrittenAs ws before after x → ByOrder (output_check (4 * length ws) (length before)) (of_spelled x) (after ≡ before)
    one (Ok n) h = was_fine h.0 refl
    one (Err why) h = was_refused h.0 h.1

pub patterns_in : (l s before after : List ℕ) (a : Answer) → Told of_parsed (ReadText l s before after) a → ByOrder (read_text_check l s (length before)) a (after ≡ before)
patterns_in l s before after a = told one
  where
    one : (x : Result ℕ Refusal) → ReadText l s before after x → ByOrder (read_text_check l s (length before)) (of_parsed x) (after ≡ before)
    one (Ok n) h = was_fine h.0 refl
    one (Err why) h = was_refused h.0 h.1

pub patterns_out : (l p before after : List ℕ) (a : Answer) → Told of_printed (WriteText l p before after) a → ByOrder (write_text_check l p (length before)) a (after ≡ before)
patterns_out l p before after a = told one
  where
    one : (x : Result ℕ Refusal) → WriteText l p before after x → ByOrder (write_text_check l p (length before)) (of_printed x) (after ≡ before)
    one (Ok n) h = was_fine h.0 refl
    one (Err why) h = was_refused h.0 h.1

pub trees_out : (t before after : List ℕ) (a : Answer) → Told of_printed (WriteTree t before after) a → ByOrder (write_tree_check t (length before)) a (after ≡ before)
trees_out t before after a = told one
  where
    one : (x : Result ℕ Refusal) → WriteTree t before after x → ByOrder (write_tree_check t (length before)) (of_printed x) (after ≡ before)
    one (Ok n) h = was_fine h.0 refl
    one (Err why) h = was_refused h.0 h.1

pub trees_in : (s before after : List ℕ) (a : Answer) → Told of_parsed (ReadTree s before after) a → ByOrder (read_tree_check s (length before)) a (after ≡ before)
trees_in s before after a = told one
  where
    one : (x : Result ℕ Refusal) → ReadTree s before after x → ByOrder (read_tree_check s (length before)) (of_parsed x) (after ≡ before)
    one (Ok n) h = was_fine h.0 refl
    one (Err why) h = was_refused h.0 h.1

pub prints : (s before after : List ℕ) (answer : Result ℕ Refusal) (h : PrintedAs s before after answer) → ByOrder (output_check (length h.text) (length before)) (of_printed answer) (after ≡ before)
prints s before after (Ok n) h = was_fine h.answered.0 refl
prints s before after (Err why) h = was_refused h.answered.0 h.answered.1
