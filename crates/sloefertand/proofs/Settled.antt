-- Two answers with their buffers that meet a promise are the same.
use Rattle.std.specs.Prelude.{Option, Some, None, Result, Ok, Err}
use Rattle.tables.specs.declared.refusal.Refusal.{Refusal}
use Prim.Native.Nat.{ℕ, ◌*◌}
use mathlib.Core.Path.{◌≡◌, refl, sym, ap, subst, ◌∙◌}
use mathlib.Core.List.{List}
use lib.ListN.{length, drop}
use Rattle.identities.specs.Documents.{Document}
use Rattle.doc_plain.specs.Plain.{PlainRead}
use Rattle.doc_plain.proofs.Promise.{plain_one}
use Rattle.doc_read.specs.Reading.{Read}
use Rattle.doc_read.proofs.Laws.{read_one}
use Rattle.doc_updates.specs.Updating.{Delete, Insert}
use Rattle.doc_updates.proofs.Settled.{delete_one, insert_one}
use Rattle.doc_compact.specs.Compacting.{Compact}
use Rattle.doc_compact.proofs.Laws.{compact_one}
use Rattle.doc_mend.specs.Promise.{Mend}
use Rattle.doc_mend.proofs.Laws.{mend_one}
use Rattle.conflict.specs.Conflict.{Update}
use Rattle.verdict.specs.Promise.{NodeVerdict, witness_nodes}
use Rattle.verdict.proofs.Promise.{verdict_one}
use Rattle.verdict_deep.specs.Promise.{DeepVerdict}
use Rattle.verdict_deep.proofs.Promise.{deep_one}
use Rattle.verdict_evidence.specs.Promise.{Checks}
use Rattle.verdict_evidence.proofs.Promise.{evidence_one}
use Rattle.conflict.specs.Conflict.{Deep}
use Rattle.batch_mode.specs.Modes.{relation_of, mode_of}
use Rattle.batch_check.specs.Batches.{plan_check}
use Rattle.batch_plan.specs.Batch.{Plan, PlanIn, plan_in_check}
use Rattle.batch_plan.proofs.Laws.{plan_one}
use Rattle.text_line_in.specs.Lines.{ReadAs}
use Rattle.text_line_in.proofs.Promise.{read_one as line-one}
use Rattle.text_line_out.specs.Spelling.{WrittenAs}
use Rattle.text_line_out.proofs.Promise.{write_one}
use Rattle.text_pattern_in.specs.Reading.{ReadText}
use Rattle.text_pattern_in.proofs.Promise.{read_one as pattern-one}
use Rattle.text_pattern_out.specs.Writing.{WriteText}
use Rattle.text_pattern_out.proofs.Promise.{write_one as text_one}
use Rattle.text_xml_in.specs.Reading.{ReadTree}
use Rattle.text_xml_in.proofs.Promise.{read_one as tags-one}
use Rattle.text_xml_out.specs.Writing.{WriteTree}
use Rattle.text_xml_out.proofs.Promise.{tree_one}
use Rattle.text_printer.specs.Printer.{PrintedAs}
use Rattle.text_printer.proofs.Settled.{printed_one}
use Rattle.c_answer.specs.Answers.{Told}
use Rattle.c_numbers.specs.Numbers.{of_checked, of_deleted, of_inserted, of_compacted, of_mended, of_verdict, of_deeply, of_evidence, of_planned, of_parsed, of_spelled, of_printed}
use Rattle.c_answer.specs.declared.answer.Answer.{Answer}

-- where the promises settle the answer and something more by its numbers, so do the numbers
told_one : {E : Type 0} {numbers : E → Answer} {P Q : E → Type 0} (more : Answer → Type 0) {a b : Answer} →
    ((x y : E) → P x → Q y → (x ≡ y) × more (numbers x)) → Told numbers P a → Told numbers Q b → (a ≡ b) × more a
told_one {numbers = numbers} more one f g =
    let both = one f.answer g.answer f.promised g.promised in
    (f.shown ∙ ap numbers both.0 ∙ sym g.shown, subst more (sym f.shown) both.1)

module _ {a b : Answer} (before one two : List ℕ) where
  pub plain_told : (p t : List ℕ) → Told of_checked (PlainRead p t before one) a → Told of_checked (PlainRead p t before two) b → (a ≡ b) × (one ≡ two)
  plain_told p t = told_one (λ _. one ≡ two) (λ x y. plain_one)

  pub read_told : (p : List ℕ) (d : Document) → Told of_checked (Read p d before one) a → Told of_checked (Read p d before two) b → (a ≡ b) × (one ≡ two)
  read_told p d = told_one (λ _. one ≡ two) (λ x y f g. let both = read_one f g in (both.1, both.0))

  pub delete_told : (p : List ℕ) (d : Document) → Told of_deleted (Delete p d before one) a → Told of_deleted (Delete p d before two) b → (a ≡ b) × (one ≡ two)
  delete_told p d = told_one (λ _. one ≡ two) (λ x y. delete_one)

  -- all behind the witness, whose words are free
  pub verdict_told : (r : List ℕ) (u : Update) → Told of_verdict (NodeVerdict r u before one) a → Told of_verdict (NodeVerdict r u before two) b
      → (a ≡ b) × (drop (2 * a.first) one ≡ drop (2 * a.first) two)
  verdict_told r u = told_one (λ (c : Answer). drop (2 * c.first) one ≡ drop (2 * c.first) two) by_nodes
    where
      nodes : (x : Result (Option ℕ) Refusal) → witness_nodes x ≡ (of_verdict x).first
      nodes (Ok None) = refl
      nodes (Ok (Some n)) = refl
      nodes (Err r) = refl

      by_nodes : (x y : Result (Option ℕ) Refusal) → NodeVerdict r u before one x → NodeVerdict r u before two y
          → (x ≡ y) × (drop (2 * (of_verdict x).first) one ≡ drop (2 * (of_verdict x).first) two)
      by_nodes x y f g =
          let both = verdict_one r u before one two x y f g in
          (both.0, rw (nodes x) at both.1)

  pub plan_told : (words : List ℕ) → Told of_planned (Plan words before one) a → Told of_planned (Plan words before two) b → (a ≡ b) × (one ≡ two)
  plan_told words = told_one (λ _. one ≡ two) (plan_one Deep (plan_check words (length before)) words before)

  pub plan_in_told : (mode : ℕ) (words : List ℕ) → Told of_planned (PlanIn mode words before one) a → Told of_planned (PlanIn mode words before two) b → (a ≡ b) × (one ≡ two)
  plan_in_told mode words = told_one (λ _. one ≡ two) (plan_one (relation_of (mode_of mode)) (plan_in_check mode words (length before)) words before)

  pub line_told : (s : List ℕ) (line : ℕ) → Told of_parsed (ReadAs s line before one) a → Told of_parsed (ReadAs s line before two) b → (a ≡ b) × (one ≡ two)
  line_told s line = told_one (λ _. one ≡ two) (line-one s line before one two)

  pub spelled_told : (ws : List ℕ) → Told of_spelled (WrittenAs ws before one) a → Told of_spelled (WrittenAs ws before two) b → (a ≡ b) × (one ≡ two)
  spelled_told ws = told_one (λ _. one ≡ two) (write_one ws before one two)

  pub pattern_told : (l s : List ℕ) → Told of_parsed (ReadText l s before one) a → Told of_parsed (ReadText l s before two) b → (a ≡ b) × (one ≡ two)
  pattern_told l s = told_one (λ _. one ≡ two) (pattern-one l s before one two)

  pub text_told : (l p : List ℕ) → Told of_printed (WriteText l p before one) a → Told of_printed (WriteText l p before two) b → (a ≡ b) × (one ≡ two)
  text_told l p = told_one (λ _. one ≡ two) (text_one l p before one two)

  pub tree_told : (t : List ℕ) → Told of_printed (WriteTree t before one) a → Told of_printed (WriteTree t before two) b → (a ≡ b) × (one ≡ two)
  tree_told t = told_one (λ _. one ≡ two) (tree_one t before one two)

  pub tags_told : (s : List ℕ) → Told of_parsed (ReadTree s before one) a → Told of_parsed (ReadTree s before two) b → (a ≡ b) × (one ≡ two)
  tags_told s = told_one (λ _. one ≡ two) (tags-one s before one two)

  pub printed_told : (s : List ℕ) → Told of_printed (PrintedAs s before one) a → Told of_printed (PrintedAs s before two) b → (a ≡ b) × (one ≡ two)
  printed_told s = told_one (λ _. one ≡ two) (printed_one s before one two)

module _ {a b : Answer} (rows₀ marks₀ ids₀ rows₁ marks₁ ids₁ rows₂ marks₂ ids₂ : List ℕ) where
  pub insert_told : (p x : List ℕ) (d : Document) → Told of_inserted (Insert p x d rows₀ marks₀ ids₀ rows₁ marks₁ ids₁) a → Told of_inserted (Insert p x d rows₀ marks₀ ids₀ rows₂ marks₂ ids₂) b
      → (a ≡ b) × ((rows₁ ≡ rows₂) × (marks₁ ≡ marks₂) × (ids₁ ≡ ids₂))
  insert_told p x d = told_one (λ _. (rows₁ ≡ rows₂) × (marks₁ ≡ marks₂) × (ids₁ ≡ ids₂)) (λ x y f g. let all = insert_one f g in (all.0, (all.1, all.2, all.3)))

  pub compact_told : (d : Document) → Told of_compacted (Compact d rows₀ marks₀ ids₀ rows₁ marks₁ ids₁) a → Told of_compacted (Compact d rows₀ marks₀ ids₀ rows₂ marks₂ ids₂) b
      → (a ≡ b) × ((rows₁ ≡ rows₂) × (marks₁ ≡ marks₂) × (ids₁ ≡ ids₂))
  compact_told d = told_one (λ _. (rows₁ ≡ rows₂) × (marks₁ ≡ marks₂) × (ids₁ ≡ ids₂)) (λ x y f g. let all = compact_one f g in (all.0, (all.1, all.2, all.3)))

pub mend_told : {a b : Answer} (d : Document) (marks₀ list₀ marks₁ list₁ marks₂ list₂ : List ℕ) → Told of_mended (Mend d marks₀ list₀ marks₁ list₁) a →
    Told of_mended (Mend d marks₀ list₀ marks₂ list₂) b → (a ≡ b) × ((marks₁ ≡ marks₂) × (list₁ ≡ list₂))
mend_told d marks₀ list₀ marks₁ list₁ marks₂ list₂ =
    told_one (λ _. (marks₁ ≡ marks₂) × (list₁ ≡ list₂)) (λ x y f g. let all = mend_one f g in (all.0, (all.1, all.2)))

-- a deep verdict has no buffer
pub deep_told : {a b : Answer} (r : List ℕ) (u : Update) → Told of_deeply (DeepVerdict r u) a → Told of_deeply (DeepVerdict r u) b → a ≡ b
deep_told {a} {b} r u f g = (told_one (λ _. ℕ) (λ x y h k. (deep_one r u x y h k, 0)) f g).0

-- neither has the check of a proposed tree
pub evidence_told : {a b : Answer} (r : List ℕ) (u : Update) (t : List ℕ) → Told of_evidence (Checks r u t) a → Told of_evidence (Checks r u t) b → a ≡ b
evidence_told r u t f g = (told_one (λ _. ℕ) (λ x y h k. (evidence_one r u t x y h k, 0)) f g).0
