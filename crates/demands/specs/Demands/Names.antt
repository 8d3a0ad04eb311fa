-- The names that the pages of the demands and of the requests cite: where each is defined and, of a promise, which function makes it. An exported function, sloefertand_ and the
-- call's name, or sloefertand_v2_ and that of a call that takes identities, promises the same, by the numbers of the answer.

-- numbers, lists and logic, of the kit's library; Perm xs ys: ys has what xs has, in some order
pub use Rattle.std.specs.Prelude.{ℕ, suc, ◌+◌, ◌*◌, ◌-◌, ◌/◌, ◌<◌, ◌≤◌, ◌≡◌, Bool, true, false, Option, Some, None, Result, Ok, Err, ◌⊎◌, ◌↔◌, ◌≢◌, length, get_or, set, take, drop}
pub use mathlib.Core.List.{List, [], ◌∷◌, ◌++◌, map, Perm}
-- words of tables, documents, refusals; the checks of patterns, trees and documents are promised by the functions of those names
pub use Rattle.tables.specs.Limits.{tree_limit, batch_limit, digit_limit}
pub use Rattle.tables.specs.Words.{steps, axis, nodes, tag, Bits16}
pub use Rattle.tables.specs.Patterns.{Pattern}
pub use Rattle.tables.specs.Documents.{Doc, doc, bare, mark, present, Sound}
pub use Rattle.tables.specs.declared.refusal.Refusal.{Refusal}
pub use Rattle.tables.specs.Refusals.{number as reason_number}
pub use Rattle.tables.specs.Checks.{Checked, Fine, ◌then◌, refuse, output_check, pattern_check, tree_check, used_check, shape_check}
-- the numbers that go out to C: what each exported function returns
pub use Rattle.outcomes.specs.declared.updates.Inserted.{Inserted}
pub use Rattle.outcomes.specs.declared.updates.Compacted.{Compacted}
pub use Rattle.c_answer.specs.declared.answer.Answer.{Answer}
pub use Rattle.c_answer.specs.Answers.{refusing, Told}
pub use Rattle.c_numbers.specs.Numbers.{of_checked, of_deleted, of_inserted, of_compacted, of_mended, of_verdict, of_deeply, of_evidence}
pub use Rattle.c_numbers.specs.Numbers.{of_stepped, of_planned, of_parsed, of_spelled, of_printed}
-- selection: by embeddings, in rows, computed
pub use Rattle.selection.specs.Lists.{count}
pub use Rattle.selection.specs.Embeddings.{Selects}
pub use Rattle.selection.specs.Showing.{SameNodes, SameBelow}
pub use Rattle.selection.specs.Rows.{Row}
pub use Rattle.selection.specs.Ways.{selected}
pub use Rattle.selection.specs.Operations.{copies}
-- documents with identities: whole_check is promised by whole and by check_document; what an update does to them, and the sets of identities that a read selects
pub use Rattle.identities.specs.Documents.{Document, document as document_of, identity, Identified, SoundDocument}
pub use Rattle.identities.specs.Checks.{identities_check, whole_check}
pub use Rattle.identities.specs.Updates.{after_in as after-in, nameable, room_of, fits_in}
pub use Rattle.identities.specs.Compaction.{dropped, compacted}
pub use Rattle.identities.specs.Showing.{SameIdentities, SameIdentitiesBelow}
pub use Rattle.identities.specs.Conflict.{DiffersIn, ConflictIn}
-- documents: PlainRead is promised by plain_reading, Read by read, Delete by delete, Insert by insert, Compact by compact, Mend by mend
pub use Rattle.check_plain.specs.Bare.{plain_check}
pub use Rattle.doc_plain.specs.Plain.{PlainRead}
pub use Rattle.check_read.specs.Readable.{read_check}
pub use Rattle.doc_read.specs.Reading.{Read}
pub use Rattle.doc_updates.specs.Updating.{delete_check, insert_check, delete_refusal, Delete, Insert}
pub use Rattle.doc_compact.specs.Compacting.{Compact}
pub use Rattle.doc_mend.specs.Promise.{mend_check, Mend}
pub use Rattle.mending.specs.ByWords.{MendedBy}
pub use Rattle.mending.specs.Sets.{SoundSet, LargestSound}
pub use Rattle.mending.specs.Undoing.{undone, redone}
pub use Rattle.demands.specs.Updates.{DeletedBy, AllDeletedBy, InsertedBy, NamedBy, Compacts, ClosedBy, Mends}
-- verdicts: NodeVerdict is promised by delete_verdict and insert_verdict, DeepVerdict by deep_delete_verdict and deep_insert_verdict, Checks by
-- delete_evidence and insert_evidence
pub use Rattle.conflict.specs.Conflict.{Update, delete, insert, pattern, after as after-update, UpdateBits, Differs, Witness, Conflict, Smallest, Deep, SmallestWitness, Chain}
pub use Rattle.check_verdict.specs.Order.{verdict_check, deep_check}
pub use Rattle.verdict.specs.Promise.{NodeVerdict, witness_nodes}
pub use Rattle.verdict_deep.specs.Promise.{DeepVerdict}
pub use Rattle.check_evidence.specs.Order.{evidence_check}
pub use Rattle.verdict_evidence.specs.Promise.{Lost, Gained, Checks, shown_node}
pub use Rattle.marked.specs.Marked.{Marked}
-- batches: step_at is promised by the walker's next and by step, place_after and number_after by its moved, Plan by plan, PlanIn by plan_in, PlanOf by plan_by
pub use Rattle.order.specs.Frames.{Frame, At, read, update, earlier, number}
pub use Rattle.batch_walk.specs.Walking.{walk_check, step_at, place_after, number_after}
pub use Rattle.batch_walk.specs.Walk.{call_place, call_gives, first_parts, GivesFrame, StopsAt}
pub use Rattle.batch_frame.specs.Faults.{named}
pub use Rattle.batch_check.specs.Batches.{batch_of, batch_check, plan_check}
pub use Rattle.batch_mode.specs.Modes.{relation_of, mode_check, mode_of}
pub use Rattle.batch_mode.specs.declared.Mode.{Mode}
pub use Rattle.batch_mode.specs.declared.Mode.TheVariants as mode
pub use Rattle.batch_plan.specs.Batch.{PlanBy, PlanOf, Plan, plan_in_check, PlanIn, SlotIs}
-- orders of a batch, and a batch run call by call: when two runs give the same
pub use Rattle.order.specs.Order.{Stands, Before, own}
pub use Rattle.order_calls.specs.Calls.{Reply, Called, called, Run, Has, Runs, NoRoom, NoIdentities, Works, SameRuns}
-- deletes called one after another, each call by Delete
pub use Rattle.order_deletes.specs.Deletes.{with_marks, Deletes, total, CalledInTurn, abc, a/b, a//c}
-- a batch run after a compaction and without it: what is the same, but for the numbers of nodes
pub use Rattle.order_compaction.specs.Numbers.{SameBatch, Roomy, Refuses}
-- installations with other limits: their checks, and what one answers to what another accepts
pub use Rattle.older.specs.Installations.{Installation, ours, before_longer, Within, longest, frame_in, take_in, batch_in, plan_in, pair_in, verdict_in}
pub use Rattle.older.specs.Answers.{to_frame, to_line, read_of_65}
pub use Rattle.batch_frame.specs.Frames.{frame_check, frame_of, answered}
pub use Rattle.outcomes.specs.declared.frames.Extent.{Extent}
-- wider reads, updates and batches, and the examples of them
pub use Rattle.wider.specs.Wider.{WiderPattern, WiderTree, WiderUpdate, Wider, Accepted, Widened}
pub use Rattle.wider.specs.Batches.{WiderFrames, WidenedRead}
pub use Rattle.wider.specs.Examples.{OnlyWider, a/c, a/any, a//d, c_alone, c_and_d}
-- lines: ReadAs is promised by read_line, WrittenAs by write_line
pub use Rattle.text_line_in.specs.Lines.{line_check, ReadAs}
pub use Rattle.text_line_out.specs.Spelling.{WrittenAs}
-- patterns as text: ReadText is promised by read_pattern, WriteText by write_pattern
pub use Rattle.text_names.specs.Names.{NameList, BreaksAt, lines, list_check}
pub use Rattle.text_parts.specs.Starts.{Longest}
pub use Rattle.text_pattern.specs.Texts.{RightText}
pub use Rattle.text_pattern.specs.Meaning.{steps_of, text_check}
pub use Rattle.text_pattern_in.specs.Reading.{read_text_check, ReadText}
pub use Rattle.text_pattern_out.specs.Writing.{write_text_check, WriteText}
-- trees as tags: WriteTree is promised by write_tree, ReadTree by read_tree
pub use Rattle.selection.specs.Embeddings.{Child}
pub use Rattle.text_xml.specs.Decimal.{decimal, Decimal}
pub use Rattle.text_xml.specs.Tags.{child_of, children, element_of, tags_of, tree_text, tree_bytes}
pub use Rattle.text_xml_out.specs.Writing.{write_tree_check, WriteTree}
pub use Rattle.text_xml_form.specs.Elements.{written, RightTags, tree_of, shortened}
pub use Rattle.text_xml_form.specs.Numbering.{starts, InOrder, Renumbered}
pub use Rattle.text_xml_in.specs.Reading.{tags_check, read_tree_check, ReadTree}
-- the printer: PrintedAs is promised by print
pub use Rattle.text_first_line.specs.FirstLine.{first_words, ModeLine, mode_line_check, behind_first, node_line, deep_line}
pub use Rattle.text_plan_lines.specs.Printing.{refusal_text}
pub use Rattle.text_printer.specs.Printer.{take_check, Lines, stopped, taken, offset_in, PrintsFrames, Prints, PrintedAs}
pub use Rattle.text_printer.specs.Faults.{LineFault}
pub use Rattle.text_printer.specs.Enough.{printed_most, input_most}
