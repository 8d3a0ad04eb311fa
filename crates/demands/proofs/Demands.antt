-- The three demands hold, and so does what stands beside them.
use Rattle.std.specs.Prelude.{true, Option, Some, None, Result, Ok, Err}
use Rattle.tables.specs.declared.refusal.Refusal.{Refusal}
use Rattle.tables.specs.Checks.{Fine}
use Prim.Native.Nat.{ℕ, ◌*◌, ◌<◌}
use mathlib.Core.Path.{◌≡◌, refl, sym, ◌∙◌}
use mathlib.Core.Bool.{Bool, false}
use mathlib.Core.List.{List, ◌++◌}
use mathlib.Core.Logic.{◌↔◌, inl, inr}
use native.Mathlib.Omega.{arith}
use lib.ListN.{length, take, drop}
use lib.Seq.{drop_at}
use Rattle.tables.specs.Limits.{tree_limit}
use Rattle.tables.specs.Words.{Bits16}
use Rattle.tables.specs.Documents.{bare, Sound}
use Rattle.tables.proofs.Accepted.{never}
use Rattle.tables.proofs.Soundness.{accepted_tree}
use Rattle.selection.specs.Embeddings.{Selects}
use Rattle.identities.specs.Documents.{Document, document}
use Rattle.identities.proofs.Checks.{identified_exactly, whole_sound}
use Rattle.identities.proofs.Updates.{deleted_ids, deleted-next, after_identified}
use Rattle.identities.proofs.Showing.{identity_one, below_identities}
use Rattle.identities.proofs.Conflict.{after_tables}
use Rattle.selection.specs.Operations.{copies}
use Rattle.selection.proofs.Selecting.{selecting}
use Rattle.doc_updates.proofs.Accepted.{delete_document, delete_pattern, insert_document, insert_pattern, insert_tree}
use Rattle.doc_updates.proofs.Deletes.{removed_tables, delete_doc, delete_count, delete_behind, delete_length}
use Rattle.doc_updates.proofs.Inserts.{insert_fine, insert_number, insert_tables, insert_doc, insert_words_behind, insert_marks_behind, insert_rows_length, insert_marks_length}
use Rattle.conflict.specs.Conflict.{Update, UpdateBits, delete, insert, pattern, Conflict, SmallestWitness, Chain}
use Rattle.conflict.proofs.Deletes.{lost-selected}
use Rattle.conflict.proofs.Chained.{decided_chain}
use Rattle.check_verdict.specs.Order.{verdict_check, deep_check}
use Rattle.check_verdict.proofs.Accepting.{patterns_read, patterns_update, delete_patterns, delete_two}
use Rattle.verdict_ways.proofs.Deciding.{delete_deciding, insert_deciding}
use Rattle.verdict.specs.Promise.{NodeVerdict, witness_nodes}
use Rattle.verdict_deep.specs.Promise.{DeepVerdict}
use Rattle.verdict_evidence.proofs.Promise.{delete_none_gained, insert_none_lost, gained_new}
use Rattle.marked.proofs.Marked.{marked}
use Rattle.order.proofs.Own.{own_order}
use Rattle.order.specs.Fitting.{DecidedBy}
use Rattle.order.proofs.Deciding.{conflicting_decides, deeply_decides}
use Rattle.batch_check.specs.Batches.{batch_of}
use Rattle.batch_check.proofs.Frames.{accepted_fits}
use Rattle.batch_mode.proofs.Branches.{check_exactly}
use Rattle.batch_plan.proofs.Laws.{same_slot}
use Rattle.order_calls.proofs.Callable.{accepted_callable}
use Rattle.order_calls.proofs.Running.{run-has, run_works, run_identities, run_room, run_some}
use Rattle.order_calls.proofs.Accepting.{AcceptedDocument, whole_accepted}
use Rattle.order_calls.proofs.Demand.{Shown, nodes_shown, below_shown}
use Rattle.order_calls.proofs.Same.{shown_runs}
use Rattle.order_deletes.proofs.Calls.{call_fine}
use Rattle.batch_walk.proofs.Laws.{refused_stays, over-stays}
use Rattle.batch_walk.proofs.Walk.{parts_join, walk_frames, walk_over, walk_whole, walk_stops, walk_long}
use Rattle.text_digits.specs.Digits.{words_of, line_of}
use Rattle.text_digits.proofs.Returning.{length-words_of, length-line_of}
use Rattle.text_names.specs.Names.{lines}
use Rattle.text_names.proofs.Lists.{list_right, right_list}
use Rattle.text_pattern.specs.Meaning.{steps_of, words_of as pattern_of, text_of}
use Rattle.text_pattern.proofs.Returning.{length_words}
use Rattle.text_xml.specs.Tags.{tree_text}
use Rattle.text_xml.proofs.Decimal.{decimal_right, decimal_only}
use Rattle.text_xml.proofs.Tags.{child_child, each-same_way, only_way}
use Rattle.text_xml.proofs.Bytes.{tree_bytes_lem}
use Rattle.text_xml_form.specs.Rows.{rows_of}
use Rattle.text_xml_form.proofs.Same.{same_text}
use Rattle.text_printer.proofs.Settled.{printed_one}
use Rattle.text_printer.proofs.Enough.{room_enough}
use Rattle.text_printer.proofs.Behind.{prints_first}
use Rattle.text_printer.proofs.Offsets.{offset_none, line_fault, stop_offset}
use Rattle.doc_mend.proofs.Refusing.{never_marks}
use Rattle.demands.specs.Demands.{DemandOne, DemandTwo, Start, DemandThree, InBothModes, Besides}
use Rattle.text_printer.specs.Printer.{refusal, named, misnamed}
use Rattle.text_printer.proofs.Moded.{moded_plan}
use Rattle.text_first_line.specs.FirstLine.{first_words}
use Rattle.text_first_line.proofs.Laws.{mode_refused_numbers}
use Rattle.text_first_line.proofs.Example.{node_named, deep_named}
use Rattle.demands.proofs.Numbering.{every_number}
use Rattle.demands.proofs.Orders as orders
use Rattle.demands.proofs.Texts.{lists_place, list_lines, texts, texts_place, text_steps, written_reads, read_writes}
use Rattle.demands.proofs.Tags.{tags_enough, tags_reached, witness_text}
use Rattle.demands.proofs.TagsIn.{tags, tags_place, read_means, read_in_order, read_sound, read_again, written_back, written_same}
use Rattle.demands.proofs.Evidence.{evidence_exactly, first_changed, own_accepted, accepted_conflict}
use Rattle.demands.proofs.Updates.{deleted_by, inserted_by, named_by}
use Rattle.demands.proofs.Identities.{differences, by_identities, same_delete, ids_behind}
use Rattle.demands.proofs.Agreeing.{read_rows, readings_agree}
use Rattle.demands.proofs.Keeping.{keeps_order, order_keeps}
use Rattle.demands.proofs.Example.{reads, deletes, clear, clear_deep, start, moved_plan, moved_keeps, slots_differ}
use Rattle.demands.proofs.Modes.{named_node, named_deep, deeper, not_nodes}

pub demand_one : DemandOne
demand_one =
    record {
      patterns = orders.patterns;
      trees = orders.trees;
      documents = orders.documents;
      plain = orders.plains;
      reads = orders.reads;
      deletes = orders.deletes;
      inserts = orders.inserts;
      compactions = orders.compactions;
      mends = orders.mends;
      verdicts = orders.verdicts;
      deeps = orders.deeps;
      evidences = orders.evidences;
      walks = orders.walks;
      plans = orders.plans;
      plans_in = orders.plans_in;
      lines_in = orders.lines_in;
      lines_out = orders.lines_out;
      patterns_in = orders.patterns_in;
      patterns_out = orders.patterns_out;
      trees_out = orders.trees_out;
      trees_in = orders.trees_in;
      identities = identified_exactly;
      mends_never = λ d words why. never_marks d words;
      lists = λ l. (list_right l, right_list l);
      lists_place = lists_place;
      texts = texts;
      texts_place = texts_place;
      tags = tags;
      tags_place = tags_place;
      modes = check_exactly;
      prints = orders.prints;
      prints_one = printed_one;
      prints_refusal = λ s line before why h. every_number why;
      prints_fault = λ l n b why e line ten. line_fault l n b why line ten e;
      prints_offset = λ s line before why h not-Line ten. stop_offset not-Line ten h;
      prints_none = offset_none;
      prints_mode = λ s why mode e. (every_number why, mode_refused_numbers (first_words s) e, misnamed mode e);
      prints_below = λ s line before why mode e lines. named mode e (refusal lines);
    }

-- where it is not refused, the verdict's count tells whether there is a conflict
exactly : (r : List ℕ) (u : Update) (before out : List ℕ) (answer : Result (Option ℕ) Refusal) → NodeVerdict r u before out answer → verdict_check r u (length before) ≡ Fine → (0 < witness_nodes answer) ↔ Conflict r u
exactly r u before out (Err why) h fine = never h.given fine
exactly r u before out (Ok None) h fine = ((λ l. absurd (omega arith)), (λ c. absurd (h.none c)))
exactly r u before out (Ok (Some n)) h fine = ((λ l. record { tree = take (2 * n) out; shows = h.witness }), (λ c. h.some))

chained : (r : List ℕ) (u : Update) → Bits16 r → UpdateBits u → deep_check r u ≡ Fine → (t : List ℕ) → SmallestWitness r u t → Chain t
chained r (delete p) names others fine t = decided_chain (delete_deciding r p names others fine).decides
chained r (insert p x) names others fine t = decided_chain (insert_deciding r p x names others.0 others.1 fine).decides

-- an update point at a read node makes the deep verdict say yes
deep_at : (r : List ℕ) (u : Update) (answer : Result Bool Refusal) → DeepVerdict r u answer → deep_check r u ≡ Fine →
    (t : List ℕ) → Sound (bare t) → (v : ℕ) → Selects r (bare t) v → Selects (pattern u) (bare t) v → answer ≡ Ok true
deep_at r u (Err why) h fine t sound v reads updates = never h fine
deep_at r u (Ok true) h fine t sound v reads updates = refl
deep_at r u (Ok false) h fine t sound v reads updates =
    absurd (h.none (inr (record { tree = t; sound = sound; node = v; point = v; read = reads; update = updates; under = inl refl })))

pub demand_two : DemandTwo
demand_two =
    record {
      exactly = exactly;
      document = λ r u before out n h. h.witness;
      size = λ r u before out n h. h.count;
      fewest = λ r u before out n h. h.fewest;
      bound = λ r u before out n h. h.bound;
      chain = chained;
      one_node = λ d right v w. identity_one right;
      still_right = after_identified;
      differences = differences;
      by_identities = by_identities;
      selection = λ p d pattern sound. selecting pattern sound;
      deletes = λ p d pattern sound. deleted_by p d pattern sound;
      inserts = λ p x d pattern tree sound. (copies p d.tables, inserted_by p x d.tables pattern tree sound, named_by p x d);
      tables = after_tables;
      names_stay = λ p d. (deleted_ids p d, deleted-next p d);
      sound = λ d words fine. whole_sound d fine words;
      reading = λ p d before row words h. read_rows h words;
      deleting = λ p d marks n words h.
          let fine = call_fine h in
          rw (delete_doc p d.tables (removed_tables h)) (deleted_by p d.tables (delete_pattern p d fine) (whole_sound d (delete_document p d fine) words).tables);
      inserting = λ p x d rows marks ids n used next words tags h.
          let fine = insert_fine p x d h in
          let tree = accepted_tree x tree_limit 3 (insert_tree p x d fine) tags in
          let sound = (whole_sound d (insert_document p x d fine) words).tables in (
            rw (insert_tables p x d h, insert_number p x d h) (inserted_by p x d.tables (insert_pattern p x d fine) tree sound),
            rw (insert_doc p x d h, insert_number p x d h) (named_by p x d),
          );
      same_delete = same_delete;
      same_insert = λ p x d rows marks ids n used next h. insert_doc p x d h;
      removals = λ p d marks n h. delete_count p d.tables (removed_tables h);
    }

started : {b : List ℕ} {d : Document} → Start b d → AcceptedDocument d
started s = whole_accepted s.rows s.document

-- one proof for both modes
module _ {Related : List ℕ → Update → Type 0} {Showing : List ℕ → Document → Document → Type 0} (shown : Shown Related Showing)
    {Alike : List ℕ → Document → Document → Type 0} (tells : (r : List ℕ) (d e : Document) → Showing r d e → Alike r d e)
    {test : List ℕ → Update → Bool} (decides : DecidedBy Related test) (none : test reads (delete deletes) ≡ false) where
  demand_three : DemandThree Related Alike
  demand_three =
      record {
        slots = λ b before plan n k r h at. h.2.words at;
        orders = λ b before plan n h d s o keeps one other last end run runs.
            shown_runs shown tells decides (accepted_fits b s.words s.batch) (accepted_callable b s.batch) (started s)
            (keeps_order decides b before plan n s.words h keeps) run runs;
        works = λ b d s o calls last run i k e answer at f frame.
            run_works (accepted_fits b s.words s.batch) (accepted_callable b s.batch) (started s) run at frame;
        identities = λ b d s o calls last run i k e answer at p x frame.
            run_identities (accepted_fits b s.words s.batch) (accepted_callable b s.batch) (started s) run at frame;
        room = λ b d s o calls last run i k e answer at p x frame.
            run_room (accepted_fits b s.words s.batch) (accepted_callable b s.batch) (started s) run at frame;
        own_keeps = λ b before plan n words h. order_keeps decides b before plan n words h (own_order test (batch_of b));
        starts = λ b d words batch rows document. record { words = words; batch = batch; rows = rows; document = document };
        start = start;
        moved = (moved_plan decides none, moved_keeps decides none);
        runs = run_some;
        calls = λ b o d last calls run i k at. run-has run at;
      }

-- identities by conflicts, these and what is present below them by deep conflicts; node numbers likewise
pub in_both_modes : InBothModes
in_both_modes =
    record {
      node = demand_three nodes_shown (λ r d e same. same.identities) conflicting_decides clear;
      deep = demand_three below_shown (λ r d e same. same.identities) deeply_decides clear_deep;
      node_numbers = demand_three nodes_shown (λ r d e same. same.nodes) conflicting_decides clear;
      deep_numbers = demand_three below_shown (λ r d e same. same.nodes) deeply_decides clear_deep;
      named_node = named_node;
      named_deep = named_deep;
      line_node = node_named;
      line_deep = deep_named;
      deeper = deeper;
      also_nodes = λ r d e same. below_identities same;
      not_nodes = not_nodes;
      slots_differ = slots_differ;
    }

-- behind a text at the front of a buffer all stays
behind : (text before : List ℕ) {n : ℕ} {after : List ℕ} → n ≡ length text → after ≡ text ++ drop n before → drop n after ≡ drop n before
behind text before {n} e h = rw h (drop_at text (drop n before) n (sym e))

pub besides : Besides
besides =
    record {
      deep_yes = λ r u h. h.some;
      deep_no = λ r u h. h.none;
      deep_at = deep_at;
      evidence_exactly = evidence_exactly;
      evidence_first = λ r u t v w s. first_changed s w;
      delete_gains_none = λ r p t words fine. delete_none_gained r p t fine words;
      insert_loses_none = λ r p x t tags words fine. insert_none_lost r p x t fine tags words;
      insert_gains_new = λ r p x t tags words fine. gained_new r p x t fine tags words;
      evidence_own = own_accepted;
      evidence_conflict = accepted_conflict;
      deep_at_delete = λ r p fine t sound v.
          let both = delete_patterns r p fine in
          lost-selected r p (patterns_read r p both) (delete_two r p fine) (patterns_update r p both) sound v;
      numbers = λ m b before plan n k u h at. h.2.words at;
      same_slot = λ m b c wb wc ab ac k l r at there same v w s t. same_slot m b c wb wc ab ac at there same s t;
      readings = readings_agree;
      walker_refused = λ b n at why h. refused_stays b n at h;
      walker_over = λ b n at h. over-stays b n at h;
      walk_frames = walk_frames;
      walk_over = λ b fine k h. (walk_over b fine k h, walk_whole b fine k h);
      walk_stops = λ b why refused. walk_stops b refused;
      walk_long = walk_long;
      walk_parts = parts_join;
      list_names = list_lines;
      text_steps = text_steps;
      written_reads = written_reads;
      read_writes = read_writes;
      tags_children = child_child;
      tags_each = λ t sound. each-same_way t sound.parents;
      tags_only = λ t sound. only_way t sound.parents;
      tags_decimal = λ n some s. ((λ e. rw e (decimal_right n some)), decimal_only n s some);
      tags_bytes = tree_bytes_lem;
      tags_enough = tags_enough;
      tags_reached = tags_reached;
      witness_text = witness_text;
      read_means = read_means;
      read_in_order = read_in_order;
      read_sound = read_sound;
      read_again = read_again;
      written_back = written_back;
      written_same = written_same;
      renumbered_text = λ t u sound sound' old. same_text t u sound sound';
      clear_stays = λ r u before after h. h.kept;
      witness_behind = λ r u before after n h. (h.long, h.behind);
      marks_behind = λ p d marks n h. let done = removed_tables h in (delete_length p d.tables done, delete_behind p d.tables done);
      ids_behind = ids_behind;
      tables_behind = λ p x d rows marks ids n used next h. (insert_rows_length p x d h, insert_marks_length p x d h, insert_words_behind p x d h, insert_marks_behind p x d h);
      plan_behind = λ m b before after n h. (h.2.kept, (λ i l. h.2.behind i (rw (← h.1) l)));
      words_behind = λ s line before after n h. behind (words_of s) before (h.1 ∙ sym (length-words_of s)) h.2;
      digits_behind = λ ws before after n h. behind (line_of ws) before (h.1 ∙ sym (length-line_of ws)) h.2;
      bytes_behind = λ s before after n h. behind h.text before h.answered.1 h.answered.2;
      pattern_behind = λ l s before after n h. behind (pattern_of (lines l) (steps_of s)) before (h.1 ∙ sym (length_words (lines l) (steps_of s))) h.2;
      text_behind = λ l p before after n h. behind (text_of (lines l) p) before h.1 h.2;
      tags_behind = λ t before after n h. behind (tree_text t) before h.1 h.2;
      tree_behind = λ s before after n h. behind (rows_of s) before h.1 h.2;
      output_enough = λ s before after why h. room_enough h refl;
      mode_prints_none = λ m s text b kinds all prints. moded_plan all prints;
      input_enough = prints_first;
      examples = marked;
    }
