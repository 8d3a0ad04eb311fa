-- Deletes in either order, and installations with other limits.
use Rattle.tables.specs.Checks.{Fine}
use Prim.Native.Nat.{ℕ}
use mathlib.Core.Path.{◌≡◌, refl, sym, ◌∙◌}
use mathlib.Core.List.{List}
use Rattle.tables.specs.Words.{Bits16}
use Rattle.identities.specs.Documents.{Document}
use Rattle.doc_updates.specs.Updating.{delete_check}
use Rattle.doc_updates.proofs.Accepted.{delete_document}
use Rattle.marked.proofs.Marked.{small, words_of}
use Rattle.order_calls.proofs.Accepting.{AcceptedDocument, whole_accepted}
use Rattle.order_deletes.specs.Deletes.{abc}
use Rattle.order_deletes.proofs.Calls.{calls_marks, calls_count, calls_refusals, calls_some}
use Rattle.order_deletes.proofs.Orders.{orders_marks, orders_total, either_marks, either_total, second_works, first_fine, made_before, again}
use Rattle.order_deletes.proofs.Example.{above_first, below_first, not_each}
use Rattle.batch_mode.specs.Modes.{relation_of}
use Rattle.older.proofs.Frames.{frame_other}
use Rattle.older.proofs.Lines.{take_other, take_kept, line_most}
use Rattle.older.proofs.Kept.{batch_kept, plan_kept, pair_kept, verdict_kept}
use Rattle.older.proofs.Numbers.{frame_number, line_number, found_kept}
use Rattle.older.proofs.Ours.{within-ours, longest_line, frame_ours, take-ours, batch_ours, plan_ours, pair_ours, verdict_ours, long_read}
use Rattle.demands.specs.Requests.{EitherOrder, OtherLimits}
use Rattle.demands.proofs.Updates.{all_deleted_by}

accepted_first : (p : List ℕ) (d : Document) → Bits16 d.tables.rows → delete_check p d ≡ Fine → AcceptedDocument d
accepted_first p d words fine = whole_accepted words (delete_document p d fine)

pub either_order : EitherOrder
unfolding small
either_order =
    record {
      second = λ p q d words first other x y last. second_works (accepted_first p d words first) other;
      marks = λ p q d words first other x y last end. either_marks (accepted_first p d words first);
      counts = λ p q d words i j k l last end calls. either_total (accepted_first p d words (first_fine calls)) calls;
      twice = λ p d words n answers once last calls. again (accepted_first p d words (first_fine calls)) calls;
      made_before = λ ps d words answers last calls k p at fine after answer. made_before (accepted_first p d words fine) calls at fine;
      above_first = above_first;
      below_first = below_first;
      not_each = not_each {Kind = λ d. Bits16 d.tables.rows} (words_of abc.tables.rows refl);
      refusals = λ ps d words fine answers last. calls_refusals (whole_accepted words fine);
      removed = λ ps d words fine answers last calls.
          let accepted = whole_accepted words fine in
          rw (calls_marks accepted calls) (all_deleted_by ps d accepted);
      removals = λ ps d answers last. calls_count;
      orders = λ ps qs same d words fine one other last end calls others.
          let accepted = whole_accepted words fine in
          (orders_marks same accepted calls others, orders_total same accepted calls others);
      calls = calls_some;
    }

pub other_limits : OtherLimits
other_limits =
    record {
      our_frame = frame_ours;
      our_line = take-ours;
      our_batch = batch_ours;
      our_plan = plan_ours;
      our_verdict = λ r u words. (pair_ours r u, verdict_ours r u words);
      older = within-ours;
      line_most = line_most;
      longest_line = longest_line;
      frames_kept = λ o i w b n at f e. found_kept o i w b n at e;
      lines_kept = take_kept;
      batches_kept = batch_kept;
      plans_kept = λ o i w m b before after answer e p. plan_kept o i w b (relation_of m) before after answer e p;
      verdicts_kept = λ o i w r u words e. (pair_kept o i w r u e, verdict_kept o i w r u words e);
      frame_answer = λ i j b n at e. frame_other i j b n at e;
      line_answer = take_other;
      frame_number = λ i j b n at why e q. frame_number j b at (sym (frame_other i j b n at e) ∙ q);
      line_number = λ i j l n b why e q. line_number j l n b (sym (take_other i j l n b e) ∙ q);
      long_read = (sym (frame_ours _ 0 0) ∙ long_read.0, long_read.1);
    }
