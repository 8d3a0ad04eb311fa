-- Wider is never safer: by proposed trees, by orders, on the example; and the record of it all.
use Rattle.std.specs.Prelude.{Option, Some, None, Result, Ok, Err}
use Rattle.tables.specs.declared.refusal.Refusal.{Refusal}
use Prim.Native.Nat.{ℕ, ◌<◌, ◌≤◌}
use mathlib.Core.Path.{◌≡◌, refl}
use mathlib.Core.Bool.{true}
use mathlib.Core.List.{List, [], ◌∷◌}
use mathlib.Core.Logic.{◌≢◌}
use native.Mathlib.Decide.{dec_lt}
use native.Mathlib.Omega.{arith}
use lib.ListN.{get_or}
use Rattle.tables.specs.Limits.{tree_limit}
use Rattle.tables.specs.Words.{Bits16}
use Rattle.tables.specs.Checks.{tree_check, pattern_check, size_check, each, axis_check, axis_right, output_check, Fine}
use Rattle.tables.proofs.Accepted.{never}
use Rattle.marked.proofs.Marked.{small, words_of}
use Rattle.conflict.specs.Conflict.{Update, delete, insert}
use Rattle.conflict.specs.Meeting.{agree, landing, shared, sooner, least, onward, shorter, longer, meeting, fewest, meeting_of, fewest_of}
use Rattle.conflict.specs.Crossing.{delete_way, delete_deep}
use Rattle.order.specs.Frames.{Frame, read, update, At, here, there, updates_at, earlier, number}
use Rattle.order.specs.Model.{nearest, slot}
use Rattle.order.specs.Order.{Stands, Before}
use Rattle.order.proofs.Places.{at_below}
use Rattle.order.proofs.Deciding.{conflicting, conflicting_decides, deeply, deeply_decides}
use Rattle.batch_mode.specs.Modes.{relation_of}
use Rattle.batch_mode.specs.declared.Mode.{Mode}
use Rattle.batch_mode.specs.declared.Mode.TheVariants.{Node, Deep}
use Rattle.batch_parts.specs.Parts.{count_check, steps_check}
use Rattle.batch_frame.specs.Frames.{kind_right, rest_check, frame_check, end_of}
use Rattle.batch_check.specs.Batches.{update_of, meaning, frames_from, batch_of, check_from, batch_check, plan_check}
use Rattle.batch_plan.specs.Batch.{PlanOf}
use Rattle.batch_plan.proofs.Numbers.{number_rises}
use Rattle.check_evidence.specs.Order.{evidence_check}
use Rattle.check_evidence.proofs.Accepting.{delete_tree as proposed-delete, insert_tree as proposed-insert}
use Rattle.verdict_evidence.specs.Promise.{Checks}
use Rattle.wider.specs.Wider.{deletes, inserts, Widened}
use Rattle.wider.specs.Batches.{reads, updates, WiderFrames, WidenedRead}
use Rattle.wider.specs.Examples.{a/c, a/any}
use Rattle.wider.proofs.Relation.{pair_itself, pair_on, wildcard_wider, descendant_wider, behind_wider}
use Rattle.wider.proofs.Selecting.{selects_wider}
use Rattle.wider.proofs.Accepting.{delete_wider, insert_wider, room_wider}
use Rattle.wider.proofs.Verdicts.{accepted_differs, accepted_witness, accepted_conflict, accepted_deep, accepted_smallest, verdict_wider, deeply_wider}
use Rattle.wider.proofs.Plans.{no_frames, more_frames, number_wider, read_there, update_there, widened_wider, count_same, word_wider, word_stays}
use Rattle.wider.proofs.Examples.{by_label, by_axis, by_update, by_nodes, not_narrower, not_narrower_deep}
use Rattle.demands.specs.Demands.{Keeps, example}
use Rattle.demands.specs.Requests.{any_child, NeverSafer}
use Rattle.demands.proofs.Evidence.{evidence_fine}
use Rattle.demands.proofs.Example.{frames, frames_are, two_plan, clear, clear_deep, moved_plan}

-- the proposed tree was accepted, so it is not refused
proposed : (r : List ℕ) (u : Update) (t : List ℕ) → evidence_check r u t ≡ Fine → tree_check t tree_limit 5 ≡ Fine
proposed r (delete p) t e = proposed-delete r p t e
proposed r (insert p x) t e = proposed-insert r p x t e

evidence_wider : (r s : List ℕ) (u v : Update) → Widened r u s v → (t : List ℕ) (n : ℕ) (answer : Result (Option ℕ) Refusal) → Checks r u t (Ok (Some n)) → Checks s v t answer →
    (m : ℕ) × (answer ≡ Ok (Some m))
evidence_wider r s u v w t n (Err why) found h = never h (evidence_fine s v t w.wide.fine (proposed r u t found.fine))
evidence_wider r s u v w t n (Ok None) found h = absurd (h.none (accepted_witness w found.witness).differs)
evidence_wider r s u v w t n (Ok (Some m)) found h = (m, refl)

-- what stands before what stands before
before_on : {o : List ℕ} {i j k : ℕ} → Stands o j → Before o i j → Before o j k → Before o i k
before_on between first next = record { before = λ at end. omega (arith, first.before at between.there, next.before between.there end) }

-- an order that keeps the wider plan keeps the other: where the slot has moved, its update stands behind the one that it was
module _ (m : Mode) (b c before plan before' plan' : List ℕ) (n n' : ℕ) (words : Bits16 b) (words' : Bits16 c)
    (narrow : PlanOf (relation_of m) b before plan (Ok n)) (wide : PlanOf (relation_of m) c before' plan' (Ok n'))
    (wider : WiderFrames (batch_of b) (batch_of c)) (o : List ℕ) (keeps : Keeps plan' (batch_of c) o) where
  after_slot : {i j : ℕ} {r : List ℕ} {u : Update} → At (batch_of b) i (read r) → At (batch_of b) j (update u) → number (batch_of b) j ≡ get_or plan i 0 → Before o j i
  after_slot {i} {j} p q e =
      read_there wider p (λ s p' more. update_there wider q (λ v q' also. go s p' v q' (dec_lt (number (batch_of c) j) (get_or plan' i 0))))
    where
      same : number (batch_of c) j ≡ number (batch_of b) j
      same = number_wider wider (omega (arith, at_below q))

      least : get_or plan i 0 ≤ get_or plan' i 0
      least = word_wider m b c before plan before' plan' words words' narrow wide wider i (rw narrow.1 (at_below p))

      go : (s : List ℕ) → At (batch_of c) i (read s) → (v : Update) → At (batch_of c) j (update v) → Dec (number (batch_of c) j < get_or plan' i 0) → Before o j i
      go s p' v q' (no h) = keeps.after_slot p' q' (omega (arith, same, least, e))
      go s p' v q' (yes h) =
          let found = (wide.2.words p').some (omega arith) in
          before_on (keeps.every found.frame (at_below found.at))
          (keeps.in_sequence q' found.at (behind found.frame found.numbered (dec_lt j found.frame)))
          (keeps.after_slot p' found.at found.numbered)
        where
          behind : (f : ℕ) → number (batch_of c) f ≡ get_or plan' i 0 → Dec (j < f) → j < f
          behind f is (yes l) = l
          behind f is (no l) = absurd (omega (arith, number_rises (batch_of c) {i = f} {j = j} (omega arith)))

  keeps_wider : Keeps plan (batch_of b) o
  keeps_wider = record {
    every = λ k h. keeps.every k (rw wider.frames h);
    once = keeps.once;
    only = λ at. rw (← wider.frames) (keeps.only at);
    in_sequence = λ p q h. update_there wider p (λ v p' more. update_there wider q (λ w q' also. keeps.in_sequence p' q' h));
    after_slot = after_slot;
    before_later = λ p q h. read_there wider p (λ s p' more. update_there wider q (λ v q' also. keeps.before_later p' q' h));
  }

-- the example with a wider read
any_are : batch_of any_child ≡ frames a/any
unfolding batch_of frames_from meaning update_of end_of
any_are = refl

any_accepted : plan_check any_child 2 ≡ Fine
unfolding plan_check batch_check check_from frame_check kind_right steps_check count_check rest_check end_of pattern_check size_check each axis_check axis_right output_check batch_of frames_from meaning update_of
any_accepted = refl

any_words : Bits16 any_child
unfolding small
any_words = words_of any_child refl

any_conflict : conflicting a/any (delete (0 ∷ 1 ∷ 1 ∷ 2 ∷ [])) ≡ true
unfolding delete_way meeting_of meeting shorter longer sooner agree landing shared
any_conflict = refl

any_deep : deeply a/any (delete (0 ∷ 1 ∷ 1 ∷ 2 ∷ [])) ≡ true
unfolding delete_deep fewest_of fewest onward least sooner agree
any_deep = refl

example_plan : (m : Mode) → PlanOf (relation_of m) example (0 ∷ 0 ∷ []) (1 ∷ 0 ∷ []) (Ok 2)
example_plan Node = moved_plan conflicting_decides clear
example_plan Deep = moved_plan deeply_decides clear_deep

any_plan : (m : Mode) → PlanOf (relation_of m) any_child (0 ∷ 0 ∷ []) (1 ∷ 1 ∷ []) (Ok 2)
unfolding slot nearest earlier updates_at
any_plan Node = two_plan any_child a/any any_are any_accepted any_words conflicting_decides 1 (rw any_conflict)
any_plan Deep = two_plan any_child a/any any_are any_accepted any_words deeply_decides 1 (rw any_deep)

one_widened : WidenedRead (batch_of example) (batch_of any_child) 1 a/c a/any
one_widened = rw (frames_are, any_are) (record { was = there here; is = there here; wider = wildcard_wider a/c 1; frames = refl; others = others })
  where
    others : {j : ℕ} {f : Frame (List ℕ) Update} → j ≢ 1 → At (frames a/c) j f → At (frames a/any) j f
    others other here = here
    others other (there here) = absurd (other refl)
    others other (there (there p)) = absurd (omega (arith, at_below p))

pub never_safer : NeverSafer
never_safer =
    record {
      itself = pair_itself;
      onward = λ r s t u v w. pair_on;
      wildcard = wildcard_wider;
      descendant = descendant_wider;
      behind = behind_wider;
      with_delete = λ r s p q read update. record { read = read; update = deletes update };
      with_insert = λ r s p q x y read update tree. record { read = read; update = inserts update tree };
      no_frames = no_frames;
      read_frame = λ b c r s wider. more_frames (reads wider);
      update_frame = λ b c u v wider. more_frames (updates wider);
      accepted = λ r u words update_words fine. record { read_words = words; update_words = update_words; fine = fine };
      deletes = λ r s p q. delete_wider;
      inserts = λ r s p q x y read update. insert_wider read update;
      room = λ r s u v w words e. room_wider w.wider w.wide words words e (omega arith);
      conflicts = λ r s u v. accepted_conflict;
      deeps = λ r s u v. accepted_deep;
      selects = λ p q w d v. selects_wider w;
      differences = λ r s u v w d. accepted_differs w;
      witnesses = λ r s u v w t. accepted_witness w;
      smallest = λ r s u v w m n. accepted_smallest w;
      verdicts = λ r s u v. verdict_wider;
      deep_verdicts = λ r s u v. deeply_wider;
      evidence = evidence_wider;
      slots = λ m b c before plan before' plan' n n' words words' narrow wide wider.
          (count_same m b c before plan before' plan' words words' narrow wide wider, word_wider m b c before plan before' plan' words words' narrow wide wider);
      one_read = λ m b c before plan before' plan' n n' words words' narrow wide k r s widened. (
        word_wider m b c before plan before' plan' words words' narrow wide (widened_wider widened) k (rw narrow.1 (at_below widened.was)),
        word_stays m b c before plan before' plan' words words' narrow wide widened,
      );
      orders = keeps_wider;
      by_label = by_label;
      by_axis = by_axis;
      by_update = by_update;
      by_nodes = by_nodes;
      not_narrower = not_narrower;
      not_narrower_deep = not_narrower_deep;
      moves = λ m. (one_widened, example_plan m, any_plan m);
    }
