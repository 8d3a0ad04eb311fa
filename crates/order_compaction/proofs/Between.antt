-- A batch run on two documents that differ in the numbers of nodes alone; so a compaction between two batches changes no later answer but these.
use Rattle.tables.specs.Checks.{Fine}
use Prim.Native.Nat.{ℕ, suc}
use mathlib.Core.Path.{◌≡◌, sym}
use mathlib.Core.List.{List, ◌∷◌}
use mathlib.Core.Logic.{◌⊎◌, inl, inr}
use native.Mathlib.Omega.{arith}
use Rattle.tables.specs.Words.{Bits16}
use Rattle.conflict.specs.Conflict.{Update}
use Rattle.identities.specs.Documents.{Document}
use Rattle.identities.specs.Checks.{whole_check}
use Rattle.identities.specs.Compaction.{dropped, compacted}
use Rattle.identities.proofs.Checks.{whole_sound, whole_tables}
use Rattle.compaction.proofs.Closing.{compacted_gains}
use Rattle.compaction.proofs.Keeping.{compacted_sound}
use Rattle.compaction.proofs.Checking.{accepted_room, compacted_accepted}
use Rattle.compaction.proofs.Compacting.{compacted_alike}
use Rattle.order.specs.Model.{Fits}
use Rattle.order.specs.Frames.{Frame, At, here, there}
use Rattle.order.specs.Fitting.{FitFrame}
use Rattle.order.proofs.Places.{at_below, at_one}
use Rattle.order_calls.specs.Calls.{Reply, Call, Called, called, Run, over, next, NoRoom}
use Rattle.order_calls.proofs.Accepting.{AcceptedDocument, whole_accepted}
use Rattle.order_calls.proofs.Callable.{Callable}
use Rattle.order_compaction.specs.Numbers.{Gap, none, step, SameBatch, Roomy, Refuses}
use Rattle.order_compaction.proofs.Stepping.{stays, same_answers, same_left, room_too, room_or_not}

module _ {b : List (Frame (List ℕ) Update)} (fits : Fits FitFrame b) (callable : Fits Callable b) {more : ℕ} where
  -- two runs in one order
  pub runs_same : {o : List ℕ} {d e last end : Document} {one other : List Called} → Gap more d e → AcceptedDocument d → AcceptedDocument e →
      Run b o d one last → Run b o e other end → Roomy one → SameBatch more one other last end
  runs_same gap accepted accepted' over over roomy = record { calls = none; documents = gap }
  runs_same gap accepted accepted' (next {f = f} at call run) (next {e = c} {answer = y} at' call' run') roomy =
      let also : Call f _ y c = rw (at_one at' at) at call' in
      let free = roomy.free here in
      let fit = fits.fit at in
      let can = callable.fit at in
      let rest = runs_same (same_left gap accepted accepted' fit can call also free) (stays fit can accepted call) (stays fit can accepted' also) run run' (record { free = λ p. roomy.free (there p) }) in
      record { calls = step gap (same_answers gap accepted accepted' fit can call also free) rest.calls; documents = rest.documents }

  -- where the second is refused for room, the first was no later
  pub runs_room : {o : List ℕ} {d e last end : Document} {one other : List Called} → Gap more d e → AcceptedDocument d → AcceptedDocument e →
      Run b o d one last → Run b o e other end → {i k : ℕ} {met : Document} {y : Reply} → At other i (called k met y) → NoRoom y → Refuses one i
  runs_room gap accepted accepted' over over p short = absurd (omega (arith, at_below p))
  runs_room gap accepted accepted' (next {f = f} at call run) (next {e = c} {answer = y} at' call' run') here short =
      let also : Call f _ y c = rw (at_one at' at) at call' in
      record { place = 0; soon = omega arith; frame = _; met = _; answer = _; at = here; short = room_too gap accepted accepted' (callable.fit at) call also short }
  runs_room {d = d} gap accepted accepted' (next {k = k} {f = f} {answer = x} {calls = rest} at call run) (next {e = c} {answer = y} at' call' run') (there {k = i} p) short =
      let also : Call f _ y c = rw (at_one at' at) at call' in
      let fit = fits.fit at in
      let can = callable.fit at in
      go (room_or_not accepted can call)
      (λ free. runs_room (same_left gap accepted accepted' fit can call also free) (stays fit can accepted call) (stays fit can accepted' also) run run' p short)
    where
      go : NoRoom x ⊎ (NoRoom x → ⊥) → ((NoRoom x → ⊥) → Refuses rest i) → Refuses (called k d x ∷ rest) (suc i)
      go (inl now) onward = record { place = 0; soon = omega arith; frame = _; met = _; answer = _; at = here; short = now }
      go (inr free) onward =
          let later = onward free in
          record { place = suc later.place; soon = omega (arith, later.soon); frame = later.frame; met = later.met; answer = later.answer; at = there later.at; short = later.short }

-- a document and its compaction
module _ (d : Document) (words : Bits16 d.tables.rows) (fine : whole_check d ≡ Fine) where
  pub compacted_gap : Gap (dropped d.tables) d (compacted d)
  compacted_gap = record { alike = compacted_alike (whole_sound d fine words); room = sym (accepted_room d fine); used = compacted_gains d }

  pub compacted-document : AcceptedDocument (compacted d)
  compacted-document =
      let sound = compacted_sound (whole_sound d fine words) in
      let after = compacted_accepted d fine (whole_sound d fine words).tables in
      record { tables = record { sound = sound.tables; fine = whole_tables (compacted d) after }; identities = sound.identities }

  -- a batch after it and without it
  pub compacted-runs : {b : List (Frame (List ℕ) Update)} → Fits FitFrame b → Fits Callable b → {o : List ℕ} {last end : Document} {one other : List Called} →
      Run b o d one last → Run b o (compacted d) other end → Roomy one → SameBatch (dropped d.tables) one other last end
  compacted-runs fits callable run run' roomy = runs_same fits callable compacted_gap (whole_accepted words fine) compacted-document run run' roomy

  pub compacted_room_kept : {b : List (Frame (List ℕ) Update)} → Fits FitFrame b → Fits Callable b → {o : List ℕ} {last end : Document} {one other : List Called} →
      Run b o d one last → Run b o (compacted d) other end → {i k : ℕ} {met : Document} {y : Reply} → At other i (called k met y) → NoRoom y → Refuses one i
  compacted_room_kept fits callable run run' at short = runs_room fits callable compacted_gap (whole_accepted words fine) compacted-document run run' at short
