-- Patterns as text: lists and texts are refused as the definitions say; what is written reads back, and what was read is written back.
use Rattle.std.specs.Prelude.{Result, Ok, Err}
use Rattle.tables.specs.Refusals.{numbered as reason_of}
use Rattle.tables.specs.declared.refusal.Refusal.{Refusal}
use Prim.Native.Nat.{ℕ, ◌*◌, ◌≤◌, ◌<◌}
use mathlib.Core.Path.{◌≡◌, refl, sym, ◌∙◌, ap}
use mathlib.Core.Bool.{Bool, true, false}
use mathlib.Core.List.{List}
use mathlib.Core.Logic.{◌↔◌}
use native.Mathlib.Omega.{arith}
use native.Mathlib.Nat.{zero-add}
use lib.Dec.{leb}
use lib.ListN.{length, take, drop}
use lib.Seq.{take_at}
use borrow.Author.Tests.{leb-true, le-leb}
use Rattle.tables.specs.Limits.{step_limit}
use Rattle.tables.specs.Words.{steps, label}
use Rattle.tables.specs.Patterns.{Pattern}
use Rattle.tables.specs.Checks.{◌then◌, test, refuse, each, pattern_check, output_check, Checked, Fine}
use Rattle.tables.proofs.Accepted.{never, held, then_first, then_second, each_all}
use Rattle.tables.proofs.Soundness.{accepted_pattern, accepted_steps, accepted_pairs, pattern_fine}
use Rattle.text_names.specs.Names.{Names, NameList, BreaksAt, lines, same, list_check}
use Rattle.text_names.proofs.Written.{lines-written}
use Rattle.text_names.proofs.Lists.{list_names, list_breaks, breaks_list}
use Rattle.text_parts.specs.Starts.{Longest}
use Rattle.text_parts.proofs.Starts.{longest_one}
use Rattle.text_pattern.specs.Texts.{RightText}
use Rattle.text_pattern.specs.Scan.{right_text, longest}
use Rattle.text_pattern.specs.Meaning.{steps_of, text_check, words_of, steps_from, text_of}
use Rattle.text_pattern.proofs.Scanning.{scan_right, right_scan, longest_start}
use Rattle.text_pattern.proofs.Steps.{steps_spelled}
use Rattle.text_pattern.proofs.Returning as returning
use Rattle.text_pattern.proofs.Returning.{all_listed, length_words, steps_words, labels_listed, pattern_returns, pattern_accepted, length_from, steps-listed}
use Rattle.text_pattern_in.specs.Reading.{listed_check, read_text_check, ReadText}
use Rattle.text_pattern_in.proofs.Taking.{all_listed_lem, listed_all}
use Rattle.text_pattern_out.proofs.Promise.{numbered}
use Rattle.text_pattern_out.specs.Writing.{number_check, write_text_check, WriteText}
use Rattle.demands.specs.Demands.{WrongText}

-- where a list breaks
pub lists_place : (l : List ℕ) (k : ℕ) → (list_check l ≡ refuse 14 8 k) ↔ BreaksAt l k
lists_place l k = ((λ e. (list_breaks l (record { reason = reason_of 14; table = 8; place = k }) e).1), breaks_list l k)

-- a list has one list of names
pub list_lines : (l : List ℕ) (list : NameList l) → lines l ≡ list.names
list_lines l list = ap lines list.written ∙ lines-written list.names list.right

-- the place of a refusal
place_of : Checked → ℕ
place_of (Ok tt) = 0
place_of (Err r) = r.place

-- a text that is right, and one that is not, by a test and a place that find them
module _ (Right : List ℕ → Type 0) (s : List ℕ) (right : Bool) (place : ℕ) (to : right ≡ true → Right s) (from : Right s → right ≡ true) (longest : Longest Right s place) where
  pub right_fine : (test right (refuse 14 7 place) ≡ Fine) ↔ Right s
  right_fine = ((λ e. to (held right _ e)), (λ r. rw (from r)))

  placed : (n : ℕ) (b : Bool) → test b (refuse 14 7 place) ≡ refuse 14 7 n → Longest Right s n
  unfolding place_of
  placed n true e = never e refl
  placed n false e =
      let same : place ≡ n = ap place_of e in
      rw same at longest

  wrong : (n : ℕ) (b : Bool) → right ≡ b → WrongText Right s n → test b (refuse 14 7 place) ≡ refuse 14 7 n
  wrong n true e w = absurd (w.wrong (to e))
  wrong n false e w = rw (longest_one Right s place n longest w.longest)

  pub wrong_refused : (n : ℕ) → (test right (refuse 14 7 place) ≡ refuse 14 7 n) ↔ WrongText Right s n
  wrong_refused n = ((λ e. record { wrong = λ r. never e (rw (from r)); longest = placed n right e }), wrong n right refl)

pub texts : (s : List ℕ) → (text_check s ≡ Fine) ↔ RightText s
unfolding text_check
texts s = right_fine RightText s (right_text s) (longest s) (scan_right s) (right_scan s) (longest_start s)

pub texts_place : (s : List ℕ) (n : ℕ) → (text_check s ≡ refuse 14 7 n) ↔ WrongText RightText s n
unfolding text_check
texts_place s = wrong_refused RightText s (right_text s) (longest s) (scan_right s) (right_scan s) (longest_start s)

-- a right text has one list of steps
pub text_steps : (s : List ℕ) (right : RightText s) → steps_of s ≡ right.steps
text_steps s right = ap steps_of right.spelled ∙ steps_spelled right.steps right.right

-- what is accepted to be written
module _ (l p : List ℕ) (room : ℕ) (e : write_text_check l p room ≡ Fine) where
  write_list : list_check l ≡ Fine
  unfolding write_text_check
  write_list = then_first (list_check l) _ e

  write_rest : (pattern_check p step_limit 1 then each (number_check (lines l) p) 0 (steps p) then output_check (length (text_of (lines l) p)) room) ≡ Fine
  unfolding write_text_check
  write_rest = then_second (list_check l) _ e

  write_pattern : pattern_check p step_limit 1 ≡ Fine
  write_pattern = then_first (pattern_check p step_limit 1) _ write_rest

  write_labels : (i : ℕ) → i < steps p → label p i ≤ length (lines l)
  write_labels =
      (numbered (lines l) p (then_first (each (number_check (lines l) p) 0 (steps p)) _ (then_second (pattern_check p step_limit 1) _ write_rest))).all

  write_whole : 2 * steps p ≡ length p
  write_whole = accepted_pairs p step_limit 1 write_pattern

  names : Names (lines l)
  names = list_names l write_list

  pattern : Pattern p
  pattern = accepted_pattern p step_limit 1 write_pattern

  text_is_right : right_text (text_of (lines l) p) ≡ true
  unfolding text_of
  text_is_right =
      right_scan (text_of (lines l) p)
      (record { steps = steps_from (lines l) p 0 (steps p); right = returning.text_right (lines l) p names pattern write_labels; spelled = refl })

  -- its text is not refused where there is room, and means this pattern
  reads_fine : (words : ℕ) → length p ≤ words → read_text_check l (text_of (lines l) p) words ≡ Fine
  unfolding read_text_check text_check output_check
  reads_fine words h =
      rw (
        write_list,
        text_is_right,
        returning.text_steps (lines l) p names pattern write_labels,
        length_from (lines l) p 0 (steps p),
        le-leb (steps p) step_limit (accepted_steps p step_limit 1 write_pattern),
        listed_all (lines l) 0 (steps_from (lines l) p 0 (steps p)) (steps-listed (lines l) names p 0 (steps p) (λ j k. rw zero-add (write_labels j k))),
        le-leb (2 * steps p) words (omega (arith, write_whole, h)),
      )

  text_long : 2 * length (steps_of (text_of (lines l) p)) ≡ length p
  text_long = rw (returning.text_steps (lines l) p names pattern write_labels, length_from (lines l) p 0 (steps p)) write_whole

  reads-back : (words after : List ℕ) → length p ≤ length words → (answer : Result ℕ Refusal) → ReadText l (text_of (lines l) p) words after answer
      → (answer ≡ Ok (length p)) × (take (length p) after ≡ p)
  reads-back words after h (Err why) r = never r.0 (reads_fine (length words) h)
  reads-back words after h (Ok m) r =
      let same : words_of (lines l) (steps_of (text_of (lines l) p)) ≡ p = returning.text_returns (lines l) p names pattern write_labels write_whole in
      (ap Ok (r.1 ∙ text_long), rw (r.2, same) (take_at p (drop m words) (length p) refl))

pub written_reads : (l p before text : List ℕ) (n : ℕ) → WriteText l p before text (Ok n) →
    (words after : List ℕ) (answer : Result ℕ Refusal) → ReadText l (take n text) words after answer → length p ≤ length words → (answer ≡ Ok (length p)) × (take (length p) after ≡ p)
written_reads l p before text n h words after answer r room =
    let written : take n text ≡ text_of (lines l) p = rw h.2 (take_at (text_of (lines l) p) (drop n before) n (sym h.1)) in
    reads-back l p (length before) h.0 words after room answer (rw written at r)

-- what was read
module _ (l s : List ℕ) (room : ℕ) (e : read_text_check l s room ≡ Fine) where
  read_list : list_check l ≡ Fine
  unfolding read_text_check
  read_list = then_first (list_check l) _ e

  read_rest : (text_check s then test (leb (length (steps_of s)) step_limit) (refuse 2 1 0) then listed_check (lines l) 0 (steps_of s) then output_check (2 * length (steps_of s)) room) ≡ Fine
  unfolding read_text_check
  read_rest = then_second (list_check l) _ e

  read_right : right_text s ≡ true
  unfolding text_check
  read_right = held (right_text s) _ (then_first (text_check s) _ read_rest)

  read_few : length (steps_of s) ≤ step_limit
  read_few =
      leb-true (length (steps_of s)) step_limit
      (held (leb (length (steps_of s)) step_limit) _ (then_first (test (leb (length (steps_of s)) step_limit) (refuse 2 1 0)) _ (then_second (text_check s) _ read_rest)))

  read_listed : all_listed (lines l) (steps_of s) ≡ true
  read_listed =
      all_listed_lem (lines l) 0 (steps_of s)
      (then_first (listed_check (lines l) 0 (steps_of s)) _
      (then_second (test (leb (length (steps_of s)) step_limit) (refuse 2 1 0)) _ (then_second (text_check s) _ read_rest)))

  same_text : text_of (lines l) (words_of (lines l) (steps_of s)) ≡ s
  same_text = pattern_returns (lines l) s read_right read_listed

  -- its pattern is not refused where there is room, and its text is this one
  writes_fine : (bytes : ℕ) → length s ≤ bytes → write_text_check l (words_of (lines l) (steps_of s)) bytes ≡ Fine
  unfolding write_text_check output_check number_check
  writes_fine bytes h =
      let p = words_of (lines l) (steps_of s) in
      let few : steps p ≤ step_limit = rw (steps_words (lines l) (steps_of s)) read_few in
      let whole : 2 * steps p ≡ length p = rw (steps_words (lines l) (steps_of s), length_words (lines l) (steps_of s)) in
      let numbers : each (number_check (lines l) p) 0 (steps p) ≡ Fine =
      each_all (number_check (lines l) p) 0 (steps p)
      (λ i k. rw (zero-add i, le-leb (label p i) (length (lines l)) (labels_listed (lines l) (steps_of s) i (rw (steps_words (lines l) (steps_of s)) at k)))) in
      rw (read_list, pattern_fine p step_limit 1 (pattern_accepted (lines l) s read_right) whole few, numbers, same_text, le-leb (length s) bytes h)

  writes_back : (before after : List ℕ) → length s ≤ length before → (answer : Result ℕ Refusal) → WriteText l (words_of (lines l) (steps_of s)) before after answer
      → (answer ≡ Ok (length s)) × (take (length s) after ≡ s)
  writes_back before after h (Err why) r = never r.0 (writes_fine (length before) h)
  writes_back before after h (Ok m) r =
      (ap Ok (r.1 ∙ ap length same_text), rw (r.2, same_text) (take_at s (drop m before) (length s) refl))

pub read_writes : (l s words pattern : List ℕ) (n : ℕ) → ReadText l s words pattern (Ok n) →
    (before after : List ℕ) (answer : Result ℕ Refusal) → WriteText l (take n pattern) before after answer → length s ≤ length before → (answer ≡ Ok (length s)) × (take (length s) after ≡ s)
read_writes l s words pattern n h before after answer r room =
    let read : take n pattern ≡ words_of (lines l) (steps_of s) =
    rw h.2 (take_at (words_of (lines l) (steps_of s)) (drop n words) n (length_words (lines l) (steps_of s) ∙ sym h.1)) in
    writes_back l s (length words) h.0 before after room answer (rw read at r)
