-- The numbers of each answer: a refusal, or the values.
use Rattle.std.specs.Prelude.{ℕ, Bool, true, false, Option, Some, None, Result, Ok, Err}
use Rattle.outcomes.specs.declared.frames.Extent.{Extent}
use Rattle.outcomes.specs.declared.updates.Inserted.{Inserted}
use Rattle.outcomes.specs.declared.updates.Compacted.{Compacted}
use Rattle.tables.specs.declared.refusal.Refusal.{Refusal}
use Rattle.tables.specs.Checks.{Checked}
use Rattle.c_answer.specs.declared.answer.Answer.{Answer}
use Rattle.c_answer.specs.Answers.{refusing, giving}

-- no value
abbrev pub no_value : Unit {0} → Answer
no_value done = giving 0 0 0 0

-- one number, of a count or a node
abbrev pub count : ℕ → Answer
count n = giving n 0 0 0

-- 1 for yes, 0 for no
abbrev pub yes_or_no : Bool → Answer
yes_or_no true = giving 1 0 0 0
yes_or_no false = giving 0 0 0 0

-- the values of what is found, and none where nothing is
abbrev pub if_any : {A : Type 0} → (A → Answer) → Option A → Answer
if_any values None = no_value tt
if_any values (Some x) = values x

-- a number that may be found: 0 for none
abbrev pub found : Option ℕ → Answer
found = if_any count

-- a frame's kind, where it ends, how many steps and nodes it has
abbrev pub extent : Extent → Answer
extent f = giving f.kind f.next f.steps f.nodes

-- a frame that may be left: kind 0 for none
abbrev pub frame : Option Extent → Answer
frame = if_any extent

-- the copies, the new used count and the new next identity
abbrev pub copied : Inserted → Answer
copied c = giving c.copies c.used c.next 0

-- the new used count, and how many nodes were dropped
abbrev pub closed : Compacted → Answer
closed c = giving c.used c.dropped 0 0

-- the values of what an operation found or did, or its refusal
abbrev pub of_answer : {A : Type 0} → (A → Answer) → Result A Refusal → Answer
of_answer values (Ok x) = values x
of_answer values (Err r) = refusing r

-- a check or a read has no value
abbrev pub of_checked : Checked → Answer
of_checked = of_answer no_value

-- a delete: the nodes newly removed
abbrev pub of_deleted : Result ℕ Refusal → Answer
of_deleted = of_answer count

-- an insert: the copies, the new used count and the new next identity
abbrev pub of_inserted : Result Inserted Refusal → Answer
of_inserted = of_answer copied

-- a compaction: the new used count, and how many nodes were dropped
abbrev pub of_compacted : Result Compacted Refusal → Answer
of_compacted = of_answer closed

-- a mending: how many marks ended up different
abbrev pub of_mended : Result ℕ Refusal → Answer
of_mended = of_answer count

-- a verdict: the witness's node count, 0 for none
abbrev pub of_verdict : Result (Option ℕ) Refusal → Answer
of_verdict = of_answer found

-- a deep verdict: 1 for yes, 0 for no
abbrev pub of_deeply : Result Bool Refusal → Answer
of_deeply = of_answer yes_or_no

-- a proposed tree: the first node that is lost or new, 0 for no difference
abbrev pub of_evidence : Result (Option ℕ) Refusal → Answer
of_evidence = of_answer found

-- the walker: the frame's kind, where it ends, how many steps and nodes it has; kind 0 where none is left
abbrev pub of_stepped : Result (Option Extent) Refusal → Answer
of_stepped = of_answer frame

-- a plan: the frames
abbrev pub of_planned : Result ℕ Refusal → Answer
of_planned = of_answer count

-- a line that is read: its words
abbrev pub of_parsed : Result ℕ Refusal → Answer
of_parsed = of_answer count

-- a line that is written: its digits
abbrev pub of_spelled : Result ℕ Refusal → Answer
of_spelled = of_answer count

-- a plan that is printed: its bytes
abbrev pub of_printed : Result ℕ Refusal → Answer
of_printed = of_answer count
