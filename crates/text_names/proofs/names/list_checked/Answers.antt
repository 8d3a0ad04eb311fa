use Prim.Native.Nat.{ℕ, ◌<◌}
use mathlib.Core.Bool.{true}
use mathlib.Core.Path.{◌≡◌, refl}
use mathlib.Core.List.{List, []}
use lib.ListN.{length, length-replicate}
use native.Mathlib.Omega.{arith}
use borrow.Author.Tests.{not-true, not-false}
use borrow.Author.Rules.{rules}
use Rattle.tables.proofs.Each.{each_on, each_off, each_end}
use Rattle.text_names.specs.Names.{lines, ended}
use Rattle.text_names.specs.Entries.{slots}
use Rattle.text_names.proofs.Numbering.{next-within}
use Rattle.text_names.proofs.Slots.{Marked, none_marked, fresh_at, one_marked}
use Rattle.text_names.proofs.Listing.{list_start, list_end, entry_within, entry_fine, entry_broken, entry_ended, entry_lines, entry_counted, fits-ended}
use mathlib.Core.Path.{ap}
use mathlib.Core.Bool.{not}
use Rattle.text_names.proofs.names.list_checked.Goals as goal

start-ended : ended [] ≡ true
unfolding ended
start-ended = refl

start-counted : length (lines []) ≡ 0
unfolding lines
start-counted = refl

start-marked : (marks : List ℕ) → length marks ≡ slots → Marked (lines []) marks
unfolding lines
start-marked marks e = none_marked marks e

-- an entry that fits ends within the list

pub loop-from-init : goal.loop-from-init
loop-from-init c = (search rules, search rules, start-ended, start-counted, list_start _, start-marked _ (length-replicate {A = ℕ} slots 0))

pub slice_bounds-slot-count : goal.slice_bounds-slot-count
slice_bounds-slot-count c = (next-within _ _ c.loop-from.invariant.0 c.next_byte-to.ensures).0

pub slice_bounds-slot-start : goal.slice_bounds-slot-start
slice_bounds-slot-start c = (next-within _ _ c.loop-from.invariant.0 c.next_byte-to.ensures).0

pub slice_bounds-slot-end : goal.slice_bounds-slot-end
slice_bounds-slot-end c = (next-within _ _ c.loop-from.invariant.0 c.next_byte-to.ensures).1

pub bounds-marks-at : goal.bounds-marks-at
bounds-marks-at c = omega (arith, c.slot-at.ensures.1, c.loop-from.invariant.5.long)

pub entry_right-requires : goal.entry_right-requires
entry_right-requires c = record { from_le_to = next-within _ _ c.loop-from.invariant.0 c.next_byte-to.ensures; fresh_at = fresh_at _ _ _ _ c.loop-from.invariant.5 _ c.slot-at.ensures.0 }

pub returns-then-not-entry_right : goal.returns-then-not-entry_right
returns-then-not-entry_right c = each_off _ _ _ c.loop-from.invariant.4 (entry_within _ _ c.loop-from.invariant.2 c.loop-from.invariant.3 c.loop-from-test.true c.next_byte-to.ensures) (entry_broken _ _ c.loop-from.invariant.2 c.loop-from.invariant.3 c.loop-from-test.true c.next_byte-to.ensures c.entry_right.ensures (not-true _ (ap not c.if-not-entry_right.true))) c.refused.ensures

pub bounds-marks-at-in-loop-from : goal.bounds-marks-at-in-loop-from
bounds-marks-at-in-loop-from c = omega (arith, c.slot-at.ensures.1, c.loop-from.invariant.5.long)

pub overflow_add-from : goal.overflow_add-from
overflow_add-from c = let far : c.next_byte-to.result < length c.args.list.now = fits-ended _ _ _ _ c.entry_right.ensures (not-false _ (ap not c.if-not-entry_right.false)) in search (rules, far)

pub overflow_add-k : goal.overflow_add-k
overflow_add-k c = let far : c.next_byte-to.result < length c.args.list.now = fits-ended _ _ _ _ c.entry_right.ensures (not-false _ (ap not c.if-not-entry_right.false)) in omega (arith, c.loop-from.invariant.1, next-within _ _ c.loop-from.invariant.0 c.next_byte-to.ensures, far)

pub loop-from-smaller : goal.loop-from-smaller
loop-from-smaller c = let far : c.next_byte-to.result < length c.args.list.now = fits-ended _ _ _ _ c.entry_right.ensures (not-false _ (ap not c.if-not-entry_right.false)) in omega (arith, next-within _ _ c.loop-from.invariant.0 c.next_byte-to.ensures, far)

pub loop-from-preserved : goal.loop-from-preserved
loop-from-preserved c = let far : c.next_byte-to.result < length c.args.list.now = fits-ended _ _ _ _ c.entry_right.ensures (not-false _ (ap not c.if-not-entry_right.false)) in (omega (arith, far), omega (arith, c.loop-from.invariant.1, next-within _ _ c.loop-from.invariant.0 c.next_byte-to.ensures), entry_ended _ _ c.loop-from.invariant.2 c.loop-from.invariant.3 c.loop-from-test.true c.next_byte-to.ensures far, entry_counted _ _ c.loop-from.invariant.2 c.loop-from.invariant.3 c.loop-from-test.true c.next_byte-to.ensures far, each_on _ _ _ c.loop-from.invariant.4 (entry_within _ _ c.loop-from.invariant.2 c.loop-from.invariant.3 c.loop-from-test.true c.next_byte-to.ensures) (entry_fine _ _ c.loop-from.invariant.2 c.loop-from.invariant.3 c.loop-from-test.true c.next_byte-to.ensures c.entry_right.ensures (not-false _ (ap not c.if-not-entry_right.false))), rw (entry_lines _ _ c.loop-from.invariant.2 c.loop-from.invariant.3 c.loop-from-test.true c.next_byte-to.ensures far) (one_marked _ _ _ c.loop-from.invariant.5 _ c.slot-at.ensures.0 c.slot-at.ensures.1))

pub returns : goal.returns
returns c = each_end _ _ _ c.loop-from.invariant.4 (list_end _ _ c.loop-from.invariant.2 c.loop-from.invariant.3 c.loop-from-test.false)
