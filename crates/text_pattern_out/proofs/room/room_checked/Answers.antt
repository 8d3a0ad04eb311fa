use native.Mathlib.Omega.{arith}
use borrow.Author.Rules.{rules}
use Rattle.text_pattern_out.proofs.Rooms.{room_start, room_short, room_more, room_end}
use Rattle.text_pattern_out.proofs.room.room_checked.Goals as goal

pub loop-i-init : goal.loop-i-init
loop-i-init c = (search rules, search room_start)

pub word_length-w-requires : goal.word_length-w-requires
word_length-w-requires c = omega (arith, c.second_word.ensures, c.requires.all c.loop-i.i c.loop-i-test.true)

pub returns-then-left-s : goal.returns-then-left-s
returns-then-left-s c = room_short _ _ _ _ _ c.loop-i.invariant.1 c.loop-i-test.true c.first_word.ensures c.second_word.ensures c.slash_count-s.ensures c.word_length-w.ensures (omega arith) c.refused.ensures

pub returns-then-left-s-2 : goal.returns-then-left-s-2
returns-then-left-s-2 c = room_short _ _ _ _ _ c.loop-i.invariant.1 c.loop-i-test.true c.first_word.ensures c.second_word.ensures c.slash_count-s.ensures c.word_length-w.ensures (omega arith) c.refused-then-left-s-2.ensures

pub loop-i-preserved : goal.loop-i-preserved
loop-i-preserved c = (search rules, room_more _ _ _ _ _ c.loop-i.invariant.1 c.loop-i-test.true c.first_word.ensures c.second_word.ensures c.slash_count-s.ensures c.word_length-w.ensures (omega arith))

pub returns : goal.returns
returns c = room_end _ _ _ _ _ c.loop-i.invariant.1 c.loop-i-test.false
