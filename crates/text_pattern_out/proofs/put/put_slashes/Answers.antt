-- One slash, or two.
use lib.ListN.{length-set}
use Rattle.text_pattern_out.proofs.Putting.{one_room, two_room, put_one, put_two}
use Rattle.text_pattern_out.proofs.put.put_slashes.Goals as goal

pub bounds-out-0 : goal.bounds-out-0
bounds-out-0 c = one_room c.args.a c.args.out.now c.requires

pub returns-then-a-ne2 : goal.returns-then-a-ne2
returns-then-a-ne2 c = put_one _ _ c.requires c.if-a-ne2.true

pub bounds-out-1 : goal.bounds-out-1
bounds-out-1 c = simp length-set (two_room c.args.a c.args.out.now c.requires c.if-a-ne2.false)

pub returns : goal.returns
returns c = put_two _ _ c.requires c.if-a-ne2.false
