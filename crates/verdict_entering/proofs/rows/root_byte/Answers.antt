-- What leaves the root in state k enters from it.
use Rattle.verdict_entering.proofs.States.{byte_entered}
use Rattle.verdict_entering.proofs.Climbing.{state_word}
use Rattle.verdict_entering.proofs.rows.root_byte.Goals as goal

pub leaving-requires : goal.leaving-requires
leaving-requires c = search state_word

pub returns : goal.returns
returns c = search byte_entered
