-- Every refusal is one of the numbered ones: a reason has a number from 1 to 16.
use Rattle.tables.specs.declared.refusal.Refusal.{Refusal}
use Rattle.tables.proofs.Reasons.{number_least, number_most}
use Rattle.demands.specs.Demands.{Numbered}

pub every_number : (r : Refusal) → Numbered r
every_number r = record { least = number_least r.reason; most = number_most r.reason }
