-- The check, and where it is fine the test.
use mathlib.Core.Path.{◌≡◌, refl, sym, ◌∙◌}
use mathlib.Core.Bool.{false}
use Rattle.tables.proofs.Branches.{fine_on, fine_off}
use Rattle.verdict_ways.proofs.delete_deep.Goals as goal

pub both_hit-requires : goal.both_hit-requires
both_hit-requires c = sym c.deep_delete_check.ensures ∙ c.in-Ok.is

pub returns-in-Ok : goal.returns-in-Ok
returns-in-Ok c = fine_on (λ b. c.both_hit.result ≡ b) c.deep_delete_check.ensures _ _ c.in-Ok.is c.both_hit.ensures

pub returns-in-Err : goal.returns-in-Err
returns-in-Err c = fine_off (λ b. false ≡ b) c.deep_delete_check.ensures _ _ c.in-Err.is refl
