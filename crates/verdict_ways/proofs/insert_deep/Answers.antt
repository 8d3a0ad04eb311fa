-- The check, and where it is fine the test.
use mathlib.Core.Path.{◌≡◌, refl, sym, ◌∙◌}
use mathlib.Core.Bool.{false}
use Rattle.tables.proofs.Branches.{fine_on, fine_off}
use Rattle.verdict_ways.proofs.insert_deep.Goals as goal

pub entered_or_hit-requires : goal.entered_or_hit-requires
entered_or_hit-requires c = sym c.deep_insert_check.ensures ∙ c.in-Ok.is

pub returns-in-Ok : goal.returns-in-Ok
returns-in-Ok c = fine_on (λ b. c.entered_or_hit.result ≡ b) c.deep_insert_check.ensures _ _ c.in-Ok.is c.entered_or_hit.ensures

pub returns-in-Err : goal.returns-in-Err
returns-in-Err c = fine_off (λ b. false ≡ b) c.deep_insert_check.ensures _ _ c.in-Err.is refl
