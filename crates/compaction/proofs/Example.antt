-- One document and its compaction, written out.
use mathlib.Core.Path.{◌≡◌, refl}
use mathlib.Core.List.{[], ◌∷◌}
use Rattle.selection.specs.Lists.{tab, count}
use Rattle.identities.specs.Documents.{Document, document}
use Rattle.identities.specs.Compaction.{place, staying, dropped, staying_words, staying_ids, closed_up, compacted}

-- the root a, under it b with c below it, and d with e below it; b and c are removed; one node more has room
abbrev pub five : Document
five = document (0 ∷ 1 ∷ 0 ∷ 2 ∷ 1 ∷ 3 ∷ 0 ∷ 4 ∷ 3 ∷ 5 ∷ 8 ∷ 9 ∷ []) (0 ∷ 1 ∷ 1 ∷ 0 ∷ 0 ∷ 7 ∷ []) 5 (2 ∷ 3 ∷ 5 ∷ 6 ∷ 7 ∷ 1 ∷ []) 8

-- a, d and e stand in front with their identities, e under the new number of d; all behind them is as it was
pub five-compacted : compacted five ≡ document (0 ∷ 1 ∷ 0 ∷ 4 ∷ 1 ∷ 5 ∷ 0 ∷ 4 ∷ 3 ∷ 5 ∷ 8 ∷ 9 ∷ []) (0 ∷ 0 ∷ 0 ∷ 0 ∷ 0 ∷ 7 ∷ []) 3 (2 ∷ 6 ∷ 7 ∷ 6 ∷ 7 ∷ 1 ∷ []) 8
unfolding compacted closed_up staying_ids staying_words staying place tab count
five-compacted = refl

pub five-dropped : dropped five.tables ≡ 2
unfolding dropped count
five-dropped = refl
