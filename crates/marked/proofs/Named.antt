-- The witnesses that document 01 names: the chain a, b for P1, and one of two equal permits deleted for P4.
use Prim.Native.Nat.{◌+◌, ◌*◌}
use native.Mathlib.Omega.{arith}
use mathlib.Core.Path.{refl, sym}
use mathlib.Core.List.{[], ◌∷◌}
use lib.Dec.{lit<}
use mathlib.Core.Bool.{false≢true}
use Rattle.tables.specs.Patterns.{Pattern}
use Rattle.tables.specs.Documents.{bare, Sound}
use Rattle.tables.specs.Checks.{pattern_check, tree_check, size_check, each, axis_check, axis_right, node_check, parent_right}
use Rattle.tables.proofs.Soundness.{accepted_pattern, accepted_tree}
use Rattle.selection.specs.Ways.{up, ups, runs, run, selected}
use Rattle.selection.specs.Lists.{tab, front, rising}
use Rattle.selection.specs.Operations.{hits, struck, deleted, copy_words, graft, grafts, points, inserted}
use Rattle.selection.proofs.Deleting.{deleted_sound}
use Rattle.selection.proofs.Inserting.{inserted_sound}
use Rattle.conflict.specs.Conflict.{pattern, Witness, SmallestWitness}
use Rattle.conflict.proofs.Smallest.{differs_at}
use Rattle.conflict.proofs.Chained.{smallest_chain}
use Rattle.marked.specs.Marked.{chain_of_two, equal_permits, read_p1, update_p1, update_p4}
use Rattle.marked.proofs.Marked.{words_of, small}

sound_chain : Sound (bare chain_of_two)
unfolding small tree_check size_check each node_check parent_right
sound_chain = accepted_tree chain_of_two 256 5 refl (words_of chain_of_two refl)

sound_leaf : Sound (bare (0 ∷ 3 ∷ []))
unfolding small tree_check size_check each node_check parent_right
sound_leaf = accepted_tree (0 ∷ 3 ∷ []) 256 3 refl (words_of (0 ∷ 3 ∷ []) refl)

read_pattern : Pattern read_p1
unfolding pattern_check size_check each axis_check axis_right
read_pattern = accepted_pattern read_p1 64 1 refl

-- the read of P1 gains node 2, the copy of c
pub chain-of_two : Witness read_p1 update_p1 chain_of_two
unfolding selected run runs up ups inserted grafts graft points rising front tab copy_words
chain-of_two =
    record {
      sound = sound_chain;
      differs = differs_at read_pattern sound_chain
          (inserted_sound (0 ∷ 1 ∷ 1 ∷ 2 ∷ []) (0 ∷ 3 ∷ []) (bare chain_of_two) sound_leaf sound_chain)
          2
          (λ e. false≢true (sym e));
    }

sound_permits : Sound (bare equal_permits)
unfolding small tree_check size_check each node_check parent_right
sound_permits = accepted_tree equal_permits 256 5 refl (words_of equal_permits refl)

-- the read of P4 loses node 2, though node 3 with the same subtree stays
pub equal_permits_lem : Witness read_p1 update_p4 equal_permits
unfolding selected run runs up ups deleted struck hits tab
equal_permits_lem =
    record {
      sound = sound_permits;
      differs = differs_at read_pattern sound_permits
          (deleted_sound (0 ∷ 1 ∷ 1 ∷ 2 ∷ []) (bare equal_permits) (lit< tt) sound_permits)
          2
          false≢true;
    }

-- it is no chain, as node 3 hangs under the root: so it is no smallest witness
pub equal_permits_larger : SmallestWitness read_p1 update_p4 equal_permits → ⊥
unfolding small
equal_permits_larger least =
    omega (
      arith,
      (smallest_chain read_p1 update_p4 read_pattern (lit< tt) (λ k. words_of read_p1 refl (2 * k + 1)) (λ k. words_of (pattern update_p4) refl (2 * k + 1)) least
          ).before 2 (lit< tt),
    )
