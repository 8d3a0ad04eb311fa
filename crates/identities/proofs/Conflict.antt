-- A read's sets of identities differ before and after an update exactly where its sets of nodes do, so conflicts by identities are conflicts by nodes.
use Prim.Native.Nat.{ℕ, ◌<◌, ◌≤◌}
use mathlib.Core.Path.{◌≡◌, refl, sym}
use mathlib.Core.List.{List}
use mathlib.Core.Logic.{◌↔◌}
use native.Mathlib.Omega.{arith}
use Rattle.tables.specs.Limits.{word_limit}
use Rattle.tables.specs.Words.{steps, label, nodes}
use Rattle.tables.specs.Patterns.{Pattern}
use Rattle.tables.specs.Documents.{Doc, bare, Sound}
use Rattle.selection.specs.Embeddings.{Selects}
use Rattle.selection.specs.Operations.{deleted}
use Rattle.selection.specs.Showing.{SameNodes, SameBelow}
use Rattle.selection.proofs.Showing.{nodes_refl, below_refl}
use Rattle.conflict.specs.Conflict.{Update, delete, insert, pattern, after, Differs, lost, gained, Conflict, Deep}
use Rattle.conflict.proofs.Deletes.{differs_delete}
use Rattle.conflict.proofs.Inserts.{differs_insert}
use Rattle.conflict.proofs.Beneath.{nodes_delete, beneath_delete, nodes_insert, beneath_insert}
use Rattle.identities.specs.Documents.{Document, identity, Identified, SoundDocument}
use Rattle.identities.specs.Updates.{deleted_in, inserted_in, after_in, stored_in}
use Rattle.identities.specs.Showing.{SameIdentities, SameIdentitiesBelow}
use Rattle.identities.specs.Conflict.{DiffersIn, DiffersIn.lost as lostIn, DiffersIn.gained as gainedIn, ConflictIn}
use Rattle.identities.proofs.Updates.{Keeping, used_written, old_identity, after_sound, room_stored, stored_in_cases, stored_in_sound}
use Rattle.identities.proofs.Numbered.{numbered_to, numbered_to_sound}
use Rattle.identities.proofs.Showing.{selects_used, selects_named, named_selects, KeptIdentities, identities_kept_all, named-on, named_back, node_on_lem, nodes_identities, nodes_identities_below}

-- an update keeps the identities of the nodes that there were
module _ (p x : List ℕ) (d : Document) where
  more_used : d.tables.used ≤ (inserted_in p x d).tables.used
  unfolding inserted_in
  more_used = rw (used_written p x d) (omega arith)

  pub inserted_keeps : KeptIdentities d (inserted_in p x d)
  inserted_keeps = record { inside = more_used; same = old_identity p x d }

pub after_keeps : (u : Update) (d : Document) → KeptIdentities d (after_in u d)
unfolding deleted_in deleted
after_keeps (delete p) d = record { inside = omega arith; same = λ v h. refl }
after_keeps (insert p x) d = inserted_keeps p x d

-- its tables are those of the update on tables
pub after_tables : (u : Update) (d : Document) → (after_in u d).tables ≡ after u d.tables
unfolding deleted_in inserted_in
after_tables (delete p) d = refl
after_tables (insert p x) d = refl

-- the sets of identities differ exactly where the sets of nodes do
module _ {r : List ℕ} (reads : Pattern r) (u : Update) (d : Document) (right : Identified (after_in u d)) where
  kept : KeptIdentities d (after_in u d)
  kept = after_keeps u d

  to_after : {v : ℕ} → Selects r (after_in u d).tables v → Selects r (after u d.tables) v
  to_after s = rw (after_tables u d) at s

  of-after : {v : ℕ} → Selects r (after u d.tables) v → Selects r (after_in u d).tables v
  of-after s = rw (after_tables u d) s

  pub differs_nodes : DiffersIn r u d → Differs r u d.tables
  differs_nodes (lostIn i s gone) = lost s.node s.selects (λ t. gone (named-on reads kept s (of-after t)))
  differs_nodes (gainedIn i none s) = gained s.node (λ t. none (named_back reads kept s t)) (to_after s.selects)

  pub nodes_differ : Differs r u d.tables → DiffersIn r u d
  nodes_differ (lost v s gone) =
      let h = selects_used reads s in
      lostIn (identity d v) (selects_named s)
      (λ t. gone (to_after (named_selects reads right (omega (arith, h, kept.inside)) (rw (sym (kept.same v h)) at t))))
  nodes_differ (gained v none s) =
      gainedIn (identity (after_in u d) v)
      (λ t. none (node_on_lem reads kept right (selects_used reads (of-after s)) t))
      (selects_named (of-after s))

  pub differs_exactly : DiffersIn r u d ↔ Differs r u d.tables
  differs_exactly = (differs_nodes, nodes_differ)

-- a read and an update that are accepted: their labels have 16 bits, and the update leaves a sound document sound
module _ {r : List ℕ} (reads : Pattern r) (names : (k : ℕ) → label r k < word_limit) where
  -- a difference on the tables of any sound document is a conflict
  differs_conflict : (u : Update) → Keeping u → ((k : ℕ) → label (pattern u) k < word_limit) → {d : Doc} → Sound d → Differs r u d → Conflict r u
  differs_conflict (delete p) two others = differs_delete r p reads two names others
  differs_conflict (insert p x) tree others = differs_insert r p x reads tree names others

  -- on every sound document, whatever its identities are
  pub differs_sound : (u : Update) → Keeping u → (d : Document) → SoundDocument d → DiffersIn r u d ↔ Differs r u d.tables
  differs_sound u keeps d sound = differs_exactly reads u d (after_sound u keeps d sound).identities

  -- so there is a conflict by identities exactly if there is a conflict
  pub conflict_exactly : (u : Update) → Keeping u → ((k : ℕ) → label (pattern u) k < word_limit) → ConflictIn r u ↔ Conflict r u
  unfolding numbered_to
  conflict_exactly u keeps others = (
    λ c. differs_conflict u keeps others c.sound.tables ((differs_sound u keeps c.document c.sound).0 c.differs),
    λ c.
        let sound = numbered_to_sound (nodes c.tree) (bare c.tree) (omega arith) c.shows.sound in
        record {
          document = numbered_to (nodes c.tree) (bare c.tree);
          sound = sound;
          differs = (differs_sound u keeps (numbered_to (nodes c.tree) (bare c.tree)) sound).1 c.shows.differs;
        },
  )

-- an update that does not conflict leaves a read its nodes and their identities; one that does not conflict deeply also what is below each
module _ (r p : List ℕ) (reads : Pattern r) (update : Pattern p) (two : 1 < steps p)
    (names : (k : ℕ) → label r k < word_limit) (others : (k : ℕ) → label p k < word_limit) (d : Document) (sound : SoundDocument d) where
  pub nodes_delete_in : (Conflict r (delete p) → ⊥) → SameNodes r (deleted_in p d).tables d.tables
  unfolding deleted_in
  nodes_delete_in clear = nodes_delete r p reads update two names others clear d.tables sound.tables

  pub beneath_delete_in : (Deep r (delete p) → ⊥) → SameBelow r (deleted_in p d).tables d.tables
  unfolding deleted_in
  beneath_delete_in clear = beneath_delete r p reads update two names others clear d.tables sound.tables

  pub identities_delete : (Conflict r (delete p) → ⊥) → SameIdentities r (deleted_in p d) d
  identities_delete clear = nodes_identities reads (after_keeps (delete p) d) (nodes_delete_in clear)

  pub identities_below_delete : (Deep r (delete p) → ⊥) → SameIdentitiesBelow r (deleted_in p d) d
  identities_below_delete clear =
      let after = after_sound (delete p) two d sound in
      nodes_identities_below reads (after_keeps (delete p) d) after.identities sound.tables after.tables (beneath_delete_in clear)

module _ (r p x : List ℕ) (reads : Pattern r) (update : Pattern p) (tree : Sound (bare x))
    (names : (k : ℕ) → label r k < word_limit) (others : (k : ℕ) → label p k < word_limit) (d : Document) (sound : SoundDocument d) where
  stored_keeps : KeptIdentities d (stored_in p x d)
  stored_keeps = stored_in_cases (KeptIdentities d) p x d (λ room. inserted_keeps p x d) (identities_kept_all d)

  pub nodes_insert_in : (Conflict r (insert p x) → ⊥) → SameNodes r (stored_in p x d).tables d.tables
  unfolding inserted_in
  nodes_insert_in clear =
      stored_in_cases (λ e. SameNodes r e.tables d.tables) p x d
      (λ room. rw (room_stored p x d room) at (nodes_insert r p x reads update tree names others clear d.tables sound.tables))
      (nodes_refl d.tables)

  pub beneath_insert_in : (Deep r (insert p x) → ⊥) → SameBelow r (stored_in p x d).tables d.tables
  unfolding inserted_in
  beneath_insert_in clear =
      stored_in_cases (λ e. SameBelow r e.tables d.tables) p x d
      (λ room. rw (room_stored p x d room) at (beneath_insert r p x reads update tree names others clear d.tables sound.tables))
      (below_refl d.tables)

  pub identities_insert : (Conflict r (insert p x) → ⊥) → SameIdentities r (stored_in p x d) d
  identities_insert clear = nodes_identities reads stored_keeps (nodes_insert_in clear)

  pub identities_below_insert : (Deep r (insert p x) → ⊥) → SameIdentitiesBelow r (stored_in p x d) d
  identities_below_insert clear =
      let after = stored_in_sound p x d tree sound in
      nodes_identities_below reads stored_keeps after.identities sound.tables after.tables (beneath_insert_in clear)
