-- A document is sound exactly if the set of its present nodes is, and a mending leaves the largest sound set.
use Prim.Native.Nat.{ℕ, ◌*◌, ◌+◌, ◌<◌}
use mathlib.Core.Path.{◌≡◌, sym, ◌∙◌}
use mathlib.Core.Bool.{true}
use mathlib.Core.Logic.{◌⊎◌, inl, inr, ⊎_elim, ◌↔◌}
use native.Mathlib.Decide.{ℕ_discrete}
use native.Mathlib.Omega.{arith}
use Rattle.tables.specs.Words.{parent, Bits16}
use Rattle.tables.specs.Documents.{Doc, doc, mark, present, Sound}
use Rattle.tables.specs.Checks.{shape_check, Fine}
use Rattle.tables.proofs.Soundness.{shape_facts, shape_nodes, node_top, node_named}
use Rattle.selection.proofs.Presence.{present_used, present-mark, is_present}
use Rattle.mending.specs.Mending.{mended_mark, mended_marks}
use Rattle.mending.specs.Sets.{SoundSet, Among, LargestSound}
use Rattle.mending.proofs.Marks.{mended-root}
use Rattle.mending.proofs.Down.{falls, downwards, mended_kept, mended-own, mended_above}
use Rattle.mending.proofs.Mended.{mended_tables, mended-mark}

-- a node that is present after a mending
abbrev Stays : Doc → ℕ → Type 0
Stays d v = present (mended_tables d) v ≡ true

module _ (d : Doc) (shape : shape_check d ≡ Fine) where
  -- a document is sound exactly if the set of its present nodes is
  pub sound_set : Bits16 d.rows → Sound d ↔ SoundSet d (λ v. present d v ≡ true)
  sound_set words = (
    (λ sound. record { used = present_used d; root = sound.root; closed = sound.closed }),
    (λ set.
        record {
          room = (shape_facts d shape).2;
          root = set.root;
          top = node_top d.rows 5 d.used (shape_nodes d shape) (shape_facts d shape).0;
          parents = falls d shape;
          named = node_named d.rows 5 d.used (shape_nodes d shape);
          labels = λ v h. words (2 * v + 1);
          closed = set.closed;
        }),
  )

  -- a used node stays exactly if its mended mark is 0
  stays : (v : ℕ) → v < d.used → mended_mark d.rows d.marks v ≡ 0 → Stays d v
  stays v h e = is_present (mended_tables d) v h (mended-mark d v h ∙ e)

  stayed : (v : ℕ) → Stays d v → (v < d.used) × (mended_mark d.rows d.marks v ≡ 0)
  stayed v e =
      let h : v < d.used = present_used (mended_tables d) v e in
      (h, sym (mended-mark d v h) ∙ present-mark (mended_tables d) v e)

  -- those that stay are a sound set
  mended_sound : SoundSet d (Stays d)
  mended_sound = record {
    used = λ v e. (stayed v e).0;
    root = stays 0 (shape_facts d shape).0 (mended-root d.rows d.marks);
    closed = λ v some e.
        let here = stayed v e in
        stays (parent d.rows v) (omega (arith, falls d shape v some here.0)) (omega (arith, mended_above d shape v some here.0));
  }

  -- a node that stays is the root or has mark 0
  mended_among : Among d (Stays d)
  mended_among v e = go (ℕ_discrete v 0) (ℕ_discrete (mark d v) 0)
    where
      go : Dec (v ≡ 0) → Dec (mark d v ≡ 0) → (v ≡ 0) ⊎ (mark d v ≡ 0)
      go (yes z) m = inl z
      go (no s) (yes z) = inr z
      go (no s) (no m) =
          let here = stayed v e in
          absurd (omega (arith, mended-own d shape v (omega arith) here.0 m))

  -- and a node of any such set stays, as those above it do
  module _ (other : ℕ → Type 0) (sound : SoundSet d other) (among : Among d other) where
    other_kept : (v : ℕ) → 0 < v → v < d.used → (other (parent d.rows v) → mended_mark d.rows d.marks (parent d.rows v) ≡ 0) → other v → mended_mark d.rows d.marks v ≡ 0
    other_kept v some h above e =
        let own : mark d v ≡ 0 = ⊎_elim (λ z. absurd (omega arith)) (λ z. z) (among v e) in
        mended_kept d shape v some h own ∙ above (sound.closed v some e)

    other_stays : (v : ℕ) → other v → Stays d v
    other_stays v e =
        let h : v < d.used = sound.used v e in
        stays v h (downwards d shape (λ u. other u → mended_mark d.rows d.marks u ≡ 0) (λ z. mended-root d.rows d.marks) other_kept v h e)

  -- the nodes that a mending leaves present are the largest sound set among the root and the nodes whose mark is 0
  pub mended_largest : LargestSound d (λ v. present (doc d.rows (mended_marks d) d.used) v ≡ true)
  mended_largest = record { sound = mended_sound; among = mended_among; largest = other_stays }
