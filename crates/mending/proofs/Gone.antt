-- A used node is removed by a mending exactly if it, or a node above it, had a mark other than 0, the root's left out.
use Prim.Native.Nat.{ℕ, ◌<◌}
use mathlib.Core.Path.{◌≡◌, refl, sym, ◌∙◌}
use mathlib.Core.Logic.{inl, inr, ◌↔◌, ◌≢◌}
use native.Mathlib.Decide.{map_dec, ℕ_discrete}
use native.Mathlib.Omega.{arith}
use Rattle.tables.specs.Words.{parent}
use Rattle.tables.specs.Documents.{Doc, mark}
use Rattle.tables.specs.Checks.{shape_check, Fine}
use Rattle.selection.specs.Embeddings.{Child, Below, Below.one, Below.more, AtOrBelow}
use Rattle.mending.specs.Mending.{mended_mark}
use Rattle.mending.specs.ByWords.{Gone}
use Rattle.mending.proofs.Marks.{mended-bit, mended-root}
use Rattle.mending.proofs.Down.{falls, downwards, mended_kept, mended-own, mended_above}

module _ (d : Doc) (shape : shape_check d ≡ Fine) where
  -- what is gone above is gone here
  further : (v : ℕ) → 0 < v → Gone d (parent d.rows v) → Gone d v
  further v some gone = record { node = gone.node; not_root = gone.not_root; marked = gone.marked; under = inr (go gone.under) }
    where
      go : AtOrBelow d.rows gone.node (parent d.rows v) → Below d.rows gone.node v
      go (inl e) = one (record { not_root = some; under = e })
      go (inr b) = more b (record { not_root = some; under = refl })

  mended_gone : (v : ℕ) → 0 < v → v < d.used → (mended_mark d.rows d.marks (parent d.rows v) ≡ 1 → Gone d (parent d.rows v)) →
      mended_mark d.rows d.marks v ≡ 1 → Gone d v
  mended_gone v some h above e = go (ℕ_discrete (mark d v) 0)
    where
      go : Dec (mark d v ≡ 0) → Gone d v
      go (yes z) = further v some (above (sym (mended_kept d shape v some h z) ∙ e))
      go (no s) = record { node = v; not_root = some; marked = omega arith; under = inl refl }

  -- and back: a child of a removed node is removed
  child_gone : {u v : ℕ} → Child d.rows u v → v < d.used → (u < d.used → mended_mark d.rows d.marks u ≡ 1) → mended_mark d.rows d.marks v ≡ 1
  child_gone {u} {v} c h above =
      let fall : parent d.rows v < v = falls d shape v c.not_root h in
      let here : mended_mark d.rows d.marks (parent d.rows v) ≡ 1 = rw c.under (above (omega (arith, c.under))) in
      omega (arith, mended_above d shape v c.not_root h, mended-bit d.rows d.marks v)

  below_gone : {u v : ℕ} → Below d.rows u v → v < d.used → (u < d.used → mended_mark d.rows d.marks u ≡ 1) → mended_mark d.rows d.marks v ≡ 1
  below_gone (one c) h top = child_gone c h top
  below_gone (more b c) h top = child_gone c h (λ l. below_gone b l top)

  gone_mended : (v : ℕ) → v < d.used → Gone d v → mended_mark d.rows d.marks v ≡ 1
  gone_mended v h gone = go gone.under
    where
      top : gone.node < d.used → mended_mark d.rows d.marks gone.node ≡ 1
      top l = mended-own d shape gone.node gone.not_root l (λ z. omega (arith, gone.marked))

      go : AtOrBelow d.rows gone.node v → mended_mark d.rows d.marks v ≡ 1
      go (inl e) = rw e (top (rw e at h))
      go (inr b) = below_gone b h top

  -- the mended mark is 1 exactly of what is gone
  pub gone_exactly : (v : ℕ) → v < d.used → (mended_mark d.rows d.marks v ≡ 1) ↔ Gone d v
  gone_exactly v h = (
    downwards d shape (λ u. mended_mark d.rows d.marks u ≡ 1 → Gone d u) (λ e. absurd (omega (arith, mended-root d.rows d.marks))) mended_gone v h,
    gone_mended v h,
  )

  -- and 0 of what is not
  pub not_gone : (v : ℕ) → v < d.used → (Gone d v → ⊥) → mended_mark d.rows d.marks v ≡ 0
  not_gone v h not =
      let other : mended_mark d.rows d.marks v ≢ 1 = λ e. not ((gone_exactly v h).0 e) in
      omega (arith, mended-bit d.rows d.marks v)

  -- every used node is gone or not
  pub gone_or_not : (v : ℕ) → v < d.used → Dec (Gone d v)
  gone_or_not v h = map_dec (gone_exactly v h).0 (gone_exactly v h).1 (ℕ_discrete (mended_mark d.rows d.marks v) 1)
