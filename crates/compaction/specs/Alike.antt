-- When two documents hold the same things by identity, whatever the numbers of their nodes are.
use Rattle.std.specs.Prelude.{ℕ, ◌<◌, ◌≡◌, true}
use Rattle.tables.specs.Words.{parent, tag}
use Rattle.tables.specs.Documents.{present}
use Rattle.identities.specs.Documents.{Document, identity}

-- node v of d and node w of e are present and have one identity
pub record Paired (d e : Document) (v w : ℕ) : Type 0 where
  pub here : present d.tables v ≡ true
  pub there : present e.tables w ≡ true
  pub same : identity d v ≡ identity e w

-- node v of d has its like in e
pub record Partner (d e : Document) (v : ℕ) : Type 0 where
  pub node : ℕ
  pub paired : Paired d e v node

-- the same things: the present nodes of each have their like in the other, with the same label and a parent of the same identity, and both
-- give the same identity next
pub record Alike (d e : Document) : Type 0 where
  pub next : d.next ≡ e.next
  pub there : (v : ℕ) → present d.tables v ≡ true → Partner d e v
  pub here : (w : ℕ) → present e.tables w ≡ true → Partner e d w
  pub root : identity d 0 ≡ identity e 0
  pub tags : {v w : ℕ} → Paired d e v w → tag d.tables.rows v ≡ tag e.tables.rows w
  pub parents : {v w : ℕ} → Paired d e v w → 0 < v → 0 < w → identity d (parent d.tables.rows v) ≡ identity e (parent e.tables.rows w)
