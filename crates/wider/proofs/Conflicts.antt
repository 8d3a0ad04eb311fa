-- On every sound document where a read's set differs, that of a wider read differs after a wider update: so every witness stays one, conflicts stay, and deep ones too.
use Prim.Native.Nat.{ℕ, ◌+◌, ◌*◌, ◌<◌, ◌≤◌}
use mathlib.Core.Path.{◌≡◌}
use mathlib.Core.List.{List, ◌++◌}
use mathlib.Core.Logic.{inl, inr}
use native.Mathlib.Decide.{dec_lt}
use native.Mathlib.Omega.{arith}
use lib.ListN.{length, get_or, length-append, get_or-append}
use Rattle.tables.specs.Words.{steps, nodes, parent}
use Rattle.tables.specs.Documents.{Doc, bare, Sound}
use Rattle.selection.specs.Ways.{up}
use Rattle.selection.proofs.Up.{Up, top, node, hung, Falls, up_of, way_is}
use Rattle.conflict.specs.Conflict.{Update, delete, insert, pattern, Differs, Witness, Conflict, Smallest, Touches, Deep}
use Rattle.conflict.proofs.Deletes.{Loss, loss_of, of_loss}
use Rattle.conflict.proofs.Inserts.{Gain, gain_of, of_gain}
use Rattle.order.specs.Fitting.{Fit, FitUpdate}
use Rattle.wider.specs.Wider.{WiderPattern, WiderTree, WiderUpdate, deletes, inserts, Wider}
use Rattle.wider.proofs.Selecting.{sel_wider, hits_wider, selected_wider, selects_wider, pattern_wider}

-- the nodes of a tree keep their words and their ways where more stand behind them
module _ {x y : List ℕ} (wider : WiderTree x y) where
  same_word : (i : ℕ) → i < length x → get_or y i 0 ≡ get_or x i 0
  same_word i h = rw wider.words (get_or-append x wider.behind 0 i h)

  same_up : {k : ℕ} {w : List ℕ} → Sound (bare x) → k < nodes x → Up x k w → Up y k w
  same_up tree h top = rw (← same_word 1 (omega arith)) top
  same_up tree h (node {v = k} some u) =
      let less : parent x k < k = tree.parents k some h in
      hung some (same_word (2 * k) (omega arith)) (same_word (2 * k + 1) (omega arith)) (same_up tree (omega arith) u)

  same_falls : Sound (bare x) → Falls y (nodes x)
  same_falls tree v some h = rw (same_word (2 * v) (omega arith)) (tree.parents v some h)

  same_way : Sound (bare x) → (k : ℕ) → k < nodes x → up y k ≡ up x k
  same_way tree k h = up_of y (nodes x) (same_falls tree) h (same_up tree h (way_is tree k h))

  more_nodes : nodes x ≤ nodes y
  more_nodes = rw (wider.words, length-append x wider.behind) (omega arith)

module _ {r s : List ℕ} (reads : Fit r) (wider_read : WiderPattern r s) where
  -- the node that is lost is lost
  loss_wider : {p q : List ℕ} {d : Doc} → 0 < steps p → WiderPattern p q → Loss r p d → Loss s q d
  loss_wider {d = d} some wider l = record {
    node = l.node;
    chosen = selected_wider wider_read reads.pattern.some d l.node l.chosen;
    hit = hits_wider wider some (up d.rows l.node) l.hit;
  }

  -- the copy of the node that is gained is made, under the same point, and its node is gained
  gain_wider : {p q x y : List ℕ} {d : Doc} → 0 < steps p → WiderPattern p q → Sound (bare x) → WiderTree x y → Gain r p x d → Gain s q y d
  gain_wider {x = x} {y = y} {d = d} some wider tree more g = record {
    point = g.point;
    node = g.node;
    chosen = selected_wider wider some d g.point g.chosen;
    inside = omega (arith, g.inside, more_nodes more);
    reads =
        rw (same_way more tree g.node g.inside)
        (sel_wider wider_read reads.pattern.some (up x g.node ++ up d.rows g.point) g.reads);
  }

  -- where the sets differ, they differ
  pub differs_wider : {u v : Update} → FitUpdate u → FitUpdate v → WiderUpdate u v → {d : Doc} → Sound d → Differs r u d → Differs s v d
  differs_wider {u = delete p} {v = delete q} fit fit' (deletes wider) sound differs =
      of_loss s q (pattern_wider wider_read reads.pattern) fit'.two sound
      (loss_wider fit.fit.pattern.some wider (loss_of r p reads.pattern fit.two sound differs))
  differs_wider {u = insert p x} {v = insert q y} fit fit' (inserts wider more) sound differs =
      of_gain s q y (pattern_wider wider_read reads.pattern) fit'.tree sound
      (gain_wider fit.fit.pattern.some wider fit.tree more (gain_of r p x reads.pattern fit.tree sound differs))
  differs_wider {u = delete p} {v = insert q y} fit fit' x10 {d = d} sound differs = elim x10 [ ]
  differs_wider {u = insert p x} {v = delete q} fit fit' x8 {d = d} sound differs = elim x8 [ ]

wider_point : {u v : Update} → WiderUpdate u v → WiderPattern (pattern u) (pattern v)
wider_point (deletes wider) = wider
wider_point (inserts wider more) = wider

-- an update point at or below a selected node is one for the wider pair, on the same tree
pub touches_wider : {r s : List ℕ} {u v : Update} → Wider r u s v → Touches r u → Touches s v
touches_wider wider t = record {
  tree = t.tree;
  sound = t.sound;
  node = t.node;
  point = t.point;
  read = selects_wider wider.read t.read;
  update = selects_wider (wider_point wider.update) t.update;
  under = t.under;
}

module _ {r s : List ℕ} {u v : Update} (reads : Fit r) (fit : FitUpdate u) (fit' : FitUpdate v) (wider : Wider r u s v) where
  -- every witness of the narrow pair is one of the wider
  pub witness_wider : {t : List ℕ} → Witness r u t → Witness s v t
  witness_wider w = record { sound = w.sound; differs = differs_wider reads wider.read fit fit' wider.update w.sound w.differs }

  -- so a conflict stays one, and so does a deep one
  pub conflict_wider : Conflict r u → Conflict s v
  conflict_wider c = record { tree = c.tree; shows = witness_wider c.shows }

  pub deep_wider : Deep r u → Deep s v
  deep_wider (inl c) = inl (conflict_wider c)
  deep_wider (inr t) = inr (touches_wider wider t)

  -- and the smallest witness never grows
  pub smallest_wider : {m n : ℕ} → Smallest r u m → Smallest s v n → 0 < m → (0 < n) × (n ≤ m)
  smallest_wider {m} {n} a b some = (go (dec_lt 0 n), omega (arith, b.fewest (a.some some).0 shown, (a.some some).2))
    where
      shown : Witness s v (a.some some).0
      shown = witness_wider (a.some some).1

      go : Dec (0 < n) → 0 < n
      go (yes h) = h
      go (no h) = absurd (b.none (omega arith) (record { tree = (a.some some).0; shows = shown }))
