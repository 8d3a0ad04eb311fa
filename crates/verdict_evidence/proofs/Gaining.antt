-- An insert on a sound tree: no node is lost, and the nodes gained are the new ones that the read selects, by copies in the order of their update points.
use Prim.Native.Nat.{ℕ, suc, ◌+◌, ◌*◌, ◌-◌, ◌<◌, ◌≤◌}
use mathlib.Core.Path.{◌≡◌, refl, sym, ◌∙◌, ap}
use mathlib.Core.Bool.{true, false, false≢true}
use mathlib.Core.List.{List}
use mathlib.Core.Logic.{◌↔◌}
use native.Mathlib.Decide.{dec_lt, ℕ_discrete}
use native.Mathlib.Omega.{arith}
use lib.ListN.{get_or}
use Rattle.tables.specs.Words.{nodes}
use Rattle.tables.specs.Patterns.{Pattern}
use Rattle.tables.specs.Documents.{Doc, bare, Sound}
use Rattle.selection.specs.Lists.{count}
use Rattle.selection.specs.Embeddings.{Selects}
use Rattle.selection.specs.Ways.{up, run, selected}
use Rattle.selection.specs.Operations.{points, copies, inserted}
use Rattle.selection.proofs.Runs.{both}
use Rattle.selection.proofs.Lists.{rising-of, count_holds}
use Rattle.selection.proofs.Selecting.{selecting}
use Rattle.selection.proofs.Keeping.{kept_selected, copy_selected}
use Rattle.selection.proofs.Inserting.{Placed, old, copied, copies-count, inserted_placed, inserted_sound, inserted_kept, inserted_copy, point_selected, selected_used, selected-number, selected_point}
use Rattle.selection.specs.Lists.{somewhere}
use Rattle.conflict.specs.Conflict.{insert, Differs, lost, gained}
use Rattle.selection.proofs.Somewhere.{Somewhere, of-somewhere, to_somewhere}
use Rattle.verdict_evidence.specs.Promise.{Lost, Gained}
use Rattle.verdict_evidence.specs.Finding.{first_of, picks, opening, new_node}
use Rattle.verdict_evidence.proofs.Firsts.{First, first_of_lem}
use Rattle.verdict_evidence.proofs.Losing.{alike}

-- a copy with a smaller number ends before one with a greater begins
ahead : (a c n k : ℕ) → a < c → k < n → a * n + k < c * n
ahead a c n k h l =
    let m : ℕ = c - suc a in
    let e : c ≡ suc a + m = omega (arith, h) in
    rw e (omega (arith, l))

-- point c has c points before it
point_place : (p : List ℕ) (d : Doc) (c : ℕ) → c < copies p d → count (selected p d) (get_or (points p d) c 0) ≡ c
unfolding points
point_place p d c h = (rising-of (selected p d) d.used c (rw copies-count at h)).place

module _ (r p x t : List ℕ) where
  -- v is a new node that the read selects: its number in the copy, and the point under which the copy hangs
  pub record Entered (v : ℕ) : Type 0 where
    pub point : ℕ
    pub node : ℕ
    pub updates : selected p (bare t) point ≡ true
    pub inside : node < nodes x
    pub reads : picks r x (up t point) node ≡ true
    pub number : v ≡ nodes t + count (selected p (bare t)) point * nodes x + node

  -- q opens where the update selects it and the read selects a node of its copy
  pub opens : (q k : ℕ) → selected p (bare t) q ≡ true → k < nodes x → picks r x (up t q) k ≡ true → opening r p x t q ≡ true
  unfolding opening
  opens q k point h reads = rw (point, to_somewhere (picks r x (up t q)) (nodes x) k h reads)

  entered_opens : {v : ℕ} (e : Entered v) → opening r p x t e.point ≡ true
  entered_opens e = opens e.point e.node e.updates e.inside e.reads

  -- the first node that the read selects in the copy under q
  chosen : ℕ → ℕ
  chosen q = first_of (picks r x (up t q)) (nodes x)

  chosen_first : (q : ℕ) → First (picks r x (up t q)) (nodes x) (chosen q)
  unfolding chosen
  chosen_first q = first_of_lem (picks r x (up t q)) (nodes x)

  -- no node that the read selects there is before it
  chosen-least : (q k : ℕ) → picks r x (up t q) k ≡ true → chosen q ≤ k
  chosen-least q k reads = go (dec_lt k (chosen q))
    where
      go : Dec (k < chosen q) → chosen q ≤ k
      go (yes h) = absurd (false≢true (sym ((chosen_first q).before k h) ∙ reads))
      go (no h) = omega (arith, h)

  -- where q opens, there is one
  chosen_inside : (q : ℕ) → opening r p x t q ≡ true → chosen q < nodes x
  unfolding opening
  chosen_inside q e =
      both (selected p (bare t) q) (somewhere (picks r x (up t q)) (nodes x)) e
      (λ point some.
      let s : Somewhere (picks r x (up t q)) (nodes x) = of-somewhere (picks r x (up t q)) (nodes x) some in
      omega (arith, s.below, chosen-least q s.at s.holds))

  opening_point : (q : ℕ) → opening r p x t q ≡ true → selected p (bare t) q ≡ true
  unfolding opening
  opening_point q e = both (selected p (bare t) q) (somewhere (picks r x (up t q)) (nodes x)) e (λ point some. point)

  -- and it is the new node that is answered
  pub opening-entered : (q : ℕ) → opening r p x t q ≡ true → Entered (new_node r p x t q)
  unfolding new_node chosen
  opening-entered q e =
      let inside : chosen q < nodes x = chosen_inside q e in
      record { point = q; node = chosen q; updates = opening_point q e; inside = inside; reads = (chosen_first q).here inside; number = refl }

  -- where q is the first point that opens, no new node that the read selects is before it
  pub entered_from : (q : ℕ) → opening r p x t q ≡ true → ((u : ℕ) → u < q → opening r p x t u ≡ false) → {v : ℕ} → Entered v → new_node r p x t q ≤ v
  unfolding new_node chosen
  entered_from q opened before {v} e = rw e.number (go (dec_lt e.point q) (ℕ_discrete e.point q))
    where
      go : Dec (e.point < q) → Dec (e.point ≡ q) →
          nodes t + count (selected p (bare t)) q * nodes x + chosen q ≤ nodes t + count (selected p (bare t)) e.point * nodes x + e.node
      go (yes h) other = absurd (false≢true (sym (before e.point h) ∙ entered_opens e))
      go (no h) (yes same) = rw same (omega (arith, chosen-least q e.node (rw same at e.reads)))
      go (no h) (no apart) =
          let fewer = count_holds (selected p (bare t)) q e.point (omega (arith, h, apart)) (opening_point q opened) in
          omega (arith, ahead (count (selected p (bare t)) q) (count (selected p (bare t)) e.point) (nodes x) (chosen q) fewer (chosen_inside q opened))

  module _ (pattern : Pattern r) (tree : Sound (bare x)) (sound : Sound (bare t)) where
    behind : Sound (inserted p x (bare t))
    behind = inserted_sound p x (bare t) tree sound

    kept : (v : ℕ) → v < nodes t → selected r (inserted p x (bare t)) v ≡ selected r (bare t) v
    kept v h = kept_selected (inserted_kept p x (bare t) tree sound) r v h

    -- a node of the tree is selected as before
    pub kept_alike : (v : ℕ) → v < nodes t → Selects r (bare t) v ↔ Selects r (inserted p x (bare t)) v
    kept_alike v h = alike pattern sound behind v (kept v h)

    pub none_lost : (v : ℕ) → Lost r (insert p x) (bare t) v → ⊥
    none_lost v l = l.gone ((kept_alike v (selected_used r (bare t) v ((selecting pattern sound v).1 l.before))).0 l.before)

    pub gained_behind : (v : ℕ) → Gained r (insert p x) (bare t) v → nodes t ≤ v
    gained_behind v g = go (dec_lt v (nodes t))
      where
        go : Dec (v < nodes t) → nodes t ≤ v
        go (yes h) = absurd (g.absent ((kept_alike v h).1 g.behind))
        go (no h) = omega (arith, h)

    -- a new node that the read selects stands in the copy under some point
    pub entered : (v : ℕ) → nodes t ≤ v → Selects r (inserted p x (bare t)) v → Entered v
    unfolding picks
    entered v h s = placed (inserted_placed p x (bare t) v (selected_used r (inserted p x (bare t)) v here))
      where
        here : selected r (inserted p x (bare t)) v ≡ true
        here = (selecting pattern behind v).1 s

        placed : Placed x (nodes t) (copies p (bare t)) v → Entered v
        placed (old l) = absurd (omega (arith, h, l))
        placed (copied c k l m e) =
            record {
              point = get_or (points p (bare t)) c 0;
              node = k;
              updates = point_selected p (bare t) c l;
              inside = m;
              reads = sym (copy_selected (inserted_copy p x (bare t) tree sound c l) r k m) ∙ (rw e at here);
              number = rw (point_place p (bare t) c l) e;
            }

    -- and each such node is gained
    pub entered_gained : {v : ℕ} → Entered v → Gained r (insert p x) (bare t) v
    unfolding run picks
    entered_gained {v} e = record { absent = absent; behind = (selecting pattern behind v).0 (rw e.number here) }
      where
        c : ℕ
        c = count (selected p (bare t)) e.point

        way : up t (get_or (points p (bare t)) c 0) ≡ up t e.point
        way = ap (up t) (selected_point p (bare t) e.point e.updates)

        here : selected r (inserted p x (bare t)) (nodes t + c * nodes x + e.node) ≡ true
        here =
            copy_selected (inserted_copy p x (bare t) tree sound c (selected-number p (bare t) e.point e.updates)) r e.node e.inside
            ∙ rw way e.reads

        absent : Selects r (bare t) v → ⊥
        absent s = omega (arith, selected_used r (bare t) v ((selecting pattern sound v).1 s), e.number)

    -- where no node of the tree opens, the sets are the same
    pub opening_none : ((q : ℕ) → q < nodes t → opening r p x t q ≡ false) → Differs r (insert p x) (bare t) → ⊥
    opening_none clear (lost v here gone) = none_lost v (record { before = here; gone = gone })
    opening_none clear (gained v gone here) =
        let e : Entered v = entered v (gained_behind v (record { absent = gone; behind = here })) here in
        false≢true (sym (clear e.point (selected_used p (bare t) e.point e.updates)) ∙ entered_opens e)
