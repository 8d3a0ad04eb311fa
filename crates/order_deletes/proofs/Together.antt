-- A delete and then others is all of them together, and together they have no order.
use Rattle.std.specs.Prelude.{Ok, Err}
use Prim.Native.Nat.{ℕ, suc, ◌<◌, ◌≤◌}
use mathlib.Core.Path.{◌≡◌, refl, sym, ◌∙◌, ap}
use mathlib.Core.Bool.{Bool, true, false, ◌&&◌, ◌||◌, not, cond, and-false, or-true, or_assoc, false≢true, Bool-set}
use mathlib.Core.List.{List, [], ◌∷◌, ◌++◌, Perm, Permᴰ}
use mathlib.Core.Logic.{◌⊎◌, inl, inr, ∥∥₁_elim}
use lib.ListN.{length, drop, take-append-drop}
use lib.Seq.{drop_at}
use Rattle.tables.specs.Documents.{Doc, doc, mark, present}
use Rattle.tables.specs.Checks.{where_fine, Checked, Fine}
use Rattle.tables.specs.declared.refusal.Refusal.{Refusal}
use Rattle.tables.proofs.Soundness.{either_of}
use Rattle.selection.specs.Lists.{tab, front}
use Rattle.selection.specs.Ways.{up}
use Rattle.selection.specs.Operations.{hits, struck, deleted}
use Rattle.selection.proofs.Lists.{tab_ext, length-tab, front-take, get_or-tab-before, get_or-tab-behind}
use Rattle.selection.proofs.Deleting.{deleted-mark, present-deleted}
use Rattle.order.specs.Frames.{At, here, there}
use Rattle.order_deletes.specs.Together.{own_check, any_hits, marked_at, together}

-- tests that agree at the used nodes
marked_ext : (f g : ℕ → Bool) (d : Doc) → ((v : ℕ) → v < d.used → f v ≡ g v) → marked_at f d ≡ marked_at g d
unfolding marked_at
marked_ext f g d h =
    ap (λ (t : List ℕ). t ++ drop d.used d.marks)
    (tab_ext (λ v. cond (f v) 1 (mark d v)) (λ v. cond (g v) 1 (mark d v)) d.used (λ v l. rw (h v l)))

-- of none
pub together_none : (d : Doc) → d.used ≤ length d.marks → together [] d ≡ d.marks
unfolding together marked_at any_hits front
together_none d long =
    ap (λ (t : List ℕ). t ++ drop d.used d.marks)
    (tab_ext (λ v. cond (present d v && false) 1 (mark d v)) (mark d) d.used (λ v l. rw (and-false (present d v)))
    ∙ front-take d.used d.marks long)
    ∙ take-append-drop d.used d.marks

-- a refused one counts for nothing
pub together_skip : (p : List ℕ) (ps : List (List ℕ)) (d : Doc) {r : Refusal} → own_check p ≡ Err r → together (p ∷ ps) d ≡ together ps d
unfolding together any_hits
together_skip p ps d e = rw e

-- one that is not refused, and then the others
pub together_more : (p : List ℕ) (ps : List (List ℕ)) (d : Doc) → own_check p ≡ Fine → together ps (deleted p d) ≡ together (p ∷ ps) d
unfolding together marked_at any_hits deleted struck
together_more p ps d e =
    rw
    (drop_at (tab (λ v. cond (struck p d v) 1 (mark d v)) d.used) (drop d.used d.marks) d.used (length-tab (λ v. cond (struck p d v) 1 (mark d v)) d.used), e)
    (ap (λ (t : List ℕ). t ++ drop d.used d.marks) (tab_ext _ _ d.used at_node))
  where
    once : (here hit more : Bool) (m : ℕ) → cond ((here && not hit) && more) 1 (cond (here && hit) 1 m) ≡ cond (here && (hit || more)) 1 m
    once true true more m = refl
    once true false more m = refl
    once false hit more m = refl

    at_node : (v : ℕ) → v < d.used →
        cond (present (deleted p d) v && any_hits ps (up d.rows v)) 1 (mark (deleted p d) v) ≡ cond (present d v && (hits p (up d.rows v) || any_hits ps (up d.rows v))) 1 (mark d v)
    at_node v l = rw (present-deleted p d v, deleted-mark p d v l) (once (present d v) (hits p (up d.rows v)) (any_hits ps (up d.rows v)) (mark d v))

-- in every order the same is hit
hits_order : {ps qs : List (List ℕ)} → Permᴰ ps qs → (w : List ℕ) → any_hits ps w ≡ any_hits qs w
unfolding any_hits
hits_order Permᴰ.nil w = refl
hits_order (Permᴰ.cons e h) w = rw (e, hits_order h w)
hits_order (Permᴰ.swap {a = a} {b = b} {l = l} e f) w =
    rw (← e, ← f) (swap (where_fine (own_check a) (hits a w) false) (where_fine (own_check b) (hits b w) false) (any_hits l w))
  where
    swap : (x y z : Bool) → (x || (y || z)) ≡ (y || (x || z))
    swap true true z = refl
    swap true false z = refl
    swap false y z = refl
hits_order (Permᴰ.trans h k) w = hits_order h w ∙ hits_order k w

pub together_order : {ps qs : List (List ℕ)} → Perm ps qs → (d : Doc) → together ps d ≡ together qs d
unfolding together
together_order {ps} {qs} same d =
    marked_ext _ _ d (λ v l. ∥∥₁_elim same (Bool-set _ _) (λ h. ap (λ (b : Bool). present d v && b) (hits_order h (up d.rows v))))

-- the mark of a node after all of them
pub together-mark : (ps : List (List ℕ)) (d : Doc) (v : ℕ) → v < d.used → mark (doc d.rows (together ps d) d.used) v ≡ cond (present d v && any_hits ps (up d.rows v)) 1 (mark d v)
unfolding together marked_at
together-mark ps d = get_or-tab-before (λ v. cond (present d v && any_hits ps (up d.rows v)) 1 (mark d v)) d.used (drop d.used d.marks)

pub together-behind : (ps : List (List ℕ)) (d : Doc) (v : ℕ) → d.used ≤ v → mark (doc d.rows (together ps d) d.used) v ≡ mark d v
unfolding together marked_at
together-behind ps d = get_or-tab-behind (λ v. cond (present d v && any_hits ps (up d.rows v)) 1 (mark d v)) d.used d.marks

-- what is hit, one of them hits that is not refused
pub record HitBy (ps : List (List ℕ)) (w : List ℕ) : Type 0 where
  pub place : ℕ
  pub pattern : List ℕ
  pub at : At ps place pattern
  pub fine : own_check pattern ≡ Fine
  pub hit : hits pattern w ≡ true

pub any_hit : (ps : List (List ℕ)) (w : List ℕ) → any_hits ps w ≡ true → HitBy ps w
unfolding any_hits
any_hit [] w e = absurd (false≢true e)
any_hit (p ∷ ps) w e = first (own_check p) refl (either_of (where_fine (own_check p) (hits p w) false) (any_hits ps w) e) (any_hit ps w)
  where
    first : (c : Checked) → own_check p ≡ c → (where_fine c (hits p w) false ≡ true) ⊎ (any_hits ps w ≡ true) → (any_hits ps w ≡ true → HitBy ps w) → HitBy (p ∷ ps) w
    first (Ok tt) fine (inl q) more = record { place = 0; pattern = p; at = here; fine = fine; hit = q }
    first (Err why) fine (inl q) more = absurd (false≢true q)
    first c fine (inr q) more =
        let rest = more q in
        record { place = suc rest.place; pattern = rest.pattern; at = there rest.at; fine = rest.fine; hit = rest.hit }

pub hit_any : {ps : List (List ℕ)} {k : ℕ} {p : List ℕ} (w : List ℕ) → At ps k p → own_check p ≡ Fine → hits p w ≡ true → any_hits ps w ≡ true
unfolding any_hits
hit_any w here fine hit = rw (fine, hit)
hit_any w (there {c = c} at) fine hit = rw (hit_any w at fine hit) (or-true (where_fine (own_check c) (hits c w) false))

-- some and then others hit what one of them all hits
hits_both : (ps qs : List (List ℕ)) (w : List ℕ) → any_hits (ps ++ qs) w ≡ (any_hits ps w || any_hits qs w)
unfolding any_hits
hits_both [] qs w = refl
hits_both (p ∷ ps) qs w = rw (hits_both ps qs w) (sym (or_assoc (where_fine (own_check p) (hits p w) false) (any_hits ps w) (any_hits qs w)))

-- one that is among them adds nothing
pub together_again : {ps : List (List ℕ)} {k : ℕ} {p : List ℕ} → At ps k p → (d : Doc) → together (ps ++ (p ∷ [])) d ≡ together ps d
unfolding together any_hits
together_again {ps} {k} {p} at d = marked_ext _ _ d (λ v l. ap (λ (b : Bool). present d v && b) (same (up d.rows v)))
  where
    adds : (c : Checked) (hit any : Bool) → (c ≡ Fine → hit ≡ true → any ≡ true) → (any || (where_fine c hit false || false)) ≡ any
    adds c hit true f = refl
    adds (Ok tt) true false f = absurd (false≢true (f refl refl))
    adds (Ok tt) false false f = refl
    adds (Err why) hit false f = refl

    same : (w : List ℕ) → any_hits (ps ++ (p ∷ [])) w ≡ any_hits ps w
    same w = hits_both ps (p ∷ []) w ∙ adds (own_check p) (hits p w) (any_hits ps w) (hit_any w at)
