-- Lines of a list, cut off at its front, and put together.
use Prim.Native.Nat.{ℕ, suc, ◌+◌, ◌-◌, ◌≤◌, ◌<◌}
use mathlib.Core.Path.{◌≡◌, refl, ◌∙◌}
use mathlib.Core.Bool.{Bool, true, false, cond}
use mathlib.Core.List.{List, [], ◌∷◌, ◌++◌}
use native.Mathlib.Omega.{arith}
use lib.Dec.{eqb}
use lib.ListN.{length, take, drop, length-drop}
use lib.Seq.{drop-drop}
use Rattle.text_parts.specs.Next.{next}
use Rattle.text_parts.proofs.Cutting.{up_to, next_up}
use Rattle.text_names.specs.Names.{feed, lines, onto, ended}
use Rattle.text_names.specs.Entries.{piece}

-- the first line goes up to the first line feed
lines_cut : (t : List ℕ) → up_to feed t < length t → lines t ≡ take (up_to feed t) t ∷ lines (drop (suc (up_to feed t)) t)
unfolding lines up_to
lines_cut [] h = absurd (omega (arith, h))
lines_cut (c ∷ t) h = go (eqb c feed) h (lines_cut t)
  where
    go : (b : Bool) → cond b 0 (suc (up_to feed t)) < suc (length t)
        → (up_to feed t < length t → lines t ≡ take (up_to feed t) t ∷ lines (drop (suc (up_to feed t)) t))
        → cond b ([] ∷ lines t) (onto c (lines t)) ≡ take (cond b 0 (suc (up_to feed t))) (c ∷ t) ∷ lines (drop (suc (cond b 0 (suc (up_to feed t)))) (c ∷ t))
    go true k rest = refl
    go false k rest = rw (rest (omega (arith, k)))

-- up to its line feed it stands alone
lines-alone : (t : List ℕ) → up_to feed t < length t → lines (take (suc (up_to feed t)) t) ≡ take (up_to feed t) t ∷ []
unfolding lines up_to
lines-alone [] h = absurd (omega (arith, h))
lines-alone (c ∷ t) h = go (eqb c feed) refl h (lines-alone t)
  where
    go : (b : Bool) → eqb c feed ≡ b → cond b 0 (suc (up_to feed t)) < suc (length t)
        → (up_to feed t < length t → lines (take (suc (up_to feed t)) t) ≡ take (up_to feed t) t ∷ [])
        → lines (take (suc (cond b 0 (suc (up_to feed t)))) (c ∷ t)) ≡ take (cond b 0 (suc (up_to feed t))) (c ∷ t) ∷ []
    go true e k rest = rw e
    go false e k rest = rw (e, rest (omega (arith, k)))

ended-alone : (t : List ℕ) → up_to feed t < length t → ended (take (suc (up_to feed t)) t) ≡ true
unfolding ended up_to
ended-alone [] h = absurd (omega (arith, h))
ended-alone (c ∷ []) h = go (eqb c feed) refl h
  where
    go : (b : Bool) → eqb c feed ≡ b → cond b 0 1 < 1 → ended (take (suc (cond b 0 1)) (c ∷ [])) ≡ true
    go true e k = e
    go false e k = absurd (omega (arith, k))
ended-alone (c ∷ d ∷ t) h = go (eqb c feed) refl h (ended-alone (d ∷ t))
  where
    go : (b : Bool) → eqb c feed ≡ b → cond b 0 (suc (up_to feed (d ∷ t))) < suc (suc (length t))
        → (up_to feed (d ∷ t) < suc (length t) → ended (take (suc (up_to feed (d ∷ t))) (d ∷ t)) ≡ true)
        → ended (take (suc (cond b 0 (suc (up_to feed (d ∷ t))))) (c ∷ d ∷ t)) ≡ true
    go true e k rest = e
    go false e k rest = rest (omega (arith, k))

-- without a line feed there is none
lines_none : (t : List ℕ) → length t ≤ up_to feed t → lines t ≡ []
unfolding lines up_to
lines_none [] h = refl
lines_none (c ∷ t) h = go (eqb c feed) h (lines_none t)
  where
    go : (b : Bool) → suc (length t) ≤ cond b 0 (suc (up_to feed t)) → (length t ≤ up_to feed t → lines t ≡ []) → cond b ([] ∷ lines t) (onto c (lines t)) ≡ []
    go true k rest = absurd (omega (arith, k))
    go false k rest = rw (rest (omega (arith, k)))

-- bytes without a line feed are not ended
ended_none : (t : List ℕ) → 0 < length t → length t ≤ up_to feed t → ended t ≡ false
unfolding ended up_to
ended_none [] s h = absurd (omega (arith, s))
ended_none (c ∷ []) s h = go (eqb c feed) h
  where
    go : (b : Bool) → 1 ≤ cond b 0 (suc (up_to feed [])) → b ≡ false
    go true k = absurd (omega (arith, k))
    go false k = refl
ended_none (c ∷ d ∷ t) s h = go (eqb c feed) h (ended_none (d ∷ t))
  where
    go : (b : Bool) → suc (suc (length t)) ≤ cond b 0 (suc (up_to feed (d ∷ t))) → (0 < suc (length t) → suc (length t) ≤ up_to feed (d ∷ t) → ended (d ∷ t) ≡ false) → ended (d ∷ t) ≡ false
    go true k rest = absurd (omega (arith, k))
    go false k rest = rest (omega arith) (omega (arith, k))

-- the line that begins at a place, up to the next line feed
module _ (l : List ℕ) (from : ℕ) (h : from ≤ length l) {to : ℕ} (is : to ≡ next feed l from) where
  up : to ≡ from + up_to feed (drop from l)
  up = is ∙ next_up feed l from h

  pub line_cut : to < length l → lines (drop from l) ≡ piece l from to ∷ lines (drop (to + 1) l)
  line_cut k =
      let u = up in
      let far : up_to feed (drop from l) < length (drop from l) = rw length-drop (omega (arith, u, k)) in
      let long : to - from ≡ up_to feed (drop from l) = omega (arith, u) in
      let behind : from + suc (up_to feed (drop from l)) ≡ to + 1 = omega (arith, u) in
      rw long (lines_cut (drop from l) far ∙ rw (drop-drop, behind))

  pub line_alone : to < length l → lines (take (to + 1 - from) (drop from l)) ≡ piece l from to ∷ []
  line_alone k =
      let u = up in
      let far : up_to feed (drop from l) < length (drop from l) = rw length-drop (omega (arith, u, k)) in
      let long : to - from ≡ up_to feed (drop from l) = omega (arith, u) in
      let more : to + 1 - from ≡ suc (up_to feed (drop from l)) = omega (arith, u) in
      rw (long, more) (lines-alone (drop from l) far)

  pub line_ends : to < length l → ended (take (to + 1 - from) (drop from l)) ≡ true
  line_ends k =
      let u = up in
      let far : up_to feed (drop from l) < length (drop from l) = rw length-drop (omega (arith, u, k)) in
      let more : to + 1 - from ≡ suc (up_to feed (drop from l)) = omega (arith, u) in
      rw more (ended-alone (drop from l) far)

  pub line_none : length l ≤ to → lines (drop from l) ≡ []
  line_none k = lines_none (drop from l) (rw length-drop (omega (arith, up, k)))

  pub line_open : from < length l → length l ≤ to → ended (drop from l) ≡ false
  line_open s k = ended_none (drop from l) (rw length-drop (omega (arith, s))) (rw length-drop (omega (arith, up, k)))

-- a list that is ended has a line, or is empty
pub some_line : (P : List (List ℕ) → Type 0) (c : ℕ) (s : List ℕ) → ended (c ∷ s) ≡ true → ((w : List ℕ) (ws : List (List ℕ)) → P (w ∷ ws)) → P (lines (c ∷ s))
unfolding lines ended
some_line P c [] e all = rw e (all [] [])
some_line P c (d ∷ s) e all = some_line (λ ls. P (cond (eqb c feed) ([] ∷ ls) (onto c ls))) d s e (λ w ws. go (eqb c feed) w ws)
  where
    go : (b : Bool) (w : List ℕ) (ws : List (List ℕ)) → P (cond b ([] ∷ w ∷ ws) ((c ∷ w) ∷ ws))
    go true w ws = all [] (w ∷ ws)
    go false w ws = all (c ∷ w) ws

-- behind an ended list the lines go on
pub lines-append : (a b : List ℕ) → ended a ≡ true → lines (a ++ b) ≡ lines a ++ lines b
unfolding lines ended
lines-append [] b e = refl
lines-append (c ∷ []) b e = rw e
lines-append (c ∷ d ∷ a) b e = rw (lines-append (d ∷ a) b e) (some_line (λ ls. cond (eqb c feed) ([] ∷ (ls ++ lines b)) (onto c (ls ++ lines b)) ≡ cond (eqb c feed) ([] ∷ ls) (onto c ls) ++ lines b) d a e (go (eqb c feed)))
  where
    go : (t : Bool) (w : List ℕ) (ws : List (List ℕ)) → cond t ([] ∷ (w ∷ ws) ++ lines b) (onto c ((w ∷ ws) ++ lines b)) ≡ cond t ([] ∷ (w ∷ ws)) (onto c (w ∷ ws)) ++ lines b
    go true w ws = refl
    go false w ws = refl

pub ended-append : (a b : List ℕ) → ended a ≡ true → ended (a ++ b) ≡ ended b
unfolding ended
ended-append [] b e = refl
ended-append (c ∷ []) [] e = e
ended-append (c ∷ []) (d ∷ b) e = refl
ended-append (c ∷ d ∷ a) b e = ended-append (d ∷ a) b e

-- a list that a line feed ends is ended
pub ended-feed : (a : List ℕ) → ended (a ++ (feed ∷ [])) ≡ true
unfolding ended
ended-feed [] = refl
ended-feed (c ∷ []) = refl
ended-feed (c ∷ d ∷ a) = ended-feed (d ∷ a)
