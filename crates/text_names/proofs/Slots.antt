-- Slots of names: what is marked stood before.
use Prim.Native.Nat.{ℕ, ◌+◌, ◌*◌, ◌%◌, ◌≤◌, ◌<◌}
use mathlib.Core.Path.{◌≡◌, refl, sym, ◌∙◌}
use mathlib.Core.List.{List, [], ◌∷◌, ◌++◌}
use native.Mathlib.Numerals.{add-one}
use native.Mathlib.Decide.{dec_lt}
use native.Mathlib.Omega.{arith}
use mathlib.Core.Bool.{Bool, true, false}
use lib.Dec.{eqb}
use borrow.Author.Tests.{eqb-true, eqb-false}
use lib.ListN.{length, get_or, set, take, drop, length-set, length-append, drop_of_length-le, get_or-append}
use lib.Seq.{drop-cons, get_or-set_same, get_or-set_other, get_or_at}
use Rattle.text_names.specs.Names.{lines}
use Rattle.text_names.specs.Entries.{piece, slots, slot_of, FreshAt}
use Rattle.text_names.proofs.Numbers.{number_none}

module _ (s : List ℕ) (i h : ℕ) {whole : ℕ} (w : whole ≡ slot_of h (drop i s)) where
  pub slot-on : i < length s → {more : ℕ} → more ≡ (31 * h + get_or s i 0) % slots → whole ≡ slot_of more (drop (i + 1) s)
  unfolding slot_of
  slot-on n e = w ∙ rw (drop-cons s i 0 n, add-one i, e)

  pub slot_end : length s ≤ i → h ≡ whole
  unfolding slot_of
  slot_end n = sym (w ∙ rw (drop_of_length-le s {i = i} n))

-- the slot of each of these names is marked
pub record Marked (ws : List (List ℕ)) (marks : List ℕ) : Type 0 where
  pub long : length marks ≡ slots
  pub marked : (k : ℕ) → k < length ws → get_or marks (slot_of 0 (get_or ws k [])) 0 ≡ 1

pub none_marked : (marks : List ℕ) → length marks ≡ slots → Marked [] marks
none_marked marks e = record { long = e; marked = λ k h. absurd (omega (arith, h)) }

-- a name whose slot is not marked is none of them
pub fresh_at : (l : List ℕ) (from to : ℕ) (marks : List ℕ) → Marked (lines (take from l)) marks → (at : ℕ) → at ≡ slot_of 0 (piece l from to) → FreshAt l from to (get_or marks at 0)
fresh_at l from to marks m at e =
    record {
      fresh = λ z.
          number_none (lines (take from l)) (piece l from to)
          (λ j h same.
          let one : get_or marks at 0 ≡ 1 = rw (e, ← same) (m.marked j h) in
          omega (arith, z, one));
    }

-- a mark that is set, or was
set_marked : (marks : List ℕ) (at j : ℕ) → at < length marks → get_or marks j 0 ≡ 1 → get_or (set marks at 1) j 0 ≡ 1
set_marked marks at j h was = go (eqb j at) refl
  where
    go : (b : Bool) → eqb j at ≡ b → get_or (set marks at 1) j 0 ≡ 1
    go true e = rw (eqb-true j at e) (get_or-set_same marks at 1 0 h)
    go false e = get_or-set_other marks at j 1 0 (eqb-false j at e) ∙ was

-- one more is marked
pub one_marked : (ws : List (List ℕ)) (w : List ℕ) (marks : List ℕ) → Marked ws marks → (at : ℕ) → at ≡ slot_of 0 w → at < slots → Marked (ws ++ (w ∷ [])) (set marks at 1)
one_marked ws w marks m at e h = record { long = length-set marks at 1 ∙ m.long; marked = λ k n. go k n (dec_lt k (length ws)) }
  where
    within : at < length marks
    within = rw m.long h

    go : (k : ℕ) → k < length (ws ++ (w ∷ [])) → Dec (k < length ws) → get_or (set marks at 1) (slot_of 0 (get_or (ws ++ (w ∷ [])) k [])) 0 ≡ 1
    go k n (yes l) = rw (get_or-append ws (w ∷ []) [] k l) (set_marked marks at (slot_of 0 (get_or ws k [])) within (m.marked k l))
    go k n (no l) =
        let last : length ws ≡ k = omega (arith, length-append ws (w ∷ []), n) in
        rw (get_or_at ws w [] [] k last, ← e) (get_or-set_same marks at 1 0 within)
