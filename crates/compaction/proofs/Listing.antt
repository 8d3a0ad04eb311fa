-- Two strictly rising lists with the same members are equal; so alike documents list the likes of what the other lists, at the same places.
use Prim.Native.Nat.{ℕ, zero, suc, ◌<◌, ◌≤◌}
use mathlib.Core.Path.{◌≡◌, sym, ◌∙◌}
use mathlib.Core.Bool.{Bool, true}
use native.Mathlib.Decide.{dec_lt}
use native.Mathlib.Nat.{eq-or-lt_of_le}
use native.Mathlib.Omega.{arith}
use mathlib.Core.Logic.{⊎_elim}
use lib.ListN.{get_or}
use Rattle.tables.specs.Documents.{present}
use Rattle.selection.specs.Lists.{rising, count}
use Rattle.selection.proofs.Lists.{rising-of, rising_at, rising_rises, count_holds}
use Rattle.selection.proofs.Presence.{present_used}
use Rattle.identities.specs.Documents.{Document, identity, SoundDocument}
use Rattle.compaction.specs.Alike.{Paired, Partner, Alike}
use Rattle.compaction.proofs.Alike.{paired_sym, alike_sym}

-- a, of n elements, rises strictly
record Rises (a : ℕ → ℕ) (n : ℕ) : Type 0 where
  rises : (i j : ℕ) → i < j → j < n → a i < a j

-- x is one of the m elements of b
record Among (b : ℕ → ℕ) (m x : ℕ) : Type 0 where
  at : ℕ
  within : at < m
  same : b at ≡ x

no_fall : {b : ℕ → ℕ} {m : ℕ} → Rises b m → (i j : ℕ) → i ≤ j → j < m → b i ≤ b j
no_fall {b} up i j h l = ⊎_elim (λ (e : i ≡ j). rw e (omega arith)) (λ (k : i < j). omega (arith, up.rises i j k l)) (eq-or-lt_of_le h)

-- where every element of a is one of b, b's are not greater, place for place
covers : (a b : ℕ → ℕ) (n m : ℕ) → Rises a n → Rises b m → ((i : ℕ) → i < n → Among b m (a i)) → (i : ℕ) → i < n → (i < m) × (b i ≤ a i)
covers a b n m up up' all zero h =
    let x : Among b m (a 0) = all 0 h in
    (omega (arith, x.within), omega (arith, x.same, no_fall up' 0 x.at (omega arith) x.within))
covers a b n m up up' all (suc i) h = go (covers a b n m up up' all i (omega arith)) (dec_lt i x.at)
  where
    x : Among b m (a (suc i))
    x = all (suc i) h

    go : (i < m) × (b i ≤ a i) → Dec (i < x.at) → (suc i < m) × (b (suc i) ≤ a (suc i))
    go before (yes l) = (omega (arith, x.within), omega (arith, x.same, no_fall up' (suc i) x.at l x.within))
    go before (no l) = absurd (omega (arith, before.1, x.same, up.rises i (suc i) (omega arith) h, no_fall up' x.at i (omega arith) before.0))

-- so the two have equally many elements, and the same ones
module _ (a b : ℕ → ℕ) (n m : ℕ) (up : Rises a n) (up' : Rises b m) (all : (i : ℕ) → i < n → Among b m (a i)) (all' : (j : ℕ) → j < m → Among a n (b j)) where
  same_number : n ≡ m
  same_number = go (dec_lt m n) (dec_lt n m)
    where
      go : Dec (m < n) → Dec (n < m) → n ≡ m
      go (yes h) k = absurd (omega (arith, (covers a b n m up up' all m h).0))
      go (no h) (yes k) = absurd (omega (arith, (covers b a m n up' up all' n k).0))
      go (no h) (no k) = omega arith

  same_elements : (i : ℕ) → i < n → a i ≡ b i
  same_elements i h =
      let first = covers a b n m up up' all i h in
      omega (arith, first.1, (covers b a m n up' up all' i first.0).1)

-- a test of the present nodes of d, and one of those of e, that say the same of likes
pub record Agree (d e : Document) (f g : ℕ → Bool) : Type 0 where
  pub here : (v : ℕ) → f v ≡ true → present d.tables v ≡ true
  pub there : (w : ℕ) → g w ≡ true → present e.tables w ≡ true
  pub same : {v w : ℕ} → Paired d e v w → f v ≡ g w

agree_sym : {d e : Document} {f g : ℕ → Bool} → Agree d e f g → Agree e d g f
agree_sym agree = record { here = agree.there; there = agree.here; same = λ p. sym (agree.same (paired_sym p)) }

-- the identities that a list of nodes has rise
ids_rise : {d : Document} → SoundDocument d → (f : ℕ → Bool) → Rises (λ c. identity d (get_or (rising f d.tables.used) c 0)) (count f d.tables.used)
ids_rise {d} sound f = record {
  rises = λ i j h l. sound.identities.rising _ _ (rising_rises f d.tables.used i j h l) (rising-of f d.tables.used j l).below;
}

-- and each has its like in the other list
module _ {d e : Document} {f g : ℕ → Bool} where
  ids_among : Alike d e → Agree d e f g → (c : ℕ) → c < count f d.tables.used →
      Among (λ k. identity e (get_or (rising g e.tables.used) k 0)) (count g e.tables.used) (identity d (get_or (rising f d.tables.used) c 0))
  ids_among alike agree c h =
      let v : ℕ = get_or (rising f d.tables.used) c 0 in
      let holds : f v ≡ true = (rising-of f d.tables.used c h).holds in
      let like : Partner d e v = alike.there v (agree.here v holds) in
      let w : ℕ = like.node in
      let used : w < e.tables.used = present_used e.tables w like.paired.there in
      let also : g w ≡ true = sym (agree.same like.paired) ∙ holds in
      record {
        at = count g w;
        within = count_holds g w e.tables.used used also;
        same = rw (rising_at g e.tables.used w used also) (sym like.paired.same);
      }

module _ {d e : Document} (alike : Alike d e) (sound : SoundDocument d) (sound' : SoundDocument e) {f g : ℕ → Bool} (agree : Agree d e f g) where
  -- as many nodes of either meet the test
  pub same_count : count f d.tables.used ≡ count g e.tables.used
  same_count =
      same_number _ _ (count f d.tables.used) (count g e.tables.used) (ids_rise sound f) (ids_rise sound' g) (ids_among alike agree) (ids_among (alike_sym alike) (agree_sym agree))

  -- and they are likes, place for place
  pub same-listed : (c : ℕ) → c < count f d.tables.used → Paired d e (get_or (rising f d.tables.used) c 0) (get_or (rising g e.tables.used) c 0)
  same-listed c h = record {
    here = agree.here _ (rising-of f d.tables.used c h).holds;
    there = agree.there _ (rising-of g e.tables.used c (rw same_count at h)).holds;
    same = same_elements _ _ (count f d.tables.used) (count g e.tables.used) (ids_rise sound f) (ids_rise sound' g) (ids_among alike agree) (ids_among (alike_sym alike) (agree_sym agree)) c h;
  }
