-- Inside: the model by which demand 3 is proved. Reads and updates over any kind of document, the slot of a read, the orders that keep to slots, and what is
-- the same in each of them.
use Rattle.std.specs.Prelude.{ℕ, zero, suc, ◌<◌, ◌≡◌, Bool, cond, List, [], ◌∷◌, eqb, length}
use Rattle.order.specs.Frames.{Frame, read, update, At, earlier, number}
use Rattle.order.specs.Order.{Stands, Before, own}

-- each frame of the batch is fit
pub record Fits {Read Update : Type 0} (Fit : Frame Read Update → Type 0) (b : List (Frame Read Update)) : Type 0 where
  pub fit : {k : ℕ} {f : Frame Read Update} → At b k f → Fit f

-- the number of the first of these that is meant, where the nearest stands first; 0 where none is
unfoldable pub nearest : {Update : Type 0} → (Update → Bool) → List Update → ℕ
nearest meant [] = 0
nearest meant (u ∷ us) = cond (meant u) (suc (length us)) (nearest meant us)

-- a read's slot: the number of the nearest earlier update that conflicts with it, or 0 if none does
unfoldable pub slot : {Read Update : Type 0} → (Read → Update → Bool) → List (Frame Read Update) → ℕ → Read → ℕ
slot conflicts b k r = nearest (conflicts r) (earlier b k)

-- an order that keeps the updates in sequence and runs each read after the update of its slot and before every update that follows it
pub record Order {Read Update : Type 0} (conflicts : Read → Update → Bool) (b : List (Frame Read Update)) (o : List ℕ) : Type 0 where
  -- every frame stands in it, once, and nothing else does
  pub every : (k : ℕ) → k < length b → Stands o k
  pub once : {p q k : ℕ} → At o p k → At o q k → p ≡ q
  pub only : {p k : ℕ} → At o p k → k < length b
  -- the updates are kept in sequence
  pub in_sequence : {i j : ℕ} {u w : Update} → At b i (update u) → At b j (update w) → i < j → Before o i j
  -- each read runs after the update of its slot
  pub after_slot : {i j : ℕ} {r : Read} {u : Update} → At b i (read r) → At b j (update u) → number b j ≡ slot conflicts b i r → Before o j i
  -- and before every update that follows it in the batch
  pub before_later : {i j : ℕ} {r : Read} {u : Update} → At b i (read r) → At b j (update u) → i < j → Before o i j

-- apply: the document after an update; where the update is refused, the document as it was
module _ {Doc Read Update : Type 0} (apply : Update → Doc → Doc) where
  -- the document after a frame: a read leaves it as it was
  abbrev pub act : Frame Read Update → Doc → Doc
  act (read r) d = d
  act (update u) d = apply u d

  -- the document after frame k
  unfoldable pub ran : List (Frame Read Update) → ℕ → Doc → Doc
  ran [] k d = d
  ran (f ∷ b) zero d = act f d
  ran (f ∷ b) (suc k) d = ran b k d

  -- the last document, where the frames are run in the order o
  unfoldable pub last_doc : List (Frame Read Update) → List ℕ → Doc → Doc
  last_doc b [] d = d
  last_doc b (i ∷ o) d = last_doc b o (ran b i d)

  -- the document that frame k meets, where the frames are run in the order o; the last one, where k does not stand in o
  unfoldable pub met : List (Frame Read Update) → List ℕ → Doc → ℕ → Doc
  met b [] d k = d
  met b (i ∷ o) d k = cond (eqb i k) d (met b o (ran b i d) k)

  -- the order o gives what the batch's own order gives; alike: two documents show the same to a read
  pub record Same (alike : Read → Doc → Doc → Type 0) (b : List (Frame Read Update)) (o : List ℕ) (d : Doc) : Type 0 where
    -- each read is shown the same
    pub reads : {k : ℕ} {r : Read} → At b k (read r) → alike r (met b o d k) (met b (own b) d k)
    -- each update meets the same document, so it answers the same: the same inserts are refused for room
    pub updates : {k : ℕ} {u : Update} → At b k (update u) → met b o d k ≡ met b (own b) d k
    -- the last document is the same
    pub document : last_doc b o d ≡ last_doc b (own b) d
