-- An insert keeps every node as it was, puts one copy of the tree under each update point, in rising number, and leaves a sound document sound.
use Prim.Native.Nat.{ℕ, zero, suc, ◌+◌, ◌*◌, ◌-◌, ◌<◌, ◌≤◌}
use mathlib.Core.Path.{◌≡◌, refl, ◌∙◌}
use mathlib.Core.Bool.{Bool, true, false, cond}
use mathlib.Core.List.{List, [], ◌∷◌}
use native.Mathlib.Decide.{dec_lt}
use native.Mathlib.Nat.{not-suc-le-zero}
use native.Mathlib.Omega.{arith}
use borrow.Author.Tests.{leb-true, le-leb}
use lib.ListN.{length, get_or}
use Rattle.tables.specs.Limits.{used_limit}
use Rattle.tables.specs.Words.{nodes}
use Rattle.tables.specs.Documents.{Doc, bare, mark, present, Sound, capacity}
use Rattle.selection.specs.Lists.{count}
use Rattle.selection.specs.Ways.{up, sel, selected}
use Rattle.selection.specs.Operations.{graft, grafts, points, inserted, copies, fits, stored}
use Rattle.selection.proofs.Runs.{both}
use Rattle.selection.proofs.Lists.{length-rising, rising-of, rising_at, count_holds}
use Rattle.selection.proofs.Presence.{present_used}
use Rattle.selection.proofs.Keeping.{Kept, Copy, kept_all, kept_on, kept_present, copy_kept}
use Rattle.selection.proofs.Grafting.{graft_used, graft_word_behind, graft-mark-behind, graft_rows_length, graft_marks_length, graft_kept, graft_copy, graft_sound, old_way}

-- all of these nodes are present in d
abbrev pub Present : Doc → List ℕ → Type 0
Present d qs = (c : ℕ) → c < length qs → present d (get_or qs c 0) ≡ true

-- each copy takes as many nodes as x has
pub grafts_used : (x qs : List ℕ) (d : Doc) → (grafts x qs d).used ≡ d.used + length qs * nodes x
unfolding grafts
grafts_used x [] d = omega arith
grafts_used x (q ∷ qs) d = rw (grafts_used x qs (graft x q d), graft_used x q d) (omega arith)

-- words and marks behind the last copy stay
pub grafts_word_behind : (x qs : List ℕ) (d : Doc) (i : ℕ) → 2 * (d.used + length qs * nodes x) ≤ i → get_or (grafts x qs d).rows i 0 ≡ get_or d.rows i 0
unfolding grafts
grafts_word_behind x [] d i h = refl
grafts_word_behind x (q ∷ qs) d i h =
    grafts_word_behind x qs (graft x q d) i (rw (graft_used x q d) (omega arith)) ∙ graft_word_behind x q d i (omega arith)

pub grafts-mark-behind : (x qs : List ℕ) (d : Doc) (v : ℕ) → d.used + length qs * nodes x ≤ v → mark (grafts x qs d) v ≡ mark d v
unfolding grafts
grafts-mark-behind x [] d v h = refl
grafts-mark-behind x (q ∷ qs) d v h =
    grafts-mark-behind x qs (graft x q d) v (rw (graft_used x q d) (omega arith)) ∙ graft-mark-behind x q d v (omega arith)

-- where all copies fit, the lengths stay
pub grafts_rows_length : (x qs : List ℕ) (d : Doc) → 2 * (d.used + length qs * nodes x) ≤ length d.rows → length (grafts x qs d).rows ≡ length d.rows
unfolding grafts
grafts_rows_length x [] d h = refl
grafts_rows_length x (q ∷ qs) d h =
    let e : length (graft x q d).rows ≡ length d.rows = graft_rows_length x q d (omega arith) in
    grafts_rows_length x qs (graft x q d) (rw (graft_used x q d, e) (omega arith)) ∙ e

pub grafts_marks_length : (x qs : List ℕ) (d : Doc) → d.used + length qs * nodes x ≤ length d.marks → length (grafts x qs d).marks ≡ length d.marks
unfolding grafts
grafts_marks_length x [] d h = refl
grafts_marks_length x (q ∷ qs) d h =
    let e : length (graft x q d).marks ≡ length d.marks = graft_marks_length x q d (omega arith) in
    grafts_marks_length x qs (graft x q d) (rw (graft_used x q d, e) (omega arith)) ∙ e

-- a node of the result: an old one, or node k of copy c
pub data Placed (x : List ℕ) (base n v : ℕ) : Type 0 where
  old : v < base → Placed x base n v
  copied : (c k : ℕ) → c < n → k < nodes x → v ≡ base + c * nodes x + k → Placed x base n v

-- and there are no others
pub placed : (x : List ℕ) (base n v : ℕ) → v < base + n * nodes x → Placed x base n v
placed x base zero v h = old (omega arith)
placed x base (suc n) v h = go (dec_lt v (base + n * nodes x)) (placed x base n v)
  where
    more : Placed x base n v → Placed x base (suc n) v
    more (old l) = old l
    more (copied c k l m e) = copied c k (omega arith) m e

    go : Dec (v < base + n * nodes x) → (v < base + n * nodes x → Placed x base n v) → Placed x base (suc n) v
    go (yes l) before = more (before l)
    go (no l) before = copied n (v - (base + n * nodes x)) (omega arith) (omega arith) (omega arith)

module _ (x : List ℕ) (tree : Sound (bare x)) where
  -- the points stay present while copies are made
  points_stay : (q : ℕ) (qs : List ℕ) (d : Doc) → Sound d → Present d (q ∷ qs) → Present (graft x q d) qs
  points_stay q qs d sound there c h =
      let here : present d (get_or qs c 0) ≡ true = there (suc c) (omega arith) in
      kept_present (graft_kept x q d tree sound (there 0 (omega arith))) (get_or qs c 0) (present_used d (get_or qs c 0) here) ∙ here

  pub grafts_sound : (qs : List ℕ) (d : Doc) → Sound d → Present d qs → Sound (grafts x qs d)
  unfolding grafts
  grafts_sound [] d sound there = sound
  grafts_sound (q ∷ qs) d sound there =
      grafts_sound qs (graft x q d) (graft_sound x q d tree sound (there 0 (omega arith))) (points_stay q qs d sound there)

  -- old nodes are kept
  pub grafts_kept : (qs : List ℕ) (d : Doc) → Sound d → Present d qs → Kept d (grafts x qs d)
  unfolding grafts
  grafts_kept [] d sound there = kept_all d
  grafts_kept (q ∷ qs) d sound there =
      let first : present d q ≡ true = there 0 (omega arith) in
      kept_on (graft_kept x q d tree sound first) (grafts_kept qs (graft x q d) (graft_sound x q d tree sound first) (points_stay q qs d sound there))

  -- copy c hangs under point c
  pub grafts_copy : (qs : List ℕ) (d : Doc) → Sound d → Present d qs → (c : ℕ) → c < length qs →
      Copy x (up d.rows (get_or qs c 0)) (get_or qs c 0) (d.used + c * nodes x) (grafts x qs d)
  unfolding grafts
  grafts_copy [] d sound there c h = absurd (not-suc-le-zero h)
  grafts_copy (q ∷ qs) d sound there zero h =
      let first : present d q ≡ true = there 0 (omega arith) in
      let e : d.used + 0 * nodes x ≡ d.used = omega arith in
      rw e (copy_kept (graft_copy x q d tree sound first) (grafts_kept qs (graft x q d) (graft_sound x q d tree sound first) (points_stay q qs d sound there)))
  grafts_copy (q ∷ qs) d sound there (suc c) h =
      let first : present d q ≡ true = there 0 (omega arith) in
      let e : d.used + suc c * nodes x ≡ (graft x q d).used + c * nodes x = rw (graft_used x q d) (omega arith) in
      let way : up (graft x q d).rows (get_or qs c 0) ≡ up d.rows (get_or qs c 0) = old_way x q d tree sound first (get_or qs c 0) (present_used d (get_or qs c 0) (there (suc c) h)) in
      rw (e, ← way) (grafts_copy qs (graft x q d) (graft_sound x q d tree sound first) (points_stay q qs d sound there) c (omega arith))

-- the update points are the selected nodes: point c is selected, and a selected node is a point
module _ (p : List ℕ) (d : Doc) where
  pub copies-count : copies p d ≡ count (selected p d) d.used
  unfolding copies points
  copies-count = length-rising (selected p d) d.used

  pub point_selected : (c : ℕ) → c < copies p d → selected p d (get_or (points p d) c 0) ≡ true
  unfolding points
  point_selected c h = (rising-of (selected p d) d.used c (rw copies-count at h)).holds

  pub point_present : Present d (points p d)
  unfolding selected copies
  point_present c h = both (present d (get_or (points p d) c 0)) (sel p (up d.rows (get_or (points p d) c 0))) (point_selected c h) (λ here way. here)

  pub selected_used : (v : ℕ) → selected p d v ≡ true → v < d.used
  unfolding selected
  selected_used v e = both (present d v) (sel p (up d.rows v)) e (λ here way. present_used d v here)

  pub selected-number : (v : ℕ) → selected p d v ≡ true → count (selected p d) v < copies p d
  selected-number v e = rw copies-count (count_holds (selected p d) v d.used (selected_used v e) e)

  pub selected_point : (v : ℕ) → selected p d v ≡ true → get_or (points p d) (count (selected p d) v) 0 ≡ v
  unfolding points
  selected_point v e = rising_at (selected p d) d.used v (selected_used v e) e

-- an insert is a copy under each of these: what it uses, and what it leaves behind that
module _ (p x : List ℕ) (d : Doc) where
  pub inserted_used : (inserted p x d).used ≡ d.used + copies p d * nodes x
  unfolding inserted copies
  inserted_used = grafts_used x (points p d) d

  pub inserted_placed : (v : ℕ) → v < (inserted p x d).used → Placed x d.used (copies p d) v
  inserted_placed v h = placed x d.used (copies p d) v (rw inserted_used at h)

  pub inserted_word_behind : (i : ℕ) → 2 * (d.used + copies p d * nodes x) ≤ i → get_or (inserted p x d).rows i 0 ≡ get_or d.rows i 0
  unfolding inserted copies
  inserted_word_behind = grafts_word_behind x (points p d) d

  pub inserted-mark-behind : (v : ℕ) → d.used + copies p d * nodes x ≤ v → mark (inserted p x d) v ≡ mark d v
  unfolding inserted copies
  inserted-mark-behind = grafts-mark-behind x (points p d) d

  pub inserted_rows_length : 2 * (d.used + copies p d * nodes x) ≤ length d.rows → length (inserted p x d).rows ≡ length d.rows
  unfolding inserted copies
  inserted_rows_length = grafts_rows_length x (points p d) d

  pub inserted_marks_length : d.used + copies p d * nodes x ≤ length d.marks → length (inserted p x d).marks ≡ length d.marks
  unfolding inserted copies
  inserted_marks_length = grafts_marks_length x (points p d) d

-- it is sound, keeps every node, and copy c hangs under point c
module _ (p x : List ℕ) (d : Doc) (tree : Sound (bare x)) (sound : Sound d) where
  pub inserted_sound : Sound (inserted p x d)
  unfolding inserted
  inserted_sound = grafts_sound x tree (points p d) d sound (point_present p d)

  pub inserted_kept : Kept d (inserted p x d)
  unfolding inserted
  inserted_kept = grafts_kept x tree (points p d) d sound (point_present p d)

  pub inserted_copy : (c : ℕ) → c < copies p d →
      Copy x (up d.rows (get_or (points p d) c 0)) (get_or (points p d) c 0) (d.used + c * nodes x) (inserted p x d)
  unfolding inserted copies
  inserted_copy = grafts_copy x tree (points p d) d sound (point_present p d)

-- the whole insert has room
pub record Room (p x : List ℕ) (d : Doc) : Type 0 where
  pub limit : d.used + copies p d * nodes x ≤ used_limit
  pub rows : 2 * (d.used + copies p d * nodes x) ≤ length d.rows
  pub marks : d.used + copies p d * nodes x ≤ length d.marks

-- which is what the test says
pub fits_room : (p x : List ℕ) (d : Doc) → fits p x d ≡ true → Room p x d
unfolding fits
fits_room p x d e =
    omega (arith, leb-true (d.used + copies p d * nodes x) (capacity (length d.rows) (length d.marks)) e)

pub room_fits : (p x : List ℕ) (d : Doc) → Room p x d → fits p x d ≡ true
unfolding fits
room_fits p x d room =
    le-leb (d.used + copies p d * nodes x) (capacity (length d.rows) (length d.marks)) (omega arith)

-- what holds of the insert that has room, and of the document as it was, holds after it
pub stored_cases : (P : Doc → Type 0) (p x : List ℕ) (d : Doc) → (Room p x d → P (inserted p x d)) → P d → P (stored p x d)
unfolding stored
stored_cases P p x d made same = go (fits p x d) (λ e. made (fits_room p x d e))
  where
    go : (b : Bool) → (b ≡ true → P (inserted p x d)) → P (cond b (inserted p x d) d)
    go true f = f refl
    go false f = same

-- so an insert into a document keeps it sound, keeps every node, and keeps the lengths of its tables
pub stored_sound : (p x : List ℕ) (d : Doc) → Sound (bare x) → Sound d → Sound (stored p x d)
stored_sound p x d tree sound = stored_cases Sound p x d (λ room. inserted_sound p x d tree sound) sound

pub stored_kept : (p x : List ℕ) (d : Doc) → Sound (bare x) → Sound d → Kept d (stored p x d)
stored_kept p x d tree sound = stored_cases (Kept d) p x d (λ room. inserted_kept p x d tree sound) (kept_all d)

pub stored_rows_length : (p x : List ℕ) (d : Doc) → length (stored p x d).rows ≡ length d.rows
stored_rows_length p x d = stored_cases (λ e. length e.rows ≡ length d.rows) p x d (λ room. inserted_rows_length p x d room.rows) refl

pub stored_marks_length : (p x : List ℕ) (d : Doc) → length (stored p x d).marks ≡ length d.marks
stored_marks_length p x d = stored_cases (λ e. length e.marks ≡ length d.marks) p x d (λ room. inserted_marks_length p x d room.marks) refl
