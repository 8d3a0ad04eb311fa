-- The identities after a delete and an insert: old nodes keep theirs, new ones get the next in the order written, and right identities stay right.
use Prim.Native.Nat.{ℕ, suc, ◌+◌, ◌*◌, ◌-◌, ◌<◌, ◌≤◌}
use mathlib.Core.Path.{◌≡◌, refl, ◌∙◌}
use mathlib.Core.Bool.{Bool, true, false, ◌&&◌, cond}
use mathlib.Core.List.{List}
use native.Mathlib.Decide.{dec_lt}
use native.Mathlib.Nat.{mul-le-mul_right}
use native.Mathlib.Omega.{arith}
use borrow.Author.Tests.{leb-true}
use lib.ListN.{length, get_or}
use Rattle.tables.specs.Limits.{identity_limit}
use Rattle.tables.specs.Words.{steps, nodes}
use Rattle.tables.specs.Documents.{bare, Sound}
use Rattle.selection.specs.Lists.{tab}
use Rattle.selection.specs.Operations.{inserted, deleted, copies, stored}
use Rattle.selection.proofs.Lists.{length-tab, get_or-tab, get_or_placed_before, get_or_placed, get_or_placed_behind, length_placed_all}
use Rattle.selection.proofs.Deleting.{deleted_sound}
use Rattle.selection.proofs.Inserting.{Room, room_fits, inserted_used, inserted_sound}
use Rattle.conflict.specs.Conflict.{Update, delete, insert}
use Rattle.identities.specs.Documents.{Document, identity, Identified, SoundDocument}
use Rattle.identities.specs.Updates.{deleted_in, written, given, inserted_in, after_in, nameable, room_of, fits_in, stored_in}

-- n identities given from the next one on: what stands where, and how long the row is
module _ (ids : List ℕ) (used n next : ℕ) where
  fills : used + n ≡ used + length (tab (λ k. next + k) n)
  fills = rw (length-tab (λ k. next + k) n)

  pub given_new : (k : ℕ) → k < n → get_or (given ids used n next) (used + k) 0 ≡ next + k
  unfolding given
  given_new k h =
      get_or_placed ids (tab (λ i. next + i) n) used (used + n) fills k (rw (length-tab (λ i. next + i) n) h) ∙ get_or-tab (λ i. next + i) n k h

  pub given_old : (v : ℕ) → v < used → get_or (given ids used n next) v 0 ≡ get_or ids v 0
  unfolding given
  given_old = get_or_placed_before ids (tab (λ k. next + k) n) used (used + n) fills

  pub given-behind : (v : ℕ) → used + n ≤ v → get_or (given ids used n next) v 0 ≡ get_or ids v 0
  unfolding given
  given-behind = get_or_placed_behind ids (tab (λ k. next + k) n) used (used + n) fills

  given_all : length (given ids used n next) ≡ used + n + (length ids - (used + n))
  unfolding given
  given_all = length_placed_all ids (tab (λ k. next + k) n) used (used + n) fills

  pub given_enough : used + n ≤ length (given ids used n next)
  given_enough = rw given_all (omega arith)

  pub given-length : used + n ≤ length ids → length (given ids used n next) ≡ length ids
  given-length h = given_all ∙ omega (arith, h)

-- a delete leaves the identities and the next one
module _ (p : List ℕ) (d : Document) where
  pub deleted_tables : (deleted_in p d).tables ≡ deleted p d.tables
  unfolding deleted_in
  deleted_tables = refl

  pub deleted_ids : (deleted_in p d).ids ≡ d.ids
  unfolding deleted_in
  deleted_ids = refl

  pub deleted-next : (deleted_in p d).next ≡ d.next
  unfolding deleted_in
  deleted-next = refl

  pub deleted_identified : Identified d → Identified (deleted_in p d)
  unfolding deleted_in deleted
  deleted_identified right = record { row = right.row; rising = right.rising; below = right.below }

-- an insert: old nodes keep their identities, new ones get the next, and words behind them stay
module _ (p x : List ℕ) (d : Document) where
  pub inserted_tables : (inserted_in p x d).tables ≡ inserted p x d.tables
  unfolding inserted_in
  inserted_tables = refl

  pub inserted-next : (inserted_in p x d).next ≡ d.next + copies p d.tables * nodes x
  unfolding inserted_in written
  inserted-next = refl

  pub used_written : (inserted p x d.tables).used ≡ d.tables.used + written p x d.tables
  unfolding written
  used_written = inserted_used p x d.tables

  pub old_identity : (v : ℕ) → v < d.tables.used → identity (inserted_in p x d) v ≡ identity d v
  unfolding inserted_in
  old_identity = given_old d.ids d.tables.used (written p x d.tables) d.next

  pub new_identity : (k : ℕ) → k < written p x d.tables → identity (inserted_in p x d) (d.tables.used + k) ≡ d.next + k
  unfolding inserted_in
  new_identity = given_new d.ids d.tables.used (written p x d.tables) d.next

  -- node k of copy c
  pub copy_identity : (c k : ℕ) → c < copies p d.tables → k < nodes x → identity (inserted_in p x d) (d.tables.used + c * nodes x + k) ≡ d.next + c * nodes x + k
  unfolding written
  copy_identity c k h l =
      let most : suc c * nodes x ≤ copies p d.tables * nodes x = mul-le-mul_right (nodes x) h in
      let here : d.tables.used + c * nodes x + k ≡ d.tables.used + (c * nodes x + k) = omega arith in
      let there : d.next + c * nodes x + k ≡ d.next + (c * nodes x + k) = omega arith in
      rw (here, there) (new_identity (c * nodes x + k) (omega arith))

  pub identity-behind : (v : ℕ) → d.tables.used + copies p d.tables * nodes x ≤ v → identity (inserted_in p x d) v ≡ identity d v
  unfolding inserted_in written
  identity-behind = given-behind d.ids d.tables.used (written p x d.tables) d.next

  pub inserted_ids_length : d.tables.used + copies p d.tables * nodes x ≤ length d.ids → length (inserted_in p x d).ids ≡ length d.ids
  unfolding inserted_in written
  inserted_ids_length = given-length d.ids d.tables.used (written p x d.tables) d.next

  -- a used node after it: an old one, or a new one
  pub by_age : {P : Type 0} (v : ℕ) → v < (inserted_in p x d).tables.used → (v < d.tables.used → P) →
      ((k : ℕ) → k < written p x d.tables → v ≡ d.tables.used + k → P) → P
  unfolding inserted_in
  by_age {P} v h old new = go (dec_lt v d.tables.used)
    where
      go : Dec (v < d.tables.used) → P
      go (yes l) = old l
      go (no l) = new (v - d.tables.used) (omega (arith, h, used_written)) (omega arith)

  new_row : (inserted_in p x d).tables.used ≤ length (inserted_in p x d).ids
  unfolding inserted_in
  new_row = rw used_written (given_enough d.ids d.tables.used (written p x d.tables) d.next)

  new_below : Identified d → (v : ℕ) → v < (inserted_in p x d).tables.used → identity (inserted_in p x d) v < d.next + written p x d.tables
  new_below right v h =
      by_age v h
      (λ l. rw (old_identity v l) (omega (arith, right.below v l)))
      (λ k l e. rw (e, new_identity k l) (omega arith))

  new_rising : Identified d → (v w : ℕ) → v < w → w < (inserted_in p x d).tables.used → identity (inserted_in p x d) v < identity (inserted_in p x d) w
  new_rising right v w h l =
      by_age w l
      (λ old. rw (old_identity v (omega arith), old_identity w old) (right.rising v w h old))
      (λ k new e.
      by_age v (omega arith)
      (λ old. rw (e, new_identity k new, old_identity v old) (omega (arith, right.below v old)))
      (λ j also q. rw (e, q, new_identity k new, new_identity j also) (omega (arith, h, e, q))))

  pub inserted_identified : Identified d → Identified (inserted_in p x d)
  unfolding inserted_in
  inserted_identified right = record { row = new_row; rising = new_rising right; below = new_below right }

-- what a document has room for
pub record RoomIn (p x : List ℕ) (d : Document) : Type 0 where
  pub nameable : d.next + copies p d.tables * nodes x ≤ identity_limit
  pub tables : Room p x d.tables
  pub ids : d.tables.used + copies p d.tables * nodes x ≤ length d.ids

-- which is what the tests say: of the nodes in the tables and of their identities in the row
module _ (p x : List ℕ) (d : Document) (e : fits_in p x d ≡ true) where
  most : d.tables.used + written p x d.tables ≤ room_of d
  unfolding fits_in
  most = leb-true (d.tables.used + written p x d.tables) (room_of d) e

  pub fits_tables : Room p x d.tables
  unfolding written
  fits_tables = record { limit = omega (arith, most); rows = omega (arith, most); marks = omega (arith, most) }

  pub fits_ids : d.tables.used + written p x d.tables ≤ length d.ids
  fits_ids = omega (arith, most)

-- and of the identities that there are
pub named_most : (p x : List ℕ) (d : Document) → nameable p x d ≡ true → d.next + written p x d.tables ≤ identity_limit
unfolding nameable
named_most p x d e = leb-true (d.next + written p x d.tables) identity_limit e

pub fits_room_in : (p x : List ℕ) (d : Document) → nameable p x d ≡ true → fits_in p x d ≡ true → RoomIn p x d
unfolding written
fits_room_in p x d e q = record { nameable = named_most p x d e; tables = fits_tables p x d q; ids = fits_ids p x d q }

-- what holds of the insert that has room, and of the document as it was, holds after it
pub stored_in_cases : (P : Document → Type 0) (p x : List ℕ) (d : Document) → (RoomIn p x d → P (inserted_in p x d)) → P d → P (stored_in p x d)
unfolding stored_in
stored_in_cases P p x d made same =
    go (nameable p x d) (fits_in p x d) (λ e q. made (fits_room_in p x d e q))
  where
    go : (a b : Bool) → (a ≡ true → b ≡ true → P (inserted_in p x d)) → P (cond (a && b) (inserted_in p x d) d)
    go true true f = f refl refl
    go true false f = same
    go false b f = same

-- where there is room, the tables are those that the tables alone have room for
pub room_stored : (p x : List ℕ) (d : Document) → RoomIn p x d → stored p x d.tables ≡ inserted p x d.tables
unfolding stored
room_stored p x d room = rw (room_fits p x d.tables room.tables)

-- what an update must be to leave a sound document sound: a delete has two steps or more, an inserted tree is sound
abbrev pub Keeping : Update → Type 0
Keeping (delete p) = 1 < steps p
Keeping (insert p x) = Sound (bare x)

-- every update leaves right identities right
pub after_identified : (u : Update) (d : Document) → Identified d → Identified (after_in u d)
after_identified (delete p) d = deleted_identified p d
after_identified (insert p x) d = inserted_identified p x d

pub after_sound : (u : Update) → Keeping u → (d : Document) → SoundDocument d → SoundDocument (after_in u d)
unfolding deleted_in inserted_in
after_sound (delete p) two d sound = record { tables = deleted_sound p d.tables two sound.tables; identities = after_identified (delete p) d sound.identities }
after_sound (insert p x) tree d sound = record { tables = inserted_sound p x d.tables tree sound.tables; identities = after_identified (insert p x) d sound.identities }

pub stored_in_sound : (p x : List ℕ) (d : Document) → Sound (bare x) → SoundDocument d → SoundDocument (stored_in p x d)
stored_in_sound p x d tree sound = stored_in_cases SoundDocument p x d (λ room. after_sound (insert p x) tree d sound) sound
