-- Following a way back: which move leads to it, what is left of it, and what is written.
use Prim.Native.Nat.{ℕ, zero, suc, pred, ◌+◌, ◌*◌, ◌-◌, ◌<◌, ◌≤◌}
use mathlib.Core.Path.{◌≡◌, refl, sym, ◌∙◌, ap, ap₂}
use mathlib.Core.Bool.{Bool, true, false, cond}
use mathlib.Core.List.{List, [], ◌∷◌, ◌++◌, append_assoc}
use native.Mathlib.Numerals.{add-one, sub-one}
use native.Mathlib.Nat.{le_refl}
use native.Mathlib.Omega.{arith}
use lib.Dec.{eqb}
use borrow.Author.Tests.{ne_eqb}
use lib.ListN.{length, drop, get_or, set, length-set}
use lib.Seq.{drop-cons, drop-set-lt, get_or-set_same, get_or-set_other}
use Rattle.tables.specs.Limits.{step_limit, word_limit}
use Rattle.tables.specs.Words.{steps, label}
use Rattle.selection.specs.Ways.{stays}
use Rattle.conflict.specs.Meeting.{agree, landing, shared, sooner, least, shorter, longer, meeting, meeting_of, fewest, fewest_of}
use Rattle.conflict.specs.Crossing.{chain}
use Rattle.conflict.proofs.Steps.{length-shorter, length-longer}
use Rattle.conflict.proofs.Shortest.{length-meeting_of, fewest_of_most}
use Rattle.verdict_landing.specs.Landing.{pick, label_of}
use Rattle.verdict_meeting.specs.Cells.{together, alone, both_land, read_lands, update_lands, choose, move_of, cell_at}
use Rattle.verdict_meeting.specs.Tracing.{read_after, update_after, left, Traceable}
use Rattle.verdict_meeting.proofs.Places.{cell_before}

-- a way of one label more, and what is left of it behind the first
longer-left : (may : Bool) (l : ℕ) (w : List ℕ) (k : ℕ) → length (longer may l w) ≡ suc k → longer may l w ≡ l ∷ left k w
unfolding longer left
longer-left may l [] k e = absurd (omega arith)
longer-left true l (m ∷ w) zero e = absurd (omega arith)
longer-left true l (m ∷ w) (suc k) e = refl
longer-left false l (m ∷ w) k e = absurd (omega arith)

-- the shortest of three, by the move that is chosen
shorter-pick : (a b c : List ℕ) → shorter a (shorter b c) ≡ pick (choose (length a) (length b) (length c)) a b c
unfolding shorter pick choose
shorter-pick a b c = rw (length-shorter b c) (go (sooner (length a) (least (length b) (length c))) (sooner (length b) (length c)))
  where
    go : (t s : Bool) → cond t a (cond s b c) ≡ cond (eqb (cond t 0 (cond s 1 2)) 0) a (cond (eqb (cond t 0 (cond s 1 2)) 1) b c)
    go true s = refl
    go false true = refl
    go false false = refl

-- a way of one label more by each of the moves
pick-left : (m : ℕ) (ta tb tc : Bool) (la lb lc : ℕ) (wa wb wc : List ℕ) (k : ℕ)
    → length (pick m (longer ta la wa) (longer tb lb wb) (longer tc lc wc)) ≡ suc k
    → pick m (longer ta la wa) (longer tb lb wb) (longer tc lc wc) ≡ pick m la lb lc ∷ left k (pick m wa wb wc)
unfolding pick
pick-left m ta tb tc la lb lc wa wb wc k = go (eqb m 0) (eqb m 1)
  where
    go : (t s : Bool) → length (cond t (longer ta la wa) (cond s (longer tb lb wb) (longer tc lc wc))) ≡ suc k
        → cond t (longer ta la wa) (cond s (longer tb lb wb) (longer tc lc wc)) ≡ cond t la (cond s lb lc) ∷ left k (cond t wa (cond s wb wc))
    go true s e = longer-left ta la wa k e
    go false true e = longer-left tb lb wb k e
    go false false e = longer-left tc lc wc k e

-- the states above a move, one by one
pick-after : (f : ℕ → ℕ → List ℕ) (i j m : ℕ) → f (read_after i m) (update_after j m) ≡ pick m (f (pred i) (pred j)) (f (pred i) j) (f i (pred j))
unfolding read_after update_after pick
pick-after f i j m = go (eqb m 0) (eqb m 1)
  where
    go : (t s : Bool) → f (cond t (pred i) (cond s (pred i) i)) (cond t (pred j) (cond s j (pred j))) ≡ cond t (f (pred i) (pred j)) (cond s (f (pred i) j) (f i (pred j)))
    go true s = refl
    go false true = refl
    go false false = refl

module _ (r : List ℕ) (below : Bool) (p : List ℕ) (under : Bool) where
  -- what a move leaves, and its label
  abbrev Followed : ℕ → ℕ → ℕ → ℕ → Type 0
  Followed i j k m = meeting_of r below p under i j ≡ label_of r p i j m ∷ left k (meeting_of r below p under (read_after i m) (update_after j m))

  first_followed : (k : ℕ) → length (meeting_of r below p under 0 0) ≡ suc k → Followed 0 0 k 0
  unfolding meeting_of meeting label_of read_after update_after pick left
  first_followed k = go (agree (label r 0) (label p 0)) k
    where
      go : (t : Bool) (k : ℕ) → length (cond t (shared (label r 0) (label p 0) ∷ []) []) ≡ suc k
          → cond t (shared (label r 0) (label p 0) ∷ []) [] ≡ shared (label r 0) (label p 0) ∷ left k (meeting_of r below p under 0 0)
      go true zero e = refl
      go true (suc k) e = absurd (omega arith)
      go false k e = absurd (omega arith)

  update_followed : (j k : ℕ) → length (meeting_of r below p under 0 (suc j)) ≡ suc k → Followed 0 (suc j) k 2
  unfolding meeting_of meeting label_of read_after update_after pick
  update_followed j k e = longer-left (stays r below 0) (landing (label p (suc j))) (meeting (label r) (label p) (stays r below) (stays p under) 0 j) k e

  read_followed : (i k : ℕ) → length (meeting_of r below p under (suc i) 0) ≡ suc k → Followed (suc i) 0 k 1
  unfolding meeting_of meeting label_of read_after update_after pick
  read_followed i k e = longer-left (stays p under 0) (landing (label r (suc i))) (meeting (label r) (label p) (stays r below) (stays p under) i 0) k e

  -- the three ways to take one label more
  abbrev both_way : ℕ → ℕ → List ℕ
  both_way i j = longer (agree (label r (suc i)) (label p (suc j))) (shared (label r (suc i)) (label p (suc j))) (meeting_of r below p under i j)

  abbrev read_way : ℕ → ℕ → List ℕ
  read_way i j = longer (stays p under (suc j)) (landing (label r (suc i))) (meeting_of r below p under i (suc j))

  abbrev update_way : ℕ → ℕ → List ℕ
  update_way i j = longer (stays r below (suc i)) (landing (label p (suc j))) (meeting_of r below p under (suc i) j)

  inner_both : (i j : ℕ) → both_land r below p under (suc i) (suc j) ≡ length (both_way i j)
  unfolding both_land together
  inner_both i j = rw (length-longer, length-meeting_of r below p under i j)

  inner_read : (i j : ℕ) → read_lands r below p under (suc i) (suc j) ≡ length (read_way i j)
  unfolding read_lands alone
  inner_read i j = rw (length-longer, length-meeting_of r below p under i (suc j))

  inner_update : (i j : ℕ) → update_lands r below p under (suc i) (suc j) ≡ length (update_way i j)
  unfolding update_lands alone
  inner_update i j = rw (length-longer, length-meeting_of r below p under (suc i) j)

  inner_move : (i j : ℕ) → move_of r below p under (suc i) (suc j) ≡ choose (length (both_way i j)) (length (read_way i j)) (length (update_way i j))
  unfolding move_of
  inner_move i j = rw (inner_both i j, inner_read i j, inner_update i j)

  inner_pick : (i j : ℕ) → meeting_of r below p under (suc i) (suc j) ≡ pick (move_of r below p under (suc i) (suc j)) (both_way i j) (read_way i j) (update_way i j)
  unfolding meeting_of meeting
  inner_pick i j = rw (inner_move i j) (shorter-pick (both_way i j) (read_way i j) (update_way i j))

  inner_followed : (i j k : ℕ) → length (meeting_of r below p under (suc i) (suc j)) ≡ suc k → Followed (suc i) (suc j) k (move_of r below p under (suc i) (suc j))
  unfolding label_of
  inner_followed i j k e =
      let m = move_of r below p under (suc i) (suc j) in
      rw (pick-after (λ a b. meeting_of r below p under a b) (suc i) (suc j) m)
      (inner_pick i j
      ∙ pick-left m
      (agree (label r (suc i)) (label p (suc j))) (stays p under (suc j)) (stays r below (suc i))
      (shared (label r (suc i)) (label p (suc j))) (landing (label r (suc i))) (landing (label p (suc j)))
      (meeting_of r below p under i j) (meeting_of r below p under i (suc j)) (meeting_of r below p under (suc i) j)
      k (rw (inner_pick i j) at e))

  -- the moves of the first row and of the first column
  first_move : (k : ℕ) → length (meeting_of r below p under 0 0) ≡ suc k → 0 ≡ move_of r below p under 0 0
  unfolding meeting_of meeting move_of both_land read_lands update_lands together alone choose least sooner
  first_move k = go (agree (label r 0) (label p 0))
    where
      go : (t : Bool) → length (cond t (shared (label r 0) (label p 0) ∷ []) []) ≡ suc k → 0 ≡ choose (cond t 1 0) 0 0
      go true e = refl
      go false e = absurd (omega arith)

  update_move : (j : ℕ) → 2 ≡ move_of r below p under 0 (suc j)
  unfolding move_of both_land read_lands together alone choose least sooner
  update_move j = refl

  read_number : (i : ℕ) → read_lands r below p under (suc i) 0 ≡ fewest_of r below p under (suc i) 0
  unfolding read_lands alone fewest_of fewest
  read_number i = refl

  read_choice : (n k : ℕ) → n ≡ suc k → 1 ≡ choose 0 n 0
  unfolding choose least sooner
  read_choice n k e = rw (e, ne_eqb (suc k) 0 (λ z. omega arith))

  read_move : (i k : ℕ) → length (meeting_of r below p under (suc i) 0) ≡ suc k → 1 ≡ move_of r below p under (suc i) 0
  unfolding move_of both_land update_lands together alone
  read_move i k e = read_choice (read_lands r below p under (suc i) 0) k (read_number i ∙ sym (length-meeting_of r below p under (suc i) 0) ∙ e)

  -- the way of i and j: the label of its move, and what is left above it
  pub followed : (i j k : ℕ) → length (meeting_of r below p under i j) ≡ suc k → Followed i j k (move_of r below p under i j)
  followed zero zero k e = rw (← first_move k e) (first_followed k e)
  followed zero (suc j) k e = rw (← update_move j) (update_followed j k e)
  followed (suc i) zero k e = rw (← read_move i k e) (read_followed i k e)
  followed (suc i) (suc j) k e = inner_followed i j k e

-- a node of a chain, written
module _ (out : List ℕ) (k : ℕ) (room : 2 * k + 2 ≤ length out) where
  pub put_inside : (x : ℕ) → 2 * k + 1 < length (set out (2 * k) x)
  put_inside x = simp length-set (omega arith)

  pub put_node : {x : ℕ} (l : ℕ) → x ≡ k - 1 → drop (2 * k) (set (set out (2 * k) x) (2 * k + 1) l) ≡ pred k ∷ l ∷ drop (2 * (k + 1)) out
  put_node {x} l e =
      let big = set (set out (2 * k) x) (2 * k + 1) l in
      let long : length big ≡ length out = length-set (set out (2 * k) x) (2 * k + 1) l ∙ length-set out (2 * k) x in
      let parent : get_or big (2 * k) 0 ≡ x =
      get_or-set_other (set out (2 * k) x) (2 * k + 1) (2 * k) l 0 (λ q. omega arith) ∙ get_or-set_same out (2 * k) x 0 (omega arith) in
      let own : get_or big (suc (2 * k)) 0 ≡ l = rw (← add-one (2 * k)) (get_or-set_same (set out (2 * k) x) (2 * k + 1) l 0 (put_inside x)) in
      let next : 2 * (k + 1) ≡ suc (suc (2 * k)) = omega arith in
      let rest : drop (suc (suc (2 * k))) big ≡ drop (suc (suc (2 * k))) out =
      drop-set-lt (suc (suc (2 * k))) (set out (2 * k) x) (2 * k + 1) l (omega arith) ∙ drop-set-lt (suc (suc (2 * k))) out (2 * k) x (omega arith) in
      rw (next, ← (e ∙ sub-one k))
      (drop-cons big (2 * k) 0 (omega arith)
      ∙ ap₂ (λ (a : ℕ) (w : List ℕ). a ∷ w) parent (drop-cons big (suc (2 * k)) 0 (omega arith) ∙ ap₂ (λ (a : ℕ) (w : List ℕ). a ∷ w) own rest))

-- no state is passed upwards
pred_le : (n : ℕ) → pred n ≤ n
pred_le n = omega arith

read_less : (i m : ℕ) → read_after i m ≤ i
unfolding read_after pick
read_less i m = go (eqb m 0) (eqb m 1)
  where
    go : (t s : Bool) → cond t (pred i) (cond s (pred i) i) ≤ i
    go true s = pred_le i
    go false true = pred_le i
    go false false = le_refl i

update_less : (j m : ℕ) → update_after j m ≤ j
unfolding update_after pick
update_less j m = go (eqb m 0) (eqb m 1)
  where
    go : (t s : Bool) → cond t (pred j) (cond s j (pred j)) ≤ j
    go true s = pred_le j
    go false true = le_refl j
    go false false = pred_le j

-- the rest of a way is to be written, and with what stands behind it makes the whole
pub record Rest (r : List ℕ) (below : Bool) (p : List ℕ) (under : Bool) (rest a b : ℕ) (moves out whole : List ℕ) (long : ℕ) : Type 0 where
  pub to_write : Traceable r below p under rest a b moves out
  pub makes : chain (left rest (meeting_of r below p under a b)) ++ drop (2 * rest) out ≡ whole
  pub size : length out ≡ long

module _ (r : List ℕ) (below : Bool) (p : List ℕ) (under : Bool) (a b : ℕ) (moves : List ℕ) where
  pub rest_inside : (rest : ℕ) (out : List ℕ) → Traceable r below p under rest a b moves out → (steps p ≤ step_limit) × (a < step_limit) × (b < step_limit)
  rest_inside rest out t =
      (t.moved.bounded.updates, omega (arith, t.reads, t.moved.bounded.reads), omega (arith, t.updates, t.moved.bounded.updates))

  -- the move that is read is that of the cell
  pub rest_move : (rest : ℕ) (out : List ℕ) {m : ℕ} → Traceable r below p under rest a b moves out → m ≡ get_or moves (cell_at (steps p) a b) 0
      → m ≡ move_of r below p under a b
  rest_move rest out t e =
      let before : cell_at (steps p) a b < cell_at (steps p) (steps r) 0 = cell_before (steps p) a b (steps r) t.updates t.reads in
      e ∙ t.moved.held.stored a b t.updates before (omega (arith, before, t.moved.all))

  rest_most : (rest : ℕ) (out : List ℕ) → Traceable r below p under rest a b moves out → rest ≤ a + b + 1
  unfolding left
  rest_most zero out t = omega arith
  rest_most (suc k) out t = omega (arith, t.long, length-meeting_of r below p under a b, fewest_of_most r below p under a b)

  pub rest_word : (rest : ℕ) (out : List ℕ) → Traceable r below p under rest a b moves out → rest - 1 < word_limit
  rest_word rest out t =
      omega (arith, rest_most rest out t, t.reads, t.updates, t.moved.bounded.reads, t.moved.bounded.updates)

  module _ (k : ℕ) {m l : ℕ} (out written whole : List ℕ) (long : ℕ) (step : m ≡ move_of r below p under a b) (named : l ≡ label_of r p a b m)
      (put : drop (2 * k) written ≡ pred k ∷ l ∷ drop (2 * (k + 1)) out) (size : length written ≡ length out) where
    rest_on-suc : Rest r below p under (suc k) a b moves out whole long
        → Rest r below p under k (read_after a m) (update_after b m) moves written whole long
    unfolding left chain
    rest_on-suc rest =
        let t = rest.to_write in
        let above = left k (meeting_of r below p under (read_after a m) (update_after b m)) in
        let split : meeting_of r below p under a b ≡ l ∷ above = rw (named, step) (followed r below p under a b k t.long) in
        let few : length above ≡ k = omega (arith, ap length split, t.long) in
        let same : chain (meeting_of r below p under a b) ++ drop (2 * suc k) out ≡ chain above ++ (pred k ∷ l ∷ drop (2 * (k + 1)) out) =
        rw (split, few, add-one k) (append_assoc (chain above) (pred k ∷ l ∷ []) (drop (2 * suc k) out)) in
        record {
          to_write = record {
            moved = t.moved;
            reads = omega (arith, read_less a m, t.reads);
            updates = omega (arith, update_less b m, t.updates);
            long = few;
            room = omega (arith, t.room);
          };
          makes = rw put (sym same ∙ rest.makes);
          size = size ∙ rest.size;
        }

    pub rest_on : (rest : ℕ) {i j : ℕ} → rest ≡ suc k → i ≡ read_after a m → j ≡ update_after b m
        → Rest r below p under rest a b moves out whole long → Rest r below p under k i j moves written whole long
    rest_on rest e d f h = rw (d, f) (rest_on-suc (rw e at h))

  -- at first the whole is to be written, at last nothing
  pub rest_all : (n : ℕ) (out : List ℕ) → Traceable r below p under n a b moves out
      → Rest r below p under n a b moves out (chain (left n (meeting_of r below p under a b)) ++ drop (2 * n) out) (length out)
  rest_all n out t = record { to_write = t; makes = refl; size = refl }

  pub rest_none : (rest : ℕ) (out whole : List ℕ) (long : ℕ) → rest ≤ 0 → Rest r below p under rest a b moves out whole long → out ≡ whole
  unfolding left chain
  rest_none zero out whole long h t = t.makes
  rest_none (suc k) out whole long h t = absurd (omega arith)
