-- P1 to P15 hold: one test, computed over the whole list, and one law that turns it into the claim for each example.
use Rattle.std.specs.Prelude.{Ok, Err}
use Prim.Native.Nat.{ℕ, zero, suc, ◌<◌}
use mathlib.Core.Path.{◌≡◌, refl, sym, ◌∙◌}
use mathlib.Core.Bool.{Bool, true, false, ◌&&◌, ◌||◌, not, false≢true}
use mathlib.Core.List.{List, [], ◌∷◌}
use mathlib.Core.Logic.{◌↔◌, inl, inr, ⊎_elim}
use native.Mathlib.Omega.{arith}
use lib.Dec.{eqb, ltb}
use lib.ListN.{length}
use borrow.Author.Tests.{eqb-true, ltb-true, ltb-false, not-true}
use Rattle.tables.specs.Limits.{step_limit, tree_limit, word_limit}
use Rattle.tables.specs.Words.{steps, label, Bits16}
use Rattle.tables.specs.Patterns.{Pattern}
use Rattle.tables.specs.Checks.{pattern_check, tree_check, size_check, each, axis_check, axis_right, node_check, parent_right, Checked, Fine}
use Rattle.tables.proofs.Soundness.{accepted_pattern, accepted_tree}
use Rattle.selection.specs.Ways.{up, ups}
use Rattle.selection.proofs.Runs.{either, both}
use Rattle.conflict.specs.Conflict.{Update, Smallest, Conflict, Touches, Deep, pattern}
use Rattle.conflict.specs.Conflict.Update.{delete, insert}
use Rattle.conflict.specs.Meeting.{agree, landing, shared, sooner, least, onward, shorter, longer, meeting, fewest, meeting_of, fewest_of}
use Rattle.selection.specs.Lists.{somewhere}
use Rattle.conflict.specs.Crossing.{over, goes_further, enters, entering, delete_way, insert_way, touches}
use Rattle.conflict.proofs.Deletes.{smallest_delete}
use Rattle.conflict.proofs.Inserts.{smallest_insert}
use Rattle.conflict.proofs.Deeps.{touching}
use Rattle.marked.specs.Marked.{Said, Said.nothing, Said.says_yes, Said.says_no, Example, examples, point_above, DeepClaim, Claim, Every, Every.none, Every.more, Marked}

fine : Checked → Bool
fine (Ok tt) = true
fine (Err r) = false

is_fine : (c : Checked) → fine c ≡ true → c ≡ Fine
unfolding fine
is_fine (Ok tt) e = refl
is_fine (Err r) e = absurd (false≢true e)

unfoldable pub small : List ℕ → Bool
small [] = true
small (x ∷ xs) = ltb x word_limit && small xs

pub words_of : (xs : List ℕ) → small xs ≡ true → Bits16 xs
unfolding small
words_of [] e i = omega arith
words_of (x ∷ xs) e zero = both (ltb x word_limit) (small xs) e (λ h k. ltb-true x word_limit h)
words_of (x ∷ xs) e (suc i) = words_of xs (both (ltb x word_limit) (small xs) e (λ h k. k)) i

-- the update is accepted
accepted : Update → Bool
accepted (delete p) = fine (pattern_check p step_limit 2) && (small p && ltb 1 (steps p))
accepted (insert p x) = fine (pattern_check p step_limit 2) && (small p && (fine (tree_check x tree_limit 3) && small x))

-- the number of nodes of a smallest witness
nodes_of : List ℕ → Update → ℕ
nodes_of r (delete p) = length (delete_way r p)
nodes_of r (insert p x) = length (insert_way r p x)

said : Said → ℕ → Bool → Bool
said nothing n t = true
said says_yes n t = ltb 0 n || t
said says_no n t = not (ltb 0 n) && not t

right : Example → Bool
right x =
    (fine (pattern_check x.read step_limit 1) && small x.read)
    && (accepted x.update
    && (eqb (nodes_of x.read x.update) x.number && said x.deep x.number (touches x.read (pattern x.update))))

all_right : List Example → Bool
all_right [] = true
all_right (x ∷ xs) = right x && all_right xs

-- a pattern that was accepted, with its words
record Accepted (p : List ℕ) : Type 0 where
  is_pattern : Pattern p
  words : Bits16 p

accepted_read : (p : List ℕ) (table : ℕ) → fine (pattern_check p step_limit table) ≡ true → small p ≡ true → Accepted p
accepted_read p table f w = record { is_pattern = accepted_pattern p step_limit table (is_fine _ f); words = words_of p w }

accepted_update : (u : Update) → accepted u ≡ true → Accepted (pattern u)
unfolding accepted
accepted_update (delete p) e =
    both (fine (pattern_check p step_limit 2)) _ e (λ f k. both (small p) _ k (λ w l. accepted_read p 2 f w))
accepted_update (insert p x) e =
    both (fine (pattern_check p step_limit 2)) _ e (λ f k. both (small p) _ k (λ w l. accepted_read p 2 f w))

labels_of : {p : List ℕ} → Accepted p → (k : ℕ) → label p k < word_limit
labels_of h k = h.words _

smallest_of : (r : List ℕ) (u : Update) → Accepted r → accepted u ≡ true → Smallest r u (nodes_of r u)
unfolding accepted nodes_of
smallest_of r (delete p) h e =
    both (fine (pattern_check p step_limit 2)) _ e (λ f k.
    both (small p) _ k (λ w two.
    smallest_delete r p h.is_pattern (ltb-true 1 (steps p) two) (labels_of h) (labels_of (accepted_read p 2 f w))))
smallest_of r (insert p x) h e =
    both (fine (pattern_check p step_limit 2)) _ e (λ f k.
    both (small p) _ k (λ w l.
    both (fine (tree_check x tree_limit 3)) _ l (λ t v.
    smallest_insert r p x h.is_pattern (accepted_tree x tree_limit 3 (is_fine _ t) (words_of x v)) (labels_of h) (labels_of (accepted_read p 2 f w)))))

module _ (r : List ℕ) (u : Update) {n : ℕ} (smallest : Smallest r u n) (read : Accepted r) (update : Accepted (pattern u)) where
  abbrev touch : Bool
  touch = touches r (pattern u)

  touch-test : Touches r u ↔ (touch ≡ true)
  touch-test = touching r u read.is_pattern update.is_pattern (labels_of read) (labels_of update)

  conflict_of : 0 < n → Conflict r u
  conflict_of h = record { tree = (smallest.some h).0; shows = (smallest.some h).1 }

  deep_claim : (s : Said) → said s n touch ≡ true → DeepClaim s r u
  unfolding said
  deep_claim nothing e = tt
  deep_claim says_yes e = either (ltb 0 n) touch e (λ h. inl (conflict_of (ltb-true 0 n h))) (λ h. inr (touch-test.1 h))
  deep_claim says_no e =
      both (not (ltb 0 n)) (not touch) e (λ h k.
      ⊎_elim
      (smallest.none (omega (arith, ltb-false 0 n (not-true _ h))))
      (λ t. false≢true (sym (not-true touch k) ∙ touch-test.0 t)))

claim_of : (x : Example) → right x ≡ true → Claim x
unfolding right
claim_of x e =
    both (fine (pattern_check x.read step_limit 1) && small x.read) _ e (λ f k.
    both (fine (pattern_check x.read step_limit 1)) _ f (λ p w.
    both (accepted x.update) _ k (λ u l.
    both (eqb (nodes_of x.read x.update) x.number) _ l (λ q s.
    let read = accepted_read x.read 1 p w in
    let smallest : Smallest x.read x.update x.number = rw (eqb-true (nodes_of x.read x.update) x.number q) at (smallest_of x.read x.update read u) in
    record { smallest = smallest; deeper = deep_claim x.read x.update smallest read (accepted_update x.update u) x.deep s }))))

every_of : (xs : List Example) → all_right xs ≡ true → Every xs
unfolding all_right
every_of [] e = none
every_of (x ∷ xs) e = both (right x) (all_right xs) e (λ h k. more (claim_of x h) (every_of xs k))

-- the test over the list, and over one example more
computed : all_right (point_above ∷ examples) ≡ true
unfolding all_right right fine small accepted nodes_of touches said pattern_check tree_check size_check each axis_check axis_right node_check parent_right delete_way insert_way entering enters somewhere goes_further over shorter longer sooner meeting_of meeting fewest_of fewest least onward agree landing shared up ups
computed = refl

-- P1 to P15 hold
pub marked : Marked
unfolding all_right
marked = record { fifteen = refl; every = both (right point_above) (all_right examples) computed (λ h k. every_of examples k) }

-- and so does the point above: there is no deep yes
pub point_above_lem : Claim point_above
unfolding all_right
point_above_lem = both (right point_above) (all_right examples) computed (λ h k. claim_of point_above h)

pub point_above_no : Deep point_above.read point_above.update → ⊥
point_above_no = point_above_lem.deeper
