-- Lists of names: what is accepted is a list of names and the other way round, and a list is refused where it breaks first.
use Rattle.std.specs.Prelude.{Err}
use Prim.Native.Nat.{ℕ, ◌+◌, ◌≤◌, ◌<◌}
use mathlib.Core.Path.{◌≡◌, refl, sym, ◌∙◌, ap}
use mathlib.Core.Bool.{Bool, true, false, cond, false≢true}
use mathlib.Core.List.{List, [], ◌∷◌, ◌++◌, append_assoc, append-nil}
use native.Mathlib.Decide.{dec_lt}
use native.Mathlib.Nat.{zero-add}
use native.Mathlib.Omega.{arith}
use lib.ListN.{length, take, drop, length-append, take-append-drop}
use lib.Seq.{length-take-le}
use Rattle.tables.specs.Checks.{refuse, Fine}
use Rattle.tables.specs.Refusals.{numbered}
use Rattle.tables.specs.declared.refusal.Refusal.{Refusal}
use Rattle.tables.proofs.Accepted.{each_fine, each_all}
use Rattle.text_names.specs.Names.{feed, lines_of, Names, NameList, BreaksAt, lines, ended, entries, entry_right, entry_check, list_check}
use Rattle.tables.proofs.First.{each_first, first_each}
use Rattle.text_names.proofs.Written.{lines_rest, ended-written, written-append, cut, loose_empty}
use Rattle.text_names.proofs.Entry.{Right, names_right, right_names, right_front, front_right, of_entry, to_entry, entry_true, true_entry, false_entry, entry_false}

-- how many entries there are
entries_most : (l : List ℕ) → (length (lines l) ≤ entries l) × (entries l ≤ length (lines l) + 1)
unfolding entries
entries_most l = go (ended l)
  where
    go : (b : Bool) → (length (lines l) ≤ length (lines l) + cond b 0 1) × (length (lines l) + cond b 0 1 ≤ length (lines l) + 1)
    go true = omega arith
    go false = omega arith

-- an accepted list
module _ (l : List ℕ) (e : list_check l ≡ Fine) where
  each_right : (k : ℕ) → k < entries l → entry_right l k ≡ true
  unfolding list_check
  each_right k h = entry_true l k (rw zero-add at (each_fine (entry_check l) 0 (entries l) e k h))

  pub list_names : Names (lines l)
  list_names = right_names (lines l) (λ k h. of_entry l k (each_right k (omega (arith, h, (entries_most l).0))) (λ m r. r))

  list_ended : ended l ≡ true
  unfolding entries
  list_ended = go (ended l) refl (each_right (length (lines l)))
    where
      go : (b : Bool) → ended l ≡ b → (length (lines l) < length (lines l) + cond (ended l) 0 1 → entry_right l (length (lines l)) ≡ true) → b ≡ true
      go true is right = refl
      go false is right = of_entry l (length (lines l)) (right (rw is (omega arith))) (λ m r. absurd (omega (arith, m)))

  pub list_written : l ≡ lines_of (lines l)
  list_written =
      let c = cut l in
      let end : ended c.rest ≡ true = sym (ended-written (lines l) c.rest) ∙ ap ended (sym c.written) ∙ list_ended in
      let none : c.rest ≡ [] = loose_empty c.rest c.loose end in
      c.written ∙ rw none (append-nil (lines_of (lines l)))

  pub list_right : NameList l
  list_right = record { names = lines l; right = list_names; written = list_written }

-- names that are written, and what stands behind them
module _ (ws : List (List ℕ)) (names : Names ws) (rest l : List ℕ) (is : l ≡ lines_of ws ++ rest) where
  these : lines l ≡ ws ++ lines rest
  these = rw is (lines_rest ws names rest)

  counted : length (lines l) ≡ length ws + length (lines rest)
  counted = rw these (length-append ws (lines rest))

  counted_all : entries l ≡ length ws + entries rest
  unfolding entries
  counted_all = rw (counted, is, ended-written ws rest) (omega arith)

  each-named : (k : ℕ) → k < length ws → entry_right l k ≡ true
  each-named k h =
      to_entry l k (omega (arith, counted, h)) (rw these (front_right ws (lines rest) k h (names_right ws names k h)))

-- a list of names is accepted
pub right_list : (l : List ℕ) → NameList l → list_check l ≡ Fine
unfolding list_check entries lines ended
right_list l n =
    let is : l ≡ lines_of n.names ++ [] = n.written ∙ sym (append-nil (lines_of n.names)) in
    each_all (entry_check l) 0 (entries l)
    (λ k h. rw zero-add (true_entry l k (each-named n.names n.right [] l is k (omega (arith, h, counted_all n.names n.right [] l is)))))

-- bytes have an entry
some_entry : (s : List ℕ) → 0 < length s → 0 < entries s
unfolding entries
some_entry s h = go (lines s) refl (ended s) refl
  where
    go : (ws : List (List ℕ)) → lines s ≡ ws → (b : Bool) → ended s ≡ b → 0 < length ws + cond b 0 1
    go (w ∷ ws) is b e = omega arith
    go [] is true e =
        let none : length s ≡ 0 = rw (loose_empty s is e) in
        absurd (omega (arith, none, h))
    go [] is false e = omega arith

-- a list breaks at the first entry that is not right
module _ (l : List ℕ) (k : ℕ) (among : k < entries l) (before : (j : ℕ) → j < k → entry_right l j ≡ true) (wrong : entry_right l k ≡ false) where
  within : k ≤ length (lines l)
  within = omega (arith, among, (entries_most l).1)

  front : take k (lines l) ++ drop k (lines l) ≡ lines l
  front = take-append-drop k (lines l)

  long : length (take k (lines l)) ≡ k
  long = length-take-le k (lines l) within

  front_names : Names (take k (lines l))
  front_names =
      right_names (take k (lines l))
      (λ j h. right_front (take k (lines l)) (drop k (lines l)) j h
      (rw front (of_entry l j (before j (omega (arith, h, long))) (λ m r. r))))

  behind : List ℕ
  behind = lines_of (drop k (lines l)) ++ (cut l).rest

  front-written : l ≡ lines_of (take k (lines l)) ++ behind
  unfolding behind
  front-written =
      (cut l).written
      ∙ ap (λ (ws : List (List ℕ)). lines_of ws ++ (cut l).rest) (sym front)
      ∙ rw (written-append (take k (lines l)) (drop k (lines l)))
      (append_assoc (lines_of (take k (lines l))) (lines_of (drop k (lines l))) (cut l).rest)

  something : 0 < length behind
  unfolding entries lines ended
  something = some behind (omega (arith, among, counted_all (take k (lines l)) front_names behind l front-written, long))
    where
      some : (s : List ℕ) → 0 < entries s → 0 < length s
      some [] h = absurd (omega (arith, h))
      some (c ∷ s) h = omega arith

  not_more : (w more : List ℕ) → Names (take k (lines l) ++ (w ∷ [])) → behind ≡ w ++ (feed ∷ more) → ⊥
  unfolding lines_of
  not_more w more names e =
      let is : l ≡ lines_of (take k (lines l) ++ (w ∷ [])) ++ more =
      front-written ∙ rw (e, written-append (take k (lines l)) (w ∷ []), append_assoc (lines_of (take k (lines l))) (w ++ (feed ∷ [])) more, append_assoc w (feed ∷ []) more) in
      let less : k < length (take k (lines l) ++ (w ∷ [])) = rw (length-append, long) (omega arith) in
      false≢true (sym wrong ∙ each-named (take k (lines l) ++ (w ∷ [])) names more l is k less)

  breaks : BreaksAt l k
  breaks =
      record {
        before = take k (lines l);
        rest = behind;
        right = front_names;
        count = long;
        written = front-written;
        something = something;
        broken = not_more;
      }

-- where a list is refused, by 14 and in table 8, it breaks
pub list_breaks : (l : List ℕ) (r : Refusal) → list_check l ≡ Err r → (r ≡ record { reason = numbered 14; table = 8; place = r.place }) × BreaksAt l r.place
unfolding list_check
list_breaks l r e =
    let f = each_first (entry_check l) r 0 (entries l) e in
    let (wrong, is) = entry_false l f.at r f.here in
    let at : BreaksAt l f.at = breaks l f.at (omega (arith, f.below)) (λ j h. entry_true l j (f.before j (omega arith) h)) wrong in
    rw is (refl, at)

-- where a list breaks the entry is not right: else one name more would stand there
module _ (l : List ℕ) (k : ℕ) (b : BreaksAt l k) where
  broken_before : (j : ℕ) → j < k → entry_right l j ≡ true
  broken_before j h = each-named b.before b.right b.rest l b.written j (omega (arith, h, b.count))

  module _ (e : entry_right l k ≡ true) (w : List ℕ) (ws : List (List ℕ)) (is : lines b.rest ≡ w ∷ ws) where
    lines_more : lines l ≡ (b.before ++ (w ∷ [])) ++ ws
    lines_more = these b.before b.right b.rest l b.written ∙ rw (is, append_assoc b.before (w ∷ []) ws)

    rest_more : b.rest ≡ w ++ (feed ∷ (lines_of ws ++ (cut b.rest).rest))
    unfolding lines_of
    rest_more = (cut b.rest).written ∙ rw is (append_assoc w (feed ∷ lines_of ws) (cut b.rest).rest)

    up_to : (j : ℕ) → j ≤ k → Right (lines l) j
    up_to j h = of_entry l j (go (dec_lt j k)) (λ m r. r)
      where
        go : Dec (j < k) → entry_right l j ≡ true
        go (yes m) = broken_before j m
        go (no m) =
            let last : j ≡ k = omega arith in
            rw last e

    names_more : Names (b.before ++ (w ∷ []))
    names_more =
        right_names (b.before ++ (w ∷ []))
        (λ j h. right_front (b.before ++ (w ∷ [])) ws j h
        (rw lines_more at (up_to j (omega (arith, h, length-append b.before (w ∷ []), b.count)))))

    no_more : ⊥
    no_more = b.broken w (lines_of ws ++ (cut b.rest).rest) names_more rest_more

  broken_here : entry_right l k ≡ false
  broken_here = go (entry_right l k) refl
    where
      line : entry_right l k ≡ true → k < length (lines l) → (ws : List (List ℕ)) → lines b.rest ≡ ws → ⊥
      line e h [] is = omega (arith, h, counted b.before b.right b.rest l b.written, ap length is, b.count)
      line e h (w ∷ ws) is = no_more e w ws is

      go : (t : Bool) → entry_right l k ≡ t → t ≡ false
      go true e = of_entry l k e (λ h r. absurd (line e h (lines b.rest) refl))
      go false e = refl

  -- and the list is refused there, so that the place is one
  pub breaks_list : list_check l ≡ refuse 14 8 k
  unfolding list_check
  breaks_list =
      first_each (entry_check l) (record { reason = numbered 14; table = 8; place = k }) 0 (entries l)
      (record {
        at = k;
        least = omega arith;
        below = omega (arith, counted_all b.before b.right b.rest l b.written, b.count, some_entry b.rest b.something);
        before = λ j m h. true_entry l j (broken_before j h);
        here = false_entry l k broken_here;
      })
