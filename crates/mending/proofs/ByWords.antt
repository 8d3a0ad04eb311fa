-- A mending does what the request's words say, and these words settle the document, the list and the number of its entries.
use Prim.Native.Nat.{ℕ, zero, suc, ◌+◌, ◌*◌, ◌<◌, ◌≤◌}
use mathlib.Core.Path.{◌≡◌, refl, sym, ◌∙◌}
use mathlib.Core.Bool.{true}
use mathlib.Core.List.{List}
use mathlib.Core.Logic.{◌≢◌}
use native.Mathlib.Decide.{dec_lt, ℕ_discrete}
use native.Mathlib.Nat.{add-zero}
use native.Mathlib.Omega.{arith}
use lib.ListN.{length, get_or}
use lib.Seq.{ext_get_or}
use Rattle.tables.specs.Documents.{Doc, mark}
use Rattle.tables.specs.Checks.{shape_check, Fine}
use Rattle.tables.proofs.Soundness.{shape_facts}
use Rattle.selection.specs.Lists.{count}
use Rattle.selection.proofs.Lists.{count_holds}
use Rattle.identities.specs.Documents.{Document, document}
use Rattle.mending.specs.Mending.{mended_marks, mended, changed, changes, change_list}
use Rattle.mending.specs.ByWords.{Gone, Entry, MendedBy}
use Rattle.mending.proofs.Marks.{mended-root}
use Rattle.mending.proofs.Mended.{mended_tables, mended-mark, mended-behind, mended-length}
use Rattle.mending.proofs.Gone.{gone_exactly, not_gone, gone_or_not}
use Rattle.mending.proofs.Rising.{Rises, rises_one, rises_many}
use Rattle.mending.proofs.Listing.{changed_other, other_changed, each_entry, list_at, list_behind, list_length, list_rises}

module _ (d : Doc) (list : List ℕ) where
  -- the entry of a change
  entry : (v : ℕ) → v < d.used → changed d v ≡ true → Entry d (mended_tables d) (change_list d list) (count (changed d) v) v
  entry v h e = record {
    node = rw add-zero at (list_at d list v h e 0 (omega arith));
    old = list_at d list v h e 1 (omega arith);
    new = list_at d list v h e 2 (omega arith) ∙ sym (mended-mark d v h);
  }

  -- each entry is of a mark that ended up different, and each such mark has one
  only : (k : ℕ) → k < changes d → (v : ℕ) × (v < d.used) × (mark d v ≢ get_or (mended_marks d) v 0) × Entry d (mended_tables d) (change_list d list) k v
  unfolding changes
  only =
      each_entry d (λ k. (v : ℕ) × (v < d.used) × (mark d v ≢ get_or (mended_marks d) v 0) × Entry d (mended_tables d) (change_list d list) k v) d.used
      (λ v h e. (v, h, rw (mended-mark d v h) (changed_other d v e), entry v h e))

  every : (v : ℕ) → v < d.used → mark d v ≢ get_or (mended_marks d) v 0 → (k : ℕ) × (k < changes d) × Entry d (mended_tables d) (change_list d list) k v
  unfolding changes
  every v h other =
      let e : changed d v ≡ true = other_changed d v (rw (mended-mark d v h) at other) in
      (count (changed d) v, count_holds (changed d) v d.used h e, entry v h e)

  -- so a node that no entry names has its mark
  unnamed : (v : ℕ) → ((k : ℕ) → k < changes d → get_or (change_list d list) (3 * k) 0 ≢ v) → get_or (mended_marks d) v 0 ≡ mark d v
  unnamed v free = go (dec_lt v d.used) (ℕ_discrete (mark d v) (get_or (mended_marks d) v 0))
    where
      go : Dec (v < d.used) → Dec (mark d v ≡ get_or (mended_marks d) v 0) → get_or (mended_marks d) v 0 ≡ mark d v
      go (no l) q = mended-behind d v (omega arith)
      go (yes h) (yes q) = sym q
      go (yes h) (no q) =
          let (k, l, at) = every v h q in
          absurd (free k l at.node)

-- a mending is by the words
pub mended_by : (d : Document) → shape_check d.tables ≡ Fine → (list : List ℕ) → 3 * changes d.tables ≤ length list →
    MendedBy d (mended d) list (change_list d.tables list) (changes d.tables)
unfolding mended
mended_by d shape list room =
    let t = d.tables in
    record {
      root = mended-mark t 0 (shape_facts t shape).0 ∙ mended-root t.rows t.marks;
      removed = λ v h gone. mended-mark t v h ∙ (gone_exactly t shape v h).1 gone;
      present = λ v h not. mended-mark t v h ∙ not_gone t shape v h not;
      only = only t list;
      every = every t list;
      in_order = list_rises t list;
      room = rw (list_length t list room) room;
      behind = list_behind t list;
      long = list_length t list room;
      unnamed = unnamed t list;
      marks = mended-length t (shape_facts t shape).3;
      rows = refl;
      used = refl;
      ids = refl;
      next = refl;
    }

-- a used node whose mark ended up different
abbrev Differs : Document → Document → ℕ → Type 0
Differs d e v = (v < d.tables.used) × (mark d.tables v ≢ mark e.tables v)

-- what the words say of a list's entries
module _ {d e : Document} {before after : List ℕ} {n : ℕ} (by : MendedBy d e before after n) where
  -- entry k is of the node that it names, a node whose mark ended up different
  named : (k : ℕ) → k < n → Differs d e (get_or after (3 * k) 0) × Entry d.tables e.tables after k (get_or after (3 * k) 0)
  named k h =
      let (v, used, other, entry) = by.only k h in
      rw entry.node ((used, other), entry)

  -- its nodes rise, and are all those whose marks ended up different
  rises : Rises (Differs d e) (λ k. get_or after (3 * k) 0) n
  rises = record {
    only = λ k h. (named k h).0;
    every = λ v differs. let (k, h, entry) = by.every v differs.0 differs.1 in (k, h, entry.node);
    rising = by.in_order;
  }

  -- marks behind the used count stay
  behind : (v : ℕ) → d.tables.used ≤ v → mark e.tables v ≡ mark d.tables v
  behind v h = by.unnamed v (λ k l q. omega (arith, (named k l).0.0))

-- the words settle the marks, and so the document
module _ {d e f : Document} (shape : shape_check d.tables ≡ Fine) {before one two : List ℕ} {m n : ℕ} (x : MendedBy d e before one m) (y : MendedBy d f before two n) where
  same-mark : (v : ℕ) → mark e.tables v ≡ mark f.tables v
  same-mark v = go (dec_lt v d.tables.used)
    where
      used : (h : v < d.tables.used) → Dec (Gone d.tables v) → mark e.tables v ≡ mark f.tables v
      used h (yes gone) = x.removed v h gone ∙ sym (y.removed v h gone)
      used h (no not) = x.present v h not ∙ sym (y.present v h not)

      go : Dec (v < d.tables.used) → mark e.tables v ≡ mark f.tables v
      go (yes h) = used h (gone_or_not d.tables shape v h)
      go (no l) = behind x v (omega arith) ∙ sym (behind y v (omega arith))

  same_row : e.tables.marks ≡ f.tables.marks
  same_row = ext_get_or 0 e.tables.marks f.tables.marks (x.marks ∙ sym y.marks) (λ v h. same-mark v)

  same-document : e ≡ f
  same-document =
      let parts : document e.tables.rows e.tables.marks e.tables.used e.ids e.next ≡ document f.tables.rows f.tables.marks f.tables.used f.ids f.next = cc same_row in
      parts

-- what holds of the three words of each of n entries holds of every word of them
by_thirds : (P : ℕ → Type 0) (n : ℕ) → ((k : ℕ) → k < n → P (3 * k)) → ((k : ℕ) → k < n → P (3 * k + 1)) → ((k : ℕ) → k < n → P (3 * k + 2)) →
    (i : ℕ) → i < 3 * n → P i
by_thirds P zero a b c i h = absurd (omega arith)
by_thirds P (suc n) a b c i h =
    go (ℕ_discrete i (3 * n)) (ℕ_discrete i (3 * n + 1)) (ℕ_discrete i (3 * n + 2))
    (by_thirds P n (λ k l. a k (omega arith)) (λ k l. b k (omega arith)) (λ k l. c k (omega arith)) i)
  where
    go : Dec (i ≡ 3 * n) → Dec (i ≡ 3 * n + 1) → Dec (i ≡ 3 * n + 2) → (i < 3 * n → P i) → P i
    go (yes e) q r before = rw e (a n (omega arith))
    go (no p) (yes e) r before = rw e (b n (omega arith))
    go (no p) (no q) (yes e) before = rw e (c n (omega arith))
    go (no p) (no q) (no r) before = before (omega arith)

-- then the list, entry by entry, and all
module _ {d e : Document} {before one two : List ℕ} {m n : ℕ} (x : MendedBy d e before one m) (y : MendedBy d e before two n) where
  same_number : m ≡ n
  same_number = rises_many (rises x) (rises y)

  same_node : (k : ℕ) → k < m → get_or one (3 * k) 0 ≡ get_or two (3 * k) 0
  same_node = rises_one (rises x) (rises y)

  same_word : (i : ℕ) → i < 3 * m → get_or one i 0 ≡ get_or two i 0
  same_word =
      by_thirds (λ i. get_or one i 0 ≡ get_or two i 0) m
      same_node
      (λ k h. (named x k h).1.old ∙ rw (same_node k h) (sym (named y k (rw (← same_number) h)).1.old))
      (λ k h. (named x k h).1.new ∙ rw (same_node k h) (sym (named y k (rw (← same_number) h)).1.new))

  same_list : one ≡ two
  same_list = ext_get_or 0 one two (x.long ∙ sym y.long) (λ i h. go i (dec_lt i (3 * m)))
    where
      go : (i : ℕ) → Dec (i < 3 * m) → get_or one i 0 ≡ get_or two i 0
      go i (yes h) = same_word i h
      go i (no l) = x.behind i (omega arith) ∙ sym (y.behind i (omega (arith, same_number)))

-- the words settle all
pub by_one : (d e f : Document) (before one two : List ℕ) (m n : ℕ) → shape_check d.tables ≡ Fine → MendedBy d e before one m → MendedBy d f before two n →
    (m ≡ n) × (e ≡ f) × (one ≡ two)
by_one d e f before one two m n shape x y =
    let same : e ≡ f = same-document shape x y in
    let z : MendedBy d e before two n = rw same y in
    (same_number x z, same, same_list x z)
