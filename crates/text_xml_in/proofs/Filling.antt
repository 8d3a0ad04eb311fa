-- The rows of a right text, as far as they are put into a table.
use Prim.Native.Nat.{ℕ, suc, ◌+◌, ◌-◌, ◌*◌, ◌<◌, ◌≤◌}
use mathlib.Core.Path.{◌≡◌, refl, sym, ap, ◌∙◌}
use mathlib.Core.Bool.{Bool, true, false, ◌&&◌, ◌||◌, cond}
use mathlib.Core.List.{List, [], ◌∷◌, ◌++◌, append_assoc, append-nil}
use native.Mathlib.Decide.{dec_lt}
use native.Mathlib.Nat.{le_trans}
use native.Mathlib.Numerals.{add-one}
use native.Mathlib.Omega.{arith}
use lib.Dec.{eqb, ltb}
use lib.ListN.{length, get_or, set, take, drop, length-append, length-drop, drop_of_length-le, get_or-append, get_or-eq_default}
use lib.Seq.{take-length, drop-cons, append_snoc, set_at, get_or_at}
use borrow.Author.Tests.{eqb-true, ltb-true}
use Rattle.tables.specs.Words.{nodes, parent}
use Rattle.selection.proofs.Runs.{both}
use Rattle.text_xml_form.specs.Scan.{is_digit, ends_on, fits, stage_on, number_on, depth_on, goes, standing, right_tags}
use Rattle.text_xml_form.specs.Rows.{has_row, row_on, node_on, rows_from, rows_of}
use Rattle.text_xml_form.proofs.Scanning.{scan_right, begins_on}
use Rattle.text_xml_in.specs.Levels.{StandsAt}
use Rattle.text_xml_in.specs.Rows.{put_on, count_on, inside_on, Puttable, Fillable}
use Rattle.text_xml_in.proofs.Standing.{goes_before, stands_start, stands_small, stands_next}

-- in a right text each byte goes on
right_goes : (s : List ℕ) → right_tags s ≡ true → (i : ℕ) → i < length s → goes (standing (take i s)) (get_or s i 0) ≡ true
right_goes s e i h = goes_before s (length s) i h (omega arith) (rw (take-length s) (begins_on s (record { rest = []; right = rw (append-nil s) (scan_right s e) })))

-- `>` ends an end tag only where an element is open
end_open : (q v c : ℕ) (ls : List ℕ) → q ≡ 5 → c ≡ 62 → fits q v (get_or ls 0 0) (length ls) c ≡ true → 0 < length ls
unfolding fits ends_on is_digit
end_open q v c [] a b e = both (ltb 0 v) (eqb v 0) (rw (a, b) at e) (λ x y. absurd (omega (arith, ltb-true 0 v x, eqb-true v 0 y)))
end_open q v c (l ∷ ls) a b e = omega arith

-- rows only come behind others
row_longer : (q v c u : ℕ) (rows : List ℕ) → length rows ≤ length (row_on q v c u rows)
unfolding row_on has_row
row_longer q v c u rows = go (eqb c 62 && (eqb q 2 || eqb q 3))
  where
    go : (b : Bool) → length rows ≤ length (cond b (rows ++ (u ∷ v ∷ [])) rows)
    go true = omega (arith, length-append rows (u ∷ v ∷ []))
    go false = omega arith

row_long : (q v c u : ℕ) (rows : List ℕ) → has_row q c ≡ true → length (row_on q v c u rows) ≡ 2 + length rows
unfolding has_row row_on
row_long q v c u rows e = rw e (length-append rows (u ∷ v ∷ []) ∙ omega arith)

rows_longer : (q v u : ℕ) (rows s : List ℕ) → length rows ≤ length (rows_from q v u rows s)
unfolding rows_from
rows_longer q v u rows [] = omega arith
rows_longer q v u rows (c ∷ s) =
    le_trans (row_longer q v c u rows) (rows_longer (stage_on q c) (number_on v c) (node_on q c u rows) (row_on q v c u rows) s)

-- k rows stand at the front of a table, and each names one of them as its parent
pub record Put (before : List ℕ) (k : ℕ) (rows words : List ℕ) : Type 0 where
  pub long : length rows ≡ 2 * k
  pub put : words ≡ rows ++ drop (2 * k) before
  pub parents : (w : ℕ) → parent rows w ≤ k - 1

put_start : (before : List ℕ) → Put before 0 [] before
put_start before = record { long = refl; put = refl; parents = λ w. omega arith }

module _ {before : List ℕ} {k : ℕ} {rows words : List ℕ} (p : Put before k rows words) where
  put-length : 2 * k ≤ length before → length words ≡ length before
  put-length h = ap length p.put ∙ length-append rows (drop (2 * k) before) ∙ omega (arith, p.long, length-drop (2 * k) before)

  put-parent : (u : ℕ) → u < k → parent words u ≡ parent rows u
  put-parent u h = ap (λ t. get_or t (2 * u) 0) p.put ∙ get_or-append rows (drop (2 * k) before) 0 (2 * u) (omega (arith, p.long))

  -- one more
  module _ (u v : ℕ) (h : 2 * k + 1 < length before) (small : u ≤ k - 1) where
    set_row : set (set words (2 * k) u) (2 * k + 1) v ≡ (rows ++ (u ∷ v ∷ [])) ++ drop (2 * suc k) before
    set_row =
        let a = get_or before (2 * k) 0 in
        let b = get_or before (suc (2 * k)) 0 in
        let rest = drop (suc (suc (2 * k))) before in
        let behind : suc (suc (2 * k)) ≡ 2 * suc k = omega arith in
        let split : drop (2 * k) before ≡ a ∷ b ∷ rest = drop-cons before (2 * k) 0 (omega arith) ∙ ap (λ t. a ∷ t) (drop-cons before (suc (2 * k)) 0 (omega arith)) in
        let one : set words (2 * k) u ≡ rows ++ (u ∷ b ∷ rest) = ap (λ t. set t (2 * k) u) (p.put ∙ ap (λ t. rows ++ t) split) ∙ set_at rows a (b ∷ rest) u (2 * k) p.long in
        ap (λ t. set t (2 * k + 1) v) (one ∙ sym (append_snoc rows u (b ∷ rest)))
        ∙ set_at (rows ++ (u ∷ [])) b rest v (2 * k + 1) (length-append rows (u ∷ []) ∙ omega (arith, p.long))
        ∙ append_assoc rows (u ∷ []) (v ∷ rest)
        ∙ sym (append_assoc rows (u ∷ v ∷ []) rest)
        ∙ ap (λ n. (rows ++ (u ∷ v ∷ [])) ++ drop n before) behind

    parents_more : (w : ℕ) → Dec (w < k) → Dec (k < w) → parent (rows ++ (u ∷ v ∷ [])) w ≤ k
    parents_more w (yes l) d = rw (get_or-append rows (u ∷ v ∷ []) 0 (2 * w) (omega (arith, p.long))) (omega (arith, p.parents w))
    parents_more w (no l) (yes m) = rw (get_or-eq_default (rows ++ (u ∷ v ∷ [])) 0 {n = 2 * w} (omega (arith, length-append rows (u ∷ v ∷ []), p.long))) (omega arith)
    parents_more w (no l) (no m) =
        let same : 2 * w ≡ 2 * k = omega arith in
        rw (same, get_or_at rows u (v ∷ []) 0 (2 * k) p.long) (omega arith)

    put_more : Put before (suc k) (rows ++ (u ∷ v ∷ [])) (set (set words (2 * k) u) (2 * k + 1) v)
    put_more = record {
      long = length-append rows (u ∷ v ∷ []) ∙ omega (arith, p.long);
      put = set_row;
      parents = λ w. omega (arith, parents_more w (dec_lt w k) (dec_lt k w));
    }

  -- behind a byte
  put_on_lem : (q v c u : ℕ) → (has_row q c ≡ true → 2 * k + 1 < length before) → u ≤ k - 1 → Put before (count_on q c k) (row_on q v c u rows) (put_on q v c u k words)
  unfolding has_row count_on put_on row_on
  put_on_lem q v c u room small = go (eqb c 62 && (eqb q 2 || eqb q 3)) room
    where
      go : (b : Bool) → (b ≡ true → 2 * k + 1 < length before)
          → Put before (cond b (suc k) k) (cond b (rows ++ (u ∷ v ∷ [])) rows) (cond b (set (set words (2 * k) u) (2 * k + 1) v) words)
      go true r = put_more u v (r refl) small
      go false r = p

  -- the innermost open node is one of them, and its parent stands in the table
  module _ (q c u : ℕ) (small : u ≤ k - 1) where
    inside_is : (q ≡ 5 → c ≡ 62 → 0 < k) → inside_on q c u k words ≡ node_on q c u rows
    unfolding inside_on node_on
    inside_is some = go (eqb c 62) (eqb q 2) (eqb q 5) (λ e f. some (eqb-true q 5 f) (eqb-true c 62 e))
      where
        go : (a b d : Bool) → (a ≡ true → d ≡ true → 0 < k) → cond a (cond b k (cond d (parent words u) u)) u ≡ cond a (cond b (nodes rows) (cond d (parent rows u) u)) u
        go true true d s = omega (arith, p.long)
        go true false true s = put-parent u (omega (arith, s refl refl))
        go true false false s = refl
        go false b d s = refl

    node_small : node_on q c u rows ≤ count_on q c k - 1
    unfolding node_on count_on has_row
    node_small = go (eqb c 62) (eqb q 2) (eqb q 3) (eqb q 5)
      where
        go : (a b e d : Bool) → cond a (cond b (nodes rows) (cond d (parent rows u) u)) u ≤ cond (a && (b || e)) (suc k) k - 1
        go true true e d = omega (arith, p.long)
        go true false true true = omega (arith, p.parents u)
        go true false true false = omega arith
        go true false false true = p.parents u
        go true false false false = small
        go false b e d = small

-- no more elements are open than there are rows
deep_on : (q c d k : ℕ) → d ≤ k → depth_on q c d ≤ count_on q c k
unfolding depth_on count_on has_row
deep_on q c d k h = go (eqb c 62) (eqb q 2) (eqb q 3) (eqb q 5)
  where
    go : (a b e f : Bool) → cond a (cond b (suc d) (cond f (d - 1) d)) d ≤ cond (a && (b || e)) (suc k) k
    go true true e f = omega arith
    go true false true true = omega arith
    go true false true false = omega arith
    go true false false true = omega arith
    go true false false false = h
    go false b e f = h

-- k rows of the text before i are put; u is the innermost open node, if one is
pub record Filled (s before : List ℕ) (i q v u k : ℕ) (words : List ℕ) : Type 0 where
  pub depth : ℕ
  pub at : StandsAt s i q v depth
  pub deep : depth ≤ k
  pub node : u ≤ k - 1
  pub rows : List ℕ
  pub table : Put before k rows words
  pub left : rows_from q v u rows (drop i s) ≡ rows_of s

pub filled_start : (s before : List ℕ) → Filled s before 0 0 0 0 0 before
unfolding rows_of
filled_start s before = record {
  depth = 0;
  at = stands_start s;
  deep = omega arith;
  node = omega arith;
  rows = [];
  table = put_start before;
  left = refl;
}

module _ {s before : List ℕ} (able : Fillable s before) {i q v u k : ℕ} {words : List ℕ} (f : Filled s before i q v u k words) where
  few_rows : 2 * k ≤ length (rows_of s)
  few_rows = omega (arith, f.table.long, rows_longer q v u f.rows (drop i s), ap length f.left)

  pub filled-length : length words ≡ length before
  filled-length = put-length f.table (omega (arith, few_rows, able.room))

  module _ (h : i < length s) {c : ℕ} (is : c ≡ get_or s i 0) where
    left-next : rows_from (stage_on q c) (number_on v c) (node_on q c u f.rows) (row_on q v c u f.rows) (drop (suc i) s) ≡ rows_of s
    unfolding rows_from
    left-next = rw is (sym (ap (rows_from q v u f.rows) (drop-cons s i 0 h)) ∙ f.left)

    row_room : has_row q c ≡ true → 2 * k + 1 < length before
    row_room e =
        let more : length (row_on q v c u f.rows) ≤ length (rows_of s) = rw left-next at (rows_longer (stage_on q c) (number_on v c) (node_on q c u f.rows) (row_on q v c u f.rows) (drop (suc i) s)) in
        omega (arith, more, row_long q v c u f.rows e, f.table.long, able.room)

    on-goes : goes (standing (take i s)) c ≡ true
    on-goes = rw is (right_goes s able.right i h)

    some_open : q ≡ 5 → c ≡ 62 → 0 < k
    unfolding goes
    some_open a b =
        let x = standing (take i s) in
        omega (arith, end_open x.stage x.number c x.opened (f.at.stage ∙ a) b on-goes, f.at.depth, f.deep)

    pub filled_puttable : Puttable q v c u k words
    filled_puttable = record {
      number = stands_small s i q v f.depth f.at;
      node = omega (arith, f.node, few_rows, able.few);
      room = λ e. omega (arith, row_room e, filled-length);
    }

    pub filled_next : {r w m n : ℕ} {after : List ℕ} → r ≡ stage_on q c → w ≡ number_on v c → m ≡ inside_on q c u k words → (n ≡ count_on q c k) × (after ≡ put_on q v c u k words)
        → Filled s before (i + 1) r w m n after
    filled_next a b d e =
        rw (a, b, d, e.0, e.1, inside_is f.table q c u f.node some_open, add-one)
        (record {
          depth = depth_on q c f.depth;
          at = stands_next s i q v f.depth f.at h is on-goes;
          deep = deep_on q c f.depth k f.deep;
          node = node_small f.table q c u f.node;
          rows = row_on q v c u f.rows;
          table = put_on_lem f.table q v c u row_room f.node;
          left = left-next;
        })

  pub filled_end : length s ≤ i → words ≡ rows_of s ++ drop (length (rows_of s)) before
  unfolding rows_from
  filled_end h =
      let all : f.rows ≡ rows_of s = sym (ap (rows_from q v u f.rows) (drop_of_length-le s {i = i} h)) ∙ f.left in
      f.table.put ∙ rw (← f.table.long, all)
