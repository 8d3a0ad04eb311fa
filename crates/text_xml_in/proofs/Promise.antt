-- From what the checks and the rows give to the promise of reading; the promise fixes its answer and its buffer, and can be met for every input.
use Rattle.std.specs.Prelude.{Result, Ok, Err}
use Prim.Native.Nat.{ℕ, ◌*◌, ◌≤◌, ◌<◌}
use mathlib.Core.Path.{◌≡◌, refl, sym, ◌∙◌, ap}
use mathlib.Core.Bool.{true}
use mathlib.Core.List.{List, ◌++◌}
use native.Mathlib.Omega.{arith}
use lib.Dec.{leb}
use lib.ListN.{length, drop}
use borrow.Author.Tests.{leb-true, le-leb, lt-leb}
use Rattle.tables.specs.Limits.{tree_limit}
use Rattle.tables.specs.Words.{nodes}
use Rattle.tables.specs.Checks.{test, refuse, output_check, Checked, Fine}
use Rattle.tables.specs.declared.refusal.Refusal.{Refusal}
use Rattle.tables.proofs.Accepted.{never, held, then_first, then_second, output_room}
use Rattle.text_xml_form.specs.Scan.{right_tags}
use Rattle.text_xml_form.specs.Rows.{rows_of, slashes}
use Rattle.text_xml_in.specs.Reading.{tags_check, read_tree_check, ReadTree}
use Rattle.text_xml_in.specs.Rest.{rest_check, nodes_check, RowsRead}
use Rattle.text_xml_in.specs.Rows.{Fillable}
use Rattle.text_xml_in.proofs.Slashes.{rows_slashes}

-- the number of nodes, then the room
module _ (k room : ℕ) {answer : Checked} where
  pub nodes_many : tree_limit < k → answer ≡ refuse 2 3 0 → answer ≡ nodes_check k room
  unfolding nodes_check
  nodes_many h a = rw (lt-leb k tree_limit h) a

  pub nodes_few : k ≤ tree_limit → answer ≡ output_check (2 * k) room → answer ≡ nodes_check k room
  unfolding nodes_check
  nodes_few h a = rw (le-leb k tree_limit h) a

-- the rows of a right text
module _ (s before : List ℕ) (right : right_tags s ≡ true) {k : ℕ} (is : k ≡ slashes s) {got : Checked} (e : got ≡ nodes_check k (length before)) where
  words_are : length (rows_of s) ≡ 2 * k
  words_are = omega (arith, rows_slashes s right)

  nodes_are : nodes (rows_of s) ≡ k
  nodes_are = omega (arith, words_are)

  asked : rest_check s (length before) ≡ got
  unfolding rest_check nodes_check
  asked = rw (nodes_are, words_are) (sym e)

  module _ (f : got ≡ Fine) where
    pub rows_few : k ≤ tree_limit
    unfolding nodes_check
    rows_few = leb-true k tree_limit (held (leb k tree_limit) _ (then_first (test (leb k tree_limit) (refuse 2 3 0)) _ (sym e ∙ f)))

    pub rows_fillable : Fillable s before
    unfolding nodes_check
    rows_fillable =
        let room = then_second (test (leb k tree_limit) (refuse 2 3 0)) (output_check (2 * k) (length before)) (sym e ∙ f) in
        record { right = right; few = rw nodes_are rows_few; room = rw words_are (output_room (2 * k) (length before) room) }

    pub rows_put : {after : List ℕ} → after ≡ rows_of s ++ drop (length (rows_of s)) before → RowsRead s before after (Ok (2 * k))
    rows_put a = (asked ∙ f, sym words_are, rw (← words_are) a)

  pub rows_off : {r : Refusal} → got ≡ Err r → RowsRead s before before (Err r)
  rows_off f = (asked ∙ f, refl)

-- the text first
module _ (s : List ℕ) {got : Checked} (e : got ≡ tags_check s) where
  pub tags_right : got ≡ Fine → right_tags s ≡ true
  unfolding tags_check
  tags_right f = held (right_tags s) _ (sym e ∙ f)

  module _ (before : List ℕ) where
    pub read_on : got ≡ Fine → (after : List ℕ) (answer : Result ℕ Refusal) → RowsRead s before after answer → ReadTree s before after answer
    unfolding read_tree_check rest_check
    read_on f after (Err r) p = (rw (← e, f) p.0, p.1)
    read_on f after (Ok n) p = (rw (← e, f) p.0, p.1, p.2)

    pub read_off : {r : Refusal} → got ≡ Err r → ReadTree s before before (Err r)
    unfolding read_tree_check
    read_off f = (rw (← e, f), refl)

-- two answers with their buffers that meet the promise are the same
module _ (s before a b : List ℕ) where
  pub read_one : (x y : Result ℕ Refusal) → ReadTree s before a x → ReadTree s before b y → (x ≡ y) × (a ≡ b)
  read_one (Err q) (Err r) f g = let e = f.0 in let h = g.0 in ((cc), f.1 ∙ sym g.1)
  read_one (Err q) (Ok n) f g = never f.0 g.0
  read_one (Ok m) (Err r) f g = never g.0 f.0
  read_one (Ok m) (Ok n) f g =
      let same = f.1 ∙ sym g.1 in
      (ap Ok same, f.2 ∙ ap (λ (k : ℕ). rows_of s ++ drop k before) same ∙ sym g.2)

-- the promise can be met: for every text and buffer there are an answer and a buffer that do
pub read_some : (s before : List ℕ) → (answer : Result ℕ Refusal) × (after : List ℕ) × ReadTree s before after answer
read_some s before = go (read_tree_check s (length before)) refl
  where
    go : (c : Checked) → read_tree_check s (length before) ≡ c → (answer : Result ℕ Refusal) × (after : List ℕ) × ReadTree s before after answer
    go (Ok tt) e = (Ok (length (rows_of s)), rows_of s ++ drop (length (rows_of s)) before, (e, refl, refl))
    go (Err r) e = (Err r, before, (e, refl))
