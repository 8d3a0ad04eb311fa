-- What the checks accept: a pattern, a sound tree, a sound document. Bits16 are below 2 ^ 16.
use Prim.Native.Nat.{ℕ, zero, suc, ◌+◌, ◌*◌, ◌/◌, ◌%◌, ◌<◌, ◌≤◌}
use mathlib.Core.Path.{◌≡◌, refl, sym, ◌∙◌}
use mathlib.Core.Bool.{Bool, true, false, ◌&&◌, ◌||◌, and-eq-true_iff}
use mathlib.Core.List.{List}
use mathlib.Core.Logic.{◌⊎◌, inl, inr, ⊎_map}
use native.Mathlib.Decide.{ℕ_discrete}
use native.Mathlib.Nat.{zero-add}
use native.Mathlib.Omega.{arith}
use lib.Dec.{eqb, ltb, leb}
use lib.ListN.{length}
use borrow.Author.Tests.{eqb-true, ltb-true, leb-true, eq-eqb, ne_eqb, lt-ltb, le-leb}
use Rattle.tables.specs.Checks.{Checked}
use Rattle.std.specs.Prelude.{Ok, Err}
use Rattle.tables.specs.Checks.{Fine}
use Rattle.tables.specs.Limits.{used_limit}
use Rattle.tables.specs.Words.{steps, axis, nodes, parent, tag, Bits16}
use Rattle.tables.specs.Patterns.{Pattern}
use Rattle.tables.specs.Documents.{Doc, bare, mark, Sound}
use Rattle.tables.specs.Checks.{refuse, ◌then◌, test, each, size_check, axis_right, axis_check, pattern_check, parent_right, node_check, tree_check, used_right, used_check, mark_right, mark_check, shape_check, document_check}
use Rattle.tables.proofs.Accepted.{then_assoc, held, then_first, then_second, each_fine, each_all}

-- one of two tests holds
pub either_of : (a b : Bool) → (a || b) ≡ true → (a ≡ true) ⊎ (b ≡ true)
either_of true b e = inl refl
either_of false b e = inr e

and_first : (a b : Bool) → (a && b) ≡ true → a ≡ true
and_first a b e = ((and-eq-true_iff a b).0 e).0

and_second : (a b : Bool) → (a && b) ≡ true → b ≡ true
and_second a b e = ((and-eq-true_iff a b).0 e).1

-- from number 0 on, each check of a fine walk is fine
each_at : (check : ℕ → Checked) (n : ℕ) → each check 0 n ≡ Fine → (i : ℕ) → i < n → check i ≡ Fine
each_at check n e i h = rw zero-add at (each_fine check 0 n e i h)

module _ (n limit table : ℕ) (e : size_check n limit table ≡ Fine) where
  whole : (ltb 0 n && eqb (n % 2) 0) ≡ true
  unfolding size_check
  whole = held (ltb 0 n && eqb (n % 2) 0) _ (then_first (test (ltb 0 n && eqb (n % 2) 0) (refuse 1 table 0)) (test (leb (n / 2) limit) (refuse 2 table 0)) e)

  pub size_some : 0 < n
  size_some = ltb-true 0 n (and_first (ltb 0 n) (eqb (n % 2) 0) whole)

  pub size_even : n % 2 ≡ 0
  size_even = eqb-true (n % 2) 0 (and_second (ltb 0 n) (eqb (n % 2) 0) whole)

  pub size-within : n / 2 ≤ limit
  unfolding size_check
  size-within = leb-true (n / 2) limit (held (leb (n / 2) limit) _ (then_second (test (ltb 0 n && eqb (n % 2) 0) (refuse 1 table 0)) (test (leb (n / 2) limit) (refuse 2 table 0)) e))

  pub size_half : 0 < n / 2
  size_half = omega (arith, size_some, size_even)

module _ (p : List ℕ) (limit table : ℕ) (e : pattern_check p limit table ≡ Fine) where
  pattern-size : size_check (length p) limit table ≡ Fine
  unfolding pattern_check
  pattern-size = then_first (size_check (length p) limit table) (each (axis_check p table) 0 (steps p)) e

  axis_at : (i : ℕ) → i < steps p → axis_right p i ≡ true
  unfolding pattern_check axis_check
  axis_at i h =
      held (axis_right p i) _
      (each_at (axis_check p table) (steps p) (then_second (size_check (length p) limit table) (each (axis_check p table) 0 (steps p)) e) i h)

  -- an accepted pattern
  pub accepted_pattern : Pattern p
  unfolding axis_right
  accepted_pattern =
      let some : 0 < steps p = size_half (length p) limit table pattern-size in
      record {
        some = some;
        first = eqb-true (axis p 0) 0 (axis_at 0 some);
        later = λ i h. later_axis i (rw (ne_eqb (suc i) 0 (omega arith)) at (axis_at (suc i) h));
      }
    where
      later_axis : (i : ℕ) → (eqb (axis p (suc i)) 1 || eqb (axis p (suc i)) 2) ≡ true → (axis p (suc i) ≡ 1) ⊎ (axis p (suc i) ≡ 2)
      later_axis i h =
          ⊎_map (eqb-true (axis p (suc i)) 1) (eqb-true (axis p (suc i)) 2)
          (either_of (eqb (axis p (suc i)) 1) (eqb (axis p (suc i)) 2) h)

  pub accepted_steps : steps p ≤ limit
  accepted_steps = size-within (length p) limit table pattern-size

  -- an accepted pattern has no half step
  pub accepted_pairs : 2 * steps p ≡ length p
  accepted_pairs = omega (arith, size_even (length p) limit table pattern-size)

-- and the other way round: a pattern of whole pairs, within the limit, is accepted
axis_fine : (p : List ℕ) (table : ℕ) → Pattern p → (i : ℕ) → i < steps p → axis_check p table i ≡ Fine
unfolding axis_check axis_right
axis_fine p table pat zero h = rw (eq-eqb (axis p 0) 0 pat.first)
axis_fine p table pat (suc i) h = rw (ne_eqb (suc i) 0 (λ z. omega (arith, z))) (go (pat.later i h))
  where
    go : (axis p (suc i) ≡ 1) ⊎ (axis p (suc i) ≡ 2) → test (eqb (axis p (suc i)) 1 || eqb (axis p (suc i)) 2) (refuse 3 table (suc i)) ≡ Fine
    go (inl e) = rw e
    go (inr e) = rw e

pub pattern_fine : (p : List ℕ) (limit table : ℕ) → Pattern p → 2 * steps p ≡ length p → steps p ≤ limit → pattern_check p limit table ≡ Fine
unfolding pattern_check size_check
pattern_fine p limit table pat whole few =
    let even : length p % 2 ≡ 0 = omega (arith, whole) in
    rw (lt-ltb 0 (length p) (omega (arith, whole, pat.some)), eq-eqb (length p % 2) 0 even, le-leb (length p / 2) limit few)
    (each_all (axis_check p table) 0 (steps p) (λ i h. axis_fine p table pat (0 + i) (rw zero-add h)))

-- nodes that a walk found right
module _ (t : List ℕ) (table n : ℕ) (e : each (node_check t table) 0 n ≡ Fine) where
  node_parent : (v : ℕ) → v < n → parent_right t v ≡ true
  unfolding node_check
  node_parent v h =
      held (parent_right t v) _
      (then_first (test (parent_right t v) (refuse 4 table v)) (test (ltb 0 (tag t v)) (refuse 5 table v)) (each_at (node_check t table) n e v h))

  pub node_top : 0 < n → parent t 0 ≡ 0
  unfolding parent_right
  node_top h = eqb-true (parent t 0) 0 (node_parent 0 h)

  pub node_falls : (v : ℕ) → 0 < v → v < n → parent t v < v
  unfolding parent_right
  node_falls v some h = ltb-true (parent t v) v (rw (ne_eqb v 0 (λ z. omega arith)) at (node_parent v h))

  pub node_named : (v : ℕ) → v < n → 0 < tag t v
  unfolding node_check
  node_named v h =
      ltb-true 0 (tag t v)
      (held (ltb 0 (tag t v)) _
      (then_second (test (parent_right t v) (refuse 4 table v)) (test (ltb 0 (tag t v)) (refuse 5 table v)) (each_at (node_check t table) n e v h)))

module _ (t : List ℕ) (limit table : ℕ) (e : tree_check t limit table ≡ Fine) where
  tree_size : size_check (length t) limit table ≡ Fine
  unfolding tree_check
  tree_size = then_first (size_check (length t) limit table) (each (node_check t table) 0 (nodes t)) e

  tree_nodes : each (node_check t table) 0 (nodes t) ≡ Fine
  unfolding tree_check
  tree_nodes = then_second (size_check (length t) limit table) (each (node_check t table) 0 (nodes t)) e

  pub accepted_nodes : nodes t ≤ limit
  accepted_nodes = size-within (length t) limit table tree_size

  pub accepted_some : 0 < nodes t
  accepted_some = size_half (length t) limit table tree_size

  -- an accepted tree has no half node
  pub accepted_whole : 2 * nodes t ≡ length t
  accepted_whole = omega (arith, size_even (length t) limit table tree_size)

  -- an accepted tree is sound
  pub accepted_tree : Bits16 t → Sound (bare t)
  accepted_tree words =
      record {
        room = omega arith;
        root = rw (lt-ltb 0 (nodes t) accepted_some);
        top = node_top t table (nodes t) tree_nodes accepted_some;
        parents = node_falls t table (nodes t) tree_nodes;
        named = node_named t table (nodes t) tree_nodes;
        labels = λ v h. words (2 * v + 1);
        closed = λ v some here.
            let h : v < nodes t = ltb-true v (nodes t) (and_first (ltb v (nodes t)) true here) in
            let falls : parent t v < v = node_falls t table (nodes t) tree_nodes v some h in
            rw (lt-ltb (parent t v) (nodes t) (omega arith));
      }

-- what the used count is of a document whose shape is right
module _ (d : Doc) (e : shape_check d ≡ Fine) where
  shape_used : used_right (length d.rows) (length d.marks) d.used ≡ true
  unfolding shape_check used_check
  shape_used =
      held (used_right (length d.rows) (length d.marks) d.used) _ (then_first (used_check d) (each (node_check d.rows 5) 0 d.used) e)

  pub shape_nodes : each (node_check d.rows 5) 0 d.used ≡ Fine
  unfolding shape_check
  shape_nodes = then_second (used_check d) (each (node_check d.rows 5) 0 d.used) e

  pub shape_facts : (0 < d.used) × (d.used ≤ used_limit) × (d.used ≤ length d.rows / 2) × (d.used ≤ length d.marks)
  unfolding used_right
  shape_facts =
      let n = d.used in
      let a = leb n (length d.rows / 2) && leb n (length d.marks) in
      let r = leb n used_limit && a in
      let u = shape_used in
      let v = and_second (ltb 0 n) r u in
      let w = and_second (leb n used_limit) a v in (
        ltb-true 0 n (and_first (ltb 0 n) r u),
        leb-true n used_limit (and_first (leb n used_limit) a v),
        leb-true n (length d.rows / 2) (and_first (leb n (length d.rows / 2)) (leb n (length d.marks)) w),
        leb-true n (length d.marks) (and_second (leb n (length d.rows / 2)) (leb n (length d.marks)) w),
      )

-- a document's check is that of its shape, then that of its marks
pub document_parts : (d : Doc) → document_check d ≡ (shape_check d then each (mark_check d.rows d.marks) 0 d.used)
unfolding document_check shape_check
document_parts d = sym (then_assoc (used_check d) (each (node_check d.rows 5) 0 d.used) (each (mark_check d.rows d.marks) 0 d.used))

module _ (d : Doc) (e : document_check d ≡ Fine) where
  pub document_shape : shape_check d ≡ Fine
  document_shape = then_first (shape_check d) (each (mark_check d.rows d.marks) 0 d.used) (sym (document_parts d) ∙ e)

  pub document-nodes : each (node_check d.rows 5) 0 d.used ≡ Fine
  document-nodes = shape_nodes d document_shape

  -- what the used count of an accepted document is
  pub used_facts : (0 < d.used) × (d.used ≤ used_limit) × (d.used ≤ length d.rows / 2) × (d.used ≤ length d.marks)
  used_facts = shape_facts d document_shape

  mark_at : (v : ℕ) → v < d.used → mark_right d.rows d.marks v ≡ true
  unfolding mark_check
  mark_at v h =
      held (mark_right d.rows d.marks v) _
      (each_at (mark_check d.rows d.marks) d.used (then_second (shape_check d) (each (mark_check d.rows d.marks) 0 d.used) (sym (document_parts d) ∙ e)) v h)

  -- marks are 0 or 1
  pub mark-bit : (v : ℕ) → v < d.used → mark d v ≤ 1
  unfolding mark_right
  mark-bit v h = leb-true (mark d v) 1 (and_first (leb (mark d v) 1) _ (mark_at v h))

  pub mark-root : mark d 0 ≡ 0
  unfolding mark_right
  mark-root = eqb-true (mark d 0) 0 (and_second (leb (mark d 0) 1) _ (mark_at 0 used_facts.0))

  pub mark_above : (v : ℕ) → 0 < v → v < d.used → mark d (parent d.rows v) ≤ mark d v
  unfolding mark_right
  mark_above v some h =
      leb-true (mark d (parent d.rows v)) (mark d v)
      (and_second (leb (mark d v) 1) _ (rw (ne_eqb v 0 (λ z. omega arith)) at (mark_at v h)))

  -- an accepted document is sound
  pub accepted_document : Bits16 d.rows → Sound d
  accepted_document words =
      let falls = node_falls d.rows 5 d.used document-nodes in
      record {
        room = used_facts.2;
        root = rw (lt-ltb 0 d.used used_facts.0, mark-root);
        top = node_top d.rows 5 d.used document-nodes used_facts.0;
        parents = falls;
        named = node_named d.rows 5 d.used document-nodes;
        labels = λ v h. words (2 * v + 1);
        closed = λ v some here.
            let h : v < d.used = ltb-true v d.used (and_first (ltb v d.used) (eqb (mark d v) 0) here) in
            let gone : mark d v ≡ 0 = eqb-true (mark d v) 0 (and_second (ltb v d.used) (eqb (mark d v) 0) here) in
            let above : mark d (parent d.rows v) ≡ 0 = omega (arith, mark_above v some h) in
            rw (lt-ltb (parent d.rows v) d.used (omega (arith, falls v some h)), above);
      }

-- and back: the nodes of a sound document are right
module _ (d : Doc) (sound : Sound d) where
  parent_accepted : (v : ℕ) → v < d.used → parent_right d.rows v ≡ true
  unfolding parent_right
  parent_accepted zero h = rw sound.top
  parent_accepted (suc v) h = rw (ne_eqb (suc v) 0 (λ e. omega arith), lt-ltb (parent d.rows (suc v)) (suc v) (sound.parents (suc v) (omega arith) h))

  nodes_accepted : (table : ℕ) → each (node_check d.rows table) 0 d.used ≡ Fine
  unfolding node_check
  nodes_accepted table =
      each_all (node_check d.rows table) 0 d.used (λ v h. rw (zero-add, parent_accepted v h, lt-ltb 0 (tag d.rows v) (sound.named v h)))

-- a sound tree of whole pairs, within the limit, is accepted
pub tree_fine : (t : List ℕ) (limit table : ℕ) → Sound (bare t) → 2 * nodes t ≡ length t → nodes t ≤ limit → tree_check t limit table ≡ Fine
unfolding tree_check size_check
tree_fine t limit table sound whole few =
    let some : 0 < nodes t = ltb-true 0 (nodes t) (and_first (ltb 0 (nodes t)) (eqb (mark (bare t) 0) 0) sound.root) in
    let even : length t % 2 ≡ 0 = omega (arith, whole) in
    rw (lt-ltb 0 (length t) (omega (arith, whole, some)), eq-eqb (length t % 2) 0 even, le-leb (length t / 2) limit few)
    (nodes_accepted (bare t) sound table)

-- a sound document meets no refusal where it has at most 4,096 used nodes, a mark for each of them, and marks 0 and 1
module _ (d : Doc) (sound : Sound d) (most : d.used ≤ used_limit) (marks : d.used ≤ length d.marks) (bits : (v : ℕ) → v < d.used → mark d v ≤ 1) where
  root_here : (0 < d.used) × (mark d 0 ≡ 0)
  root_here = (
    ltb-true 0 d.used (and_first (ltb 0 d.used) (eqb (mark d 0) 0) sound.root),
    eqb-true (mark d 0) 0 (and_second (ltb 0 d.used) (eqb (mark d 0) 0) sound.root),
  )

  used_accepted : used_check d ≡ Fine
  unfolding used_check used_right
  used_accepted =
      rw (lt-ltb 0 d.used root_here.0, le-leb d.used used_limit most, le-leb d.used (length d.rows / 2) sound.room, le-leb d.used (length d.marks) marks)

  -- a node that is not removed has a parent that is not removed, so its mark is not less than its parent's
  above_accepted : (v : ℕ) → 0 < v → v < d.used → mark d (parent d.rows v) ≤ mark d v
  above_accepted v some h = go (ℕ_discrete (mark d v) 0)
    where
      falls : parent d.rows v < v
      falls = sound.parents v some h

      here : mark d v ≡ 0 → mark d (parent d.rows v) ≡ 0
      here e =
          let above = sound.closed v some (rw (lt-ltb v d.used h, e)) in
          eqb-true (mark d (parent d.rows v)) 0 (and_second (ltb (parent d.rows v) d.used) (eqb (mark d (parent d.rows v)) 0) above)

      go : Dec (mark d v ≡ 0) → mark d (parent d.rows v) ≤ mark d v
      go (yes e) = omega (arith, here e)
      go (no e) = omega (arith, bits (parent d.rows v) (omega (arith, falls)))

  mark_accepted : (v : ℕ) → v < d.used → mark_check d.rows d.marks v ≡ Fine
  unfolding mark_check mark_right
  mark_accepted zero h = rw root_here.1
  mark_accepted (suc v) h =
      rw
      (ne_eqb (suc v) 0 (λ e. omega arith), le-leb (mark d (suc v)) 1 (bits (suc v) h), le-leb (mark d (parent d.rows (suc v))) (mark d (suc v)) (above_accepted (suc v) (omega arith) h))

  pub sound_accepted : document_check d ≡ Fine
  unfolding document_check shape_check
  sound_accepted =
      rw (
        used_accepted,
        nodes_accepted d sound 5,
        each_all (mark_check d.rows d.marks) 0 d.used (λ v h. rw zero-add (mark_accepted v h)),
      )
