-- The trees that are read: they are sound, have two words a node, and one text has one meaning.
use Prim.Native.Nat.{ℕ, ◌*◌, ◌<◌}
use mathlib.Core.Path.{◌≡◌, refl, sym, ap, ◌∙◌}
use mathlib.Core.Bool.{true}
use mathlib.Core.List.{List}
use mathlib.Core.Logic.{⊎_elim}
use native.Mathlib.Omega.{arith}
use lib.ListN.{length}
use Rattle.tables.specs.Words.{nodes, parent, tag}
use Rattle.tables.specs.Documents.{bare, Sound}
use Rattle.selection.proofs.Up.{Falls}
use Rattle.selection.proofs.Presence.{is_present, present_used}
use Rattle.text_xml_form.specs.Elements.{Elements, none, short, pair, written, labels_right, abreast, size, tree_of, RightTags}
use Rattle.text_xml_form.specs.Rows.{rows_of}
use Rattle.text_xml_form.proofs.Names.{of-label}
use Rattle.text_xml_form.proofs.Filling.{length_rows, rows_tree}
use Rattle.text_xml_form.proofs.Held.{Held, held-parent, held-label, tree_held, tree_nodes}

-- one element or more has rows
some_size : (e : Elements) → 0 < abreast e → 0 < size e
unfolding abreast size
some_size none h = h
some_size (short l more) h = omega arith
some_size (pair l inside more) h = omega arith

-- parents fall
held_falls : {t : List ℕ} {e : Elements} → Held t 0 0 e → Falls t (size e)
held_falls held v k h = ⊎_elim (λ q. omega arith) (λ q. q.1) (held-parent held v (omega arith) (omega arith))

pub tree_falls : (e : Elements) → Falls (tree_of e) (nodes (tree_of e))
tree_falls e = rw (tree_nodes e) (held_falls (tree_held e))

pub tree_some : (e : Elements) → abreast e ≡ 1 → 0 < nodes (tree_of e)
tree_some e one = rw (tree_nodes e) (some_size e (omega arith))

pub tree_sound : (e : Elements) → abreast e ≡ 1 → labels_right e ≡ true → Sound (bare (tree_of e))
tree_sound e one right =
    let t = tree_of e in
    let all : nodes t ≡ size e = tree_nodes e in
    let held = tree_held e in
    let some = some_size e (omega arith) in
    record {
      room = omega arith;
      root = is_present (bare t) 0 (tree_some e one) refl;
      top = ⊎_elim (λ q. q) (λ q. omega arith) (held-parent held 0 (omega arith) (omega arith));
      parents = tree_falls e;
      named = λ v h. (of-label (tag t v) (held-label held right v (omega arith) (omega arith))).0;
      labels = λ v h. (of-label (tag t v) (held-label held right v (omega arith) (omega arith))).1;
      closed = λ v k q.
          let h : v < nodes t = present_used (bare t) v q in
          is_present (bare t) (parent t v) (omega (arith, tree_falls e v k h)) refl;
    }

pub one_meaning : (a b : Elements) → written a ≡ written b → tree_of a ≡ tree_of b
one_meaning a b same = sym (rows_tree a) ∙ ap rows_of same ∙ rows_tree b

-- what is read of a right text is the tree that it means
module _ (s : List ℕ) (r : RightTags s) where
  pub read_tree : rows_of s ≡ tree_of r.root
  read_tree = ap rows_of r.spelled ∙ rows_tree r.root

  pub read_sound : Sound (bare (rows_of s))
  read_sound = rw read_tree (tree_sound r.root r.one r.labels)

  pub read_nodes : nodes (rows_of s) ≡ size r.root
  read_nodes = rw read_tree (tree_nodes r.root)

  pub read_words : length (rows_of s) ≡ 2 * nodes (rows_of s)
  unfolding tree_of
  read_words = rw read_tree (omega (arith, length_rows 0 0 r.root))
