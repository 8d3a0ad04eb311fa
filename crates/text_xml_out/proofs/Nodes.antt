-- A node between its tags: how far its children are written, from the first one to none left.
use Prim.Native.Nat.{ℕ, suc, ◌+◌, ◌-◌, ◌<◌, ◌≤◌}
use mathlib.Core.Path.{◌≡◌, refl, sym, ◌∙◌, ap}
use mathlib.Core.Bool.{cond}
use mathlib.Core.List.{List, [], ◌++◌, append_assoc}
use native.Mathlib.Decide.{ℕ_discrete}
use native.Mathlib.Omega.{arith}
use lib.Dec.{eqb}
use lib.ListN.{length, get_or, length-append}
use borrow.Author.Tests.{eq-eqb, ne_eqb}
use Rattle.tables.specs.Words.{nodes, parent, tag}
use Rattle.text_xml.specs.Tags.{short_tag, start_tag, end_tag, in_turn, element_of, tags_of}
use Rattle.text_xml.proofs.Tags.{child_child, child_behind, each-same_way}
use Rattle.text_xml_out.specs.Places.{Wrote}
use Rattle.text_xml_out.specs.Links.{child_from, Writable}
use Rattle.text_xml_out.proofs.Places.{wrote_none, wrote_then, more_room}
use Rattle.text_xml_out.proofs.Siblings.{children_from, FirstChild, none_left, first_left, children_from_lem}

-- from a place on some children of v are written; the others follow, from `child` on
pub record Halfway (t : List ℕ) (v : ℕ) (before : List ℕ) (at : ℕ) (after : List ℕ) (child to : ℕ) : Type 0 where
  pub from : ℕ
  pub some : 0 < from
  pub next : child ≡ child_from t v from
  pub done : List ℕ
  pub all : in_turn (tags_of t) (children_from t v 1) ≡ done ++ in_turn (tags_of t) (children_from t v from)
  pub wrote : Wrote done before at after to

module _ (t first next : List ℕ) (v : ℕ) (out : List ℕ) (at : ℕ) (w : Writable t first next v out at) where
  falls : (u : ℕ) → 0 < u → u < nodes t → parent t u < u
  falls = w.nested.sound.parents

  text : tags_of t v ≡ element_of (tag t v) (tags_of t) (children_from t v 1)
  text = each-same_way t falls v w.node ∙ rw (children_from_lem t v (omega (arith, w.node)))

  module _ {label child : ℕ} (named : label ≡ tag t v) (linked : child ≡ get_or first v 0) where
    first_child : child ≡ child_from t v 1
    first_child = linked ∙ w.nested.linked.firsts v w.node

    alone : child ≡ 0 → tags_of t v ≡ short_tag label
    unfolding element_of
    alone z = text ∙ rw (none_left t v 1 (omega arith) (sym first_child ∙ z), named)

    pub alone_room : child ≡ 0 → at + length (short_tag label) ≤ length out
    alone_room z = rw (← alone z) w.room

    pub alone-put : child ≡ 0 → {after : List ℕ} {to : ℕ} → Wrote (short_tag label) out at after to → Wrote (tags_of t v) out at after to
    alone-put z e = rw (alone z) e

    module _ (n : child ≡ 0 → ⊥) where
      nested : tags_of t v ≡ start_tag label ++ in_turn (tags_of t) (children_from t v 1) ++ end_tag label
      unfolding element_of
      nested =
          let found = first_left t v 1 (λ z. n (first_child ∙ z)) in
          text ∙ rw (found.rest, named)

      pub open_room : at + length (start_tag label) ≤ length out
      open_room =
          omega (arith, w.room, ap length nested, length-append (start_tag label ++ in_turn (tags_of t) (children_from t v 1)) (end_tag label), length-append (start_tag label) (in_turn (tags_of t) (children_from t v 1)))

      pub opened : (before : List ℕ) (to : ℕ) → Halfway t v before to before child to
      opened before to = record { from = 1; some = omega arith; next = first_child; done = []; all = refl; wrote = wrote_none before to }

      -- behind the start tag
      module _ {before : List ℕ} {start : ℕ} (s : Wrote (start_tag label) out at before start) {now : List ℕ} {here to : ℕ} (h : Halfway t v before start now here to) where
        so_far : List ℕ
        so_far = start_tag label ++ h.done

        written : Wrote so_far out at now to
        unfolding so_far
        written = wrote_then (start_tag label) out at s h.done h.wrote

        left : tags_of t v ≡ so_far ++ (in_turn (tags_of t) (children_from t v h.from) ++ end_tag label)
        unfolding so_far
        left =
            nested
            ∙ rw h.all
            (ap (λ (xs : List ℕ). xs ++ end_tag label) (sym (append_assoc (start_tag label) h.done (in_turn (tags_of t) (children_from t v h.from))))
            ∙ append_assoc (start_tag label ++ h.done) (in_turn (tags_of t) (children_from t v h.from)) (end_tag label))

        module _ (m : here ≡ 0 → ⊥) where
          found : FirstChild t v h.from here
          found = rw h.next (first_left t v h.from (λ z. m (h.next ∙ z)))

          turn : in_turn (tags_of t) (children_from t v h.from) ≡ tags_of t here ++ in_turn (tags_of t) (children_from t v (suc here))
          unfolding in_turn
          turn = rw found.rest

          pub child_writable : Writable t first next here now to
          child_writable =
              let rest = in_turn (tags_of t) (children_from t v (suc here)) in
              let room = more_room so_far out at written (in_turn (tags_of t) (children_from t v h.from) ++ end_tag label) (rw left at w.room) in
              record {
                nested = w.nested;
                node = found.node;
                room = omega (arith, room, length-append (in_turn (tags_of t) (children_from t v h.from)) (end_tag label), ap length turn, length-append (tags_of t here) rest);
              }

          pub child_nearer : nodes t - here < nodes t - v
          child_nearer = omega (arith, found.node, child_behind t falls v here found.node found.child)

          under : parent t here ≡ v
          under = ((child_child t v here).0 found.child).under

          module _ {later : ℕ} (following : later ≡ get_or next here 0) where
            next_child : later ≡ child_from t v (suc here)
            next_child = following ∙ w.nested.linked.nexts here (omega (arith, found.least, h.some)) found.node ∙ rw under

            pub one_more : {last : List ℕ} {end : ℕ} → Wrote (tags_of t here) now to last end → Halfway t v before start last later end
            one_more e =
                record {
                  from = suc here;
                  some = omega arith;
                  next = next_child;
                  done = h.done ++ tags_of t here;
                  all = h.all ∙ rw turn (sym (append_assoc h.done (tags_of t here) (in_turn (tags_of t) (children_from t v (suc here)))));
                  wrote = wrote_then h.done before start h.wrote (tags_of t here) e;
                }

            -- the next child is nearer to the table's end, or there is none
            pub one_less : cond (eqb later 0) 0 (nodes t - later) < cond (eqb here 0) 0 (nodes t - here)
            one_less = rw (ne_eqb here 0 m) (go (ℕ_discrete later 0))
              where
                go : Dec (later ≡ 0) → cond (eqb later 0) 0 (nodes t - later) < nodes t - here
                go (yes z) = rw (eq-eqb later 0 z) (omega (arith, found.node))
                go (no m) =
                    let beyond : FirstChild t v (suc here) later = rw next_child (first_left t v (suc here) (λ z. m (next_child ∙ z))) in
                    rw (ne_eqb later 0 m) (omega (arith, beyond.least, beyond.node))

        module _ (z : here ≡ 0) where
          ended : tags_of t v ≡ so_far ++ end_tag label
          unfolding in_turn
          ended = left ∙ rw (none_left t v h.from h.some (sym h.next ∙ z))

          pub close_room : to + length (end_tag label) ≤ length now
          close_room = more_room so_far out at written (end_tag label) (rw ended at w.room)

          pub closed : {last : List ℕ} {end : ℕ} → Wrote (end_tag label) now to last end → Wrote (tags_of t v) out at last end
          closed e = rw ended (wrote_then so_far out at written (end_tag label) e)
