-- The words of a frame, taken alone, are a batch of that frame.
use Rattle.tables.specs.Checks.{Fine}
use Prim.Native.Nat.{ℕ, ◌+◌, ◌*◌, ◌-◌, ◌<◌, ◌≤◌}
use mathlib.Core.Path.{◌≡◌, refl, sym, ◌∙◌}
use mathlib.Core.Bool.{Bool, true, false}
use mathlib.Core.List.{List, [], ◌∷◌}
use native.Mathlib.Nat.{add-zero}
use native.Mathlib.Omega.{arith}
use lib.Dec.{eqb}
use lib.ListN.{length, get_or, drop}
use lib.Seq.{get_or-take, get_or-drop, ext_get_or}
use Rattle.batch_parts.specs.Parts.{part, count}
use Rattle.batch_frame.specs.Frames.{kind, tree_at, frame_check, end_of}
use Rattle.batch_frame.proofs.Ending.{steps_end, end_behind}
use Rattle.batch_frame.proofs.Accepted.{end_room}
use Rattle.batch_check.specs.Batches.{pattern_of, tree_of, update_of, meaning, batch_of}
use Rattle.batch_check.proofs.Accepted.{part_length}
use Rattle.batch_check.proofs.Frames.{frames-on, frames_off}

module _ (b : List ℕ) (at w : ℕ) (room : at + w ≤ length b) where
  -- a word of the part, and a part of it, are those of the batch, counted from the place
  word_in : (i : ℕ) → i < w → get_or (part b at w) i 0 ≡ get_or b (at + i) 0
  word_in i h = get_or-take w (drop at b) i 0 h ∙ get_or-drop at b i 0

  part_in : (from n : ℕ) → from + n ≤ w → part (part b at w) from n ≡ part b (at + from) n
  part_in from n h =
      ext_get_or 0 _ _ (inner ∙ sym outer)
      (λ i l.
      let below : i < n = rw inner at l in
      let far : at + (from + i) ≡ at + from + i = omega arith in
      rw (
        get_or-take n (drop from (part b at w)) i 0 below,
        get_or-drop from (part b at w) i 0,
        word_in (from + i) (omega arith),
        far,
        get_or-take n (drop (at + from) b) i 0 below,
        get_or-drop (at + from) b i 0,
      ))
    where
      inner : length (part (part b at w) from n) ≡ n
      inner = part_length (part b at w) from n (rw (part_length b at w room) h)

      outer : length (part b (at + from) n) ≡ n
      outer = part_length b (at + from) n (omega arith)

module _ (b : List ℕ) (n at : ℕ) (fine : frame_check b n at ≡ Fine) where
  -- the words from its place to its end
  width : ℕ
  width = end_of b at - at

  own : List ℕ
  own = part b at width

  within : at + width ≤ length b
  unfolding width
  within = omega (arith, end_room b n at fine, end_behind b at)

  own-length : length own ≡ width
  unfolding own
  own-length = part_length b at width within

  steps_in_lem : 2 + 2 * count b (at + 1) ≤ width
  unfolding width
  steps_in_lem = omega (arith, steps_end b at)

  own-kind : kind own 0 ≡ kind b at
  unfolding own
  own-kind = rw (word_in b at width within 0 (omega (arith, steps_in_lem)), add-zero)

  own-steps : count own 1 ≡ count b (at + 1)
  unfolding own
  own-steps = word_in b at width within 1 (omega (arith, steps_in_lem))

  own-pattern : pattern_of own 0 ≡ pattern_of b at
  unfolding own
  own-pattern = rw own-steps (part_in b at width within 2 (2 * count b (at + 1)) steps_in_lem)

  -- the nodes of an insert
  module _ (is : eqb (kind b at) 2 ≡ true) where
    insert_end : width ≡ tree_at 0 (count b (at + 1)) + 1 + 2 * count b (tree_at at (count b (at + 1)))
    unfolding width end_of
    insert_end = rw is (omega arith)

    own-nodes : count own (tree_at 0 (count b (at + 1))) ≡ count b (tree_at at (count b (at + 1)))
    unfolding own
    own-nodes =
        let from : at + tree_at 0 (count b (at + 1)) ≡ tree_at at (count b (at + 1)) = omega arith in
        rw (word_in b at width within (tree_at 0 (count b (at + 1))) (omega (arith, insert_end)), from)

    own_tree : tree_of own 0 ≡ tree_of b at
    unfolding own
    own_tree =
        let from : at + (tree_at 0 (count b (at + 1)) + 1) ≡ tree_at at (count b (at + 1)) + 1 = omega arith in
        rw (own-steps, own-nodes, ← from)
        (part_in b at width within (tree_at 0 (count b (at + 1)) + 1) (2 * count b (tree_at at (count b (at + 1)))) (omega (arith, insert_end)))

  own_update : update_of own 0 ≡ update_of b at
  unfolding update_of
  own_update = go (eqb (kind b at) 2) refl
    where
      go : (t : Bool) → eqb (kind b at) 2 ≡ t → update_of own 0 ≡ update_of b at
      go true is = rw (own-kind, is, own-pattern, own_tree is)
      go false is = rw (own-kind, is, own-pattern)

  own-meaning : meaning own 0 ≡ meaning b at
  unfolding meaning
  own-meaning = rw (own-kind, own-pattern, own_update)

  own_end : length own ≤ end_of own 0
  unfolding width end_of
  own_end = go (eqb (kind b at) 2) refl
    where
      go : (t : Bool) → eqb (kind b at) 2 ≡ t → length own ≤ end_of own 0
      go true is = rw (own-length, own-kind, is, own-steps, own-nodes is) (omega arith)
      go false is = rw (own-length, own-kind, is, own-steps) (omega arith)

  pub frame_alone : batch_of (part b at (end_of b at - at)) ≡ meaning b at ∷ []
  unfolding own width batch_of
  frame_alone =
      let first : 0 < length own = rw own-length (omega (arith, steps_in_lem)) in
      rw (frames-on own 0 first, frames_off own (end_of own 0) own_end, own-meaning)
