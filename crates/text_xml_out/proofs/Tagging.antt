-- Tags: a byte or two, the name, a byte or two. Each has room where the tag has, and the tag stands where they are written.
use Prim.Native.Nat.{ℕ, ◌+◌, ◌<◌, ◌≤◌}
use mathlib.Core.Path.{◌≡◌}
use mathlib.Core.List.{List, [], ◌∷◌, ◌++◌, append_assoc}
use native.Mathlib.Omega.{arith}
use lib.ListN.{length, set, length-set}
use Rattle.text_xml.specs.Decimal.{decimal}
use Rattle.text_xml.specs.Tags.{element_name, short_tag, start_tag, end_tag}
use Rattle.text_xml.proofs.Tags.{length_short, length_start, length_end}
use Rattle.text_xml_out.specs.Places.{Wrote}
use Rattle.text_xml_out.proofs.Places.{byte_then, wrote_byte, wrote_long}

length-name : (l : ℕ) → length (element_name l) ≡ 1 + length (decimal l)
unfolding element_name
length-name l = omega arith

module _ (l : ℕ) (out : List ℕ) (at : ℕ) where
  module _ (room : at + length (element_name l) ≤ length out) where
    pub name_first : at < length out
    unfolding element_name
    name_first = omega arith

    pub name_rest : (at + 1) + length (decimal l) ≤ length (set out at 110)
    unfolding element_name
    name_rest = rw (length-set out at 110) (omega (arith, room))

  pub name-put : {after : List ℕ} {to : ℕ} → Wrote (decimal l) (set out at 110) (at + 1) after to → Wrote (element_name l) out at after to
  unfolding element_name
  name-put = byte_then 110 (decimal l) out at

  -- behind one byte, and behind two
  module _ (c : ℕ) {after : List ℕ} {to : ℕ} where
    pub behind_one : Wrote (element_name l) (set out at c) (at + 1) after to → Wrote (c ∷ element_name l) out at after to
    behind_one = byte_then c (element_name l) out at

    pub behind_two : (d : ℕ) → Wrote (element_name l) (set (set out at c) (at + 1) d) (at + 2) after to → Wrote (c ∷ d ∷ element_name l) out at after to
    behind_two d e =
        let two : (at + 1) + 1 ≡ at + 2 = omega arith in
        byte_then c (d ∷ element_name l) out at (byte_then d (element_name l) (set out at c) (at + 1) (rw two e))

  module _ (room : at + length (short_tag l) ≤ length out) where
    pub short_first : at < length out
    short_first = omega (arith, room, length_short l, length-name l)

    pub short_name : (at + 1) + length (element_name l) ≤ length (set out at 60)
    short_name = rw (length-set out at 60) (omega (arith, room, length_short l, length-name l))

    module _ {after : List ℕ} {to : ℕ} (e : Wrote (element_name l) (set out at 60) (at + 1) after to) where
      pub short_sum : to + 2 ≤ length out
      short_sum = omega (arith, room, length_short l, length-name l, e.behind)

      pub short_slash : to < length after
      short_slash = omega (arith, short_sum, wrote_long _ _ _ e, length-set out at 60)

      pub short_last : to + 1 < length (set after to 47)
      short_last = rw (length-set after to 47) (omega (arith, short_sum, wrote_long _ _ _ e, length-set out at 60))

      pub short_put : Wrote (short_tag l) out at (set (set after to 47) (to + 1) 62) (to + 2)
      unfolding short_tag
      short_put =
          let two : (to + 1) + 1 ≡ to + 2 = omega arith in
          let slash = wrote_byte (60 ∷ element_name l) out at (behind_one 60 e) 47 in
          let both = wrote_byte ((60 ∷ element_name l) ++ (47 ∷ [])) out at slash 62 in
          rw (append_assoc (60 ∷ element_name l) (47 ∷ []) (62 ∷ []), two) at both

  module _ (room : at + length (start_tag l) ≤ length out) where
    pub start_first : at < length out
    start_first = omega (arith, room, length_start l, length-name l)

    pub start_name : (at + 1) + length (element_name l) ≤ length (set out at 60)
    start_name = rw (length-set out at 60) (omega (arith, room, length_start l, length-name l))

    module _ {after : List ℕ} {to : ℕ} (e : Wrote (element_name l) (set out at 60) (at + 1) after to) where
      pub start_sum : to + 1 ≤ length out
      start_sum = omega (arith, room, length_start l, length-name l, e.behind)

      pub start_last : to < length after
      start_last = omega (arith, start_sum, wrote_long _ _ _ e, length-set out at 60)

      pub start_put : Wrote (start_tag l) out at (set after to 62) (to + 1)
      unfolding start_tag
      start_put = wrote_byte (60 ∷ element_name l) out at (behind_one 60 e) 62

  module _ (room : at + length (end_tag l) ≤ length out) where
    pub end_first : at < length out
    end_first = omega (arith, room, length_end l, length-name l)

    pub end_second : at + 1 < length (set out at 60)
    end_second = rw (length-set out at 60) (omega (arith, room, length_end l, length-name l))

    pub end_name : (at + 2) + length (element_name l) ≤ length (set (set out at 60) (at + 1) 47)
    end_name = rw (length-set (set out at 60) (at + 1) 47, length-set out at 60) (omega (arith, room, length_end l, length-name l))

    module _ {after : List ℕ} {to : ℕ} (e : Wrote (element_name l) (set (set out at 60) (at + 1) 47) (at + 2) after to) where
      pub end_sum : to + 1 ≤ length out
      end_sum = omega (arith, room, length_end l, length-name l, e.behind)

      pub end_last : to < length after
      end_last = omega (arith, end_sum, wrote_long _ _ _ e, length-set (set out at 60) (at + 1) 47, length-set out at 60)

      pub end_put : Wrote (end_tag l) out at (set after to 62) (to + 1)
      unfolding end_tag
      end_put = wrote_byte (60 ∷ 47 ∷ element_name l) out at (behind_two 60 47 e) 62
