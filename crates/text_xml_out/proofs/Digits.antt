-- Digits: how many, and how they are put before those that follow them.
use Prim.Native.Nat.{ℕ, ◌+◌, ◌-◌, ◌/◌, ◌%◌, ◌<◌, ◌≤◌}
use mathlib.Core.Path.{◌≡◌, refl, sym, ◌∙◌}
use mathlib.Core.List.{List, [], ◌∷◌, ◌++◌, append-nil}
use native.Mathlib.Omega.{arith}
use lib.ListN.{length, set, length-append}
use lib.Seq.{sets, length-sets, append_snoc}
use Rattle.text_xml.specs.Decimal.{decimal}
use Rattle.text_xml.proofs.Decimal.{decimal-small, decimal_more, length-small, length_more, length_some}
use Rattle.text_xml_out.specs.Places.{Wrote}
use Rattle.text_xml_out.proofs.Places.{byte_before}

-- the last digits of n are written from a place on; before them go those of what is left
pub record Lasting (n : ℕ) (before : List ℕ) (at : ℕ) (after : List ℕ) (k left : ℕ) : Type 0 where
  pub tail : List ℕ
  pub whole : decimal n ≡ decimal left ++ tail
  pub place : k ≡ at + length (decimal left)
  pub wrote : after ≡ sets before k tail

module _ (n : ℕ) (before : List ℕ) (at : ℕ) where
  pub none_written : {k : ℕ} → k ≡ at + length (decimal n) → Lasting n before at before k n
  none_written e = record { tail = []; whole = sym (append-nil (decimal n)); place = e; wrote = refl }

  module _ {after : List ℕ} {k left : ℕ} (h : Lasting n before at after k left) where
    pub digits_long : length after ≡ length before
    digits_long = rw h.wrote (length-sets before k h.tail)

    pub digits_within : k ≤ at + length (decimal n)
    digits_within = rw (h.whole, length-append (decimal left) h.tail) (omega (arith, h.place))

    module _ (more : 10 ≤ left) where
      pub digit_behind : at + 1 < k
      digit_behind = omega (arith, h.place, length_more left more, length_some (left / 10))

      pub digit_written : {d : ℕ} → d ≡ 48 + left % 10 → Lasting n before at (set after (k - 1) d) (k - 1) (left / 10)
      digit_written {d} e =
          record {
            tail = d ∷ h.tail;
            whole = h.whole ∙ rw (decimal_more left more, ← e) (append_snoc (decimal (left / 10)) d h.tail);
            place = omega (arith, h.place, length_more left more);
            wrote = rw h.wrote (byte_before h.tail before (k - 1) k d (omega (arith, digit_behind)));
          }

    pub all_written : left < 10 → {d : ℕ} → d ≡ 48 + left → {end : ℕ} → end ≡ at + length (decimal n) → Wrote (decimal n) before at (set after at d) end
    all_written small {d} e long =
        let first : decimal n ≡ d ∷ h.tail = h.whole ∙ rw (decimal-small left small, ← e) in
        record {
          written = rw (first, h.wrote) (byte_before h.tail before at k d (omega (arith, h.place, length-small left small)));
          behind = long;
        }
