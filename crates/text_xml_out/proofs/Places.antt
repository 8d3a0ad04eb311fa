-- A text in a buffer from a place on, and the next behind it.
use Prim.Native.Nat.{ℕ, suc, ◌+◌, ◌<◌, ◌≤◌}
use mathlib.Core.Path.{◌≡◌, refl, sym, ◌∙◌}
use mathlib.Core.List.{List, [], ◌∷◌, ◌++◌}
use native.Mathlib.Nat.{add-zero}
use native.Mathlib.Numerals.{add-one}
use native.Mathlib.Omega.{arith}
use lib.ListN.{length, drop, set, length-append}
use lib.Seq.{sets, set_comm, length-sets, sets-eq}
use Rattle.text_xml_out.specs.Places.{Wrote}

sets_then : (xs ys l : List ℕ) (i : ℕ) → sets (sets l i xs) (i + length xs) ys ≡ sets l i (xs ++ ys)
sets_then [] ys l i = rw (add-zero i)
sets_then (x ∷ xs) ys l i =
    let same : i + suc (length xs) ≡ suc i + length xs = omega arith in
    rw same (sets_then xs ys (set l i x) (suc i))

-- a byte before what was written
set_sets : (xs l : List ℕ) (i j c : ℕ) → i < j → set (sets l j xs) i c ≡ sets (set l i c) j xs
set_sets [] l i j c h = refl
set_sets (x ∷ xs) l i j c h = set_sets xs (set l j x) i (suc j) c (omega arith) ∙ rw (set_comm l j i x c (λ e. omega arith))

pub byte_before : (xs l : List ℕ) (i j c : ℕ) → j ≡ i + 1 → set (sets l j xs) i c ≡ sets l i (c ∷ xs)
byte_before xs l i j c e = rw (e, add-one i) (set_sets xs l i (suc i) c (omega arith))

-- nothing is written
pub wrote_none : (out : List ℕ) (at : ℕ) → Wrote [] out at out at
wrote_none out at = record { written = refl; behind = sym (add-zero at) }

-- a byte, and a text behind it
pub byte_then : (c : ℕ) (text out : List ℕ) (at : ℕ) {after : List ℕ} {to : ℕ} → Wrote text (set out at c) (at + 1) after to → Wrote (c ∷ text) out at after to
byte_then c text out at e =
    record {
      written = e.written ∙ rw (add-one at);
      behind = omega (arith, e.behind);
    }

one_byte : (c : ℕ) (out : List ℕ) (at : ℕ) → Wrote (c ∷ []) out at (set out at c) (at + 1)
one_byte c out at = byte_then c [] out at (wrote_none (set out at c) (at + 1))

module _ (text before : List ℕ) (at : ℕ) {after : List ℕ} {to : ℕ} (e : Wrote text before at after to) where
  pub wrote_long : length after ≡ length before
  wrote_long = rw e.written (length-sets before at text)

  -- a text, and more behind it
  pub wrote_then : (more : List ℕ) {last : List ℕ} {end : ℕ} → Wrote more after to last end → Wrote (text ++ more) before at last end
  wrote_then more f =
      record {
        written = f.written ∙ rw (e.written, e.behind) (sets_then text more before at);
        behind = rw (length-append text more) (omega (arith, e.behind, f.behind));
      }

  pub wrote_byte : (c : ℕ) → Wrote (text ++ (c ∷ [])) before at (set after to c) (to + 1)
  wrote_byte c = wrote_then (c ∷ []) (one_byte c after to)

  -- room for what comes behind it
  pub more_room : (more : List ℕ) → at + length (text ++ more) ≤ length before → to + length more ≤ length after
  more_room more h = omega (arith, rw (length-append text more) at h, e.behind, wrote_long)

-- written from the front, where there is room for it
pub wrote_front : (text before : List ℕ) {after : List ℕ} {n : ℕ} → Wrote text before 0 after n → length text ≤ length before → (n ≡ length text) × (after ≡ text ++ drop n before)
wrote_front text before {after} {n} e h =
    let long : n ≡ length text = omega (arith, e.behind) in
    let from : 0 + length text ≡ n = omega arith in
    (long, e.written ∙ sets-eq text before 0 (omega arith) ∙ rw from)
