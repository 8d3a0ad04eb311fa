-- The table's rule, tested over the whole table and carried to each byte; and what the rule says of a colon.
use Prim.Native.Nat.{ℕ, ◌<◌}
use mathlib.Core.Path.{◌≡◌, refl, ◌∙◌, ap}
use mathlib.Core.Bool.{Bool, true, false, ◌&&◌, not, cond}
use mathlib.Core.List.{List}
use lib.Dec.{eqb}
use lib.ListN.{get_or}
use borrow.Author.Tests.{ne_eqb}
use Rattle.selection.specs.Lists.{tab}
use Rattle.selection.proofs.Lists.{get_or-tab}
use Rattle.text_names.specs.Letters.{between, colon, start_char, name_char, class_of, starts, goes}
use Rattle.text_names.proofs.Table.{classes}

-- each of its 256 entries is the class of its byte
whole : classes ≡ tab class_of 256
unfolding classes tab class_of start_char name_char between
whole = refl

pub class_at : (c : ℕ) → c < 256 → get_or classes c 0 ≡ class_of c
class_at c h = ap (λ (xs : List ℕ). get_or xs c 0) whole ∙ get_or-tab class_of 256 c h

-- outside a text no byte stands, and 0 has class 0
pub class_outside : (c : ℕ) → 0 ≡ c → 0 ≡ class_of c
unfolding class_of start_char name_char between
class_outside c e = rw (← e)

-- what the class of a byte that is no colon says
two_starts : (a b : Bool) → eqb (cond a 2 (cond b 1 0)) 2 ≡ (a && true)
two_starts true b = refl
two_starts false true = refl
two_starts false false = refl

not_none : (a b : Bool) → (a ≡ true → b ≡ true) → not (eqb (cond a 2 (cond b 1 0)) 0) ≡ (b && true)
not_none true b h = rw (h refl)
not_none false true h = refl
not_none false false h = refl

start_is_name : (c : ℕ) → start_char c ≡ true → name_char c ≡ true
unfolding name_char
start_is_name c e = rw e

module _ (c : ℕ) {b : ℕ} (is : b ≡ c) where
  pub colon-starts : b ≡ colon → false ≡ starts c
  unfolding starts start_char between
  colon-starts e = rw (← is, e)

  pub colon-goes : b ≡ colon → false ≡ goes c
  unfolding goes name_char start_char between
  colon-goes e = rw (← is, e)

  pub other_starts : {k : ℕ} → (b ≡ colon → ⊥) → k ≡ class_of c → eqb k 2 ≡ starts c
  unfolding starts class_of
  other_starts n e = rw (e, ne_eqb c colon (λ h. n (is ∙ h))) (two_starts (start_char c) (name_char c))

  pub other_goes : {k : ℕ} → (b ≡ colon → ⊥) → k ≡ class_of c → not (eqb k 0) ≡ goes c
  unfolding goes class_of
  other_goes n e = rw (e, ne_eqb c colon (λ h. n (is ∙ h))) (not_none (start_char c) (name_char c) (start_is_name c))
