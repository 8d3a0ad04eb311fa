-- Inside: a text is scanned from one byte to the next, whatever the scan holds on to.
use Rattle.std.specs.Prelude.{ℕ, suc, Bool, cond, List, [], ◌∷◌}

-- where a scan stands behind s
unfoldable pub scanned : {S : Type 0} → (S → ℕ → S) → S → List ℕ → S
scanned next q [] = q
scanned next q (c ∷ s) = scanned next (next q c) s

-- how many bytes of s it goes on for
unfoldable pub lasting : {S : Type 0} → (S → ℕ → S) → (S → Bool) → S → List ℕ → ℕ
lasting next on q [] = 0
lasting next on q (c ∷ s) = cond (on (next q c)) (suc (lasting next on (next q c) s)) 0
