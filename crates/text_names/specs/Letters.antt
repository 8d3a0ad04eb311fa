-- The bytes of names: XML 1.0 fifth edition, NameStartChar and NameChar, code points 0 to 255.
use Rattle.std.specs.Prelude.{ℕ, Bool, true, false, ◌&&◌, ◌||◌, not, cond, List, [], ◌∷◌, eqb, leb}

-- a byte from a to b
unfoldable pub between : ℕ → ℕ → ℕ → Bool
between a b c = leb a c && leb c b

-- a colon
abbrev pub colon : ℕ
colon = 58

-- NameStartChar: ":" | [A-Z] | "_" | [a-z] | [#xC0-#xD6] | [#xD8-#xF6] | [#xF8-#xFF]
unfoldable pub start_char : ℕ → Bool
start_char c =
    eqb c colon
    || (between 65 90 c || (eqb c 95 || (between 97 122 c || (between 192 214 c || (between 216 246 c || between 248 255 c)))))

-- NameChar: NameStartChar | "-" | "." | [0-9] | #xB7
unfoldable pub name_char : ℕ → Bool
name_char c = start_char c || (eqb c 45 || (eqb c 46 || (between 48 57 c || eqb c 183)))

-- the class of a byte: 2 may start a name, 1 may only continue one, 0 neither
unfoldable pub class_of : ℕ → ℕ
class_of c = cond (start_char c) 2 (cond (name_char c) 1 0)

-- a name of a step has no colon: a byte that may start one, and a byte that may continue one
unfoldable pub starts : ℕ → Bool
starts c = start_char c && not (eqb c colon)

unfoldable pub goes : ℕ → Bool
goes c = name_char c && not (eqb c colon)

-- every byte may continue a name
unfoldable pub all_go : List ℕ → Bool
all_go [] = true
all_go (c ∷ s) = goes c && all_go s

-- a name without a colon: a byte that may start one, then bytes that may continue it
unfoldable pub name : List ℕ → Bool
name [] = false
name (c ∷ s) = starts c && all_go s
