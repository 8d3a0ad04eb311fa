-- What a byte is to the scan, and which bytes a word has.
use Prim.Native.Nat.{ℕ}
use mathlib.Core.Path.{◌≡◌, refl, sym, ◌∙◌}
use mathlib.Core.Bool.{Bool, true, false, cond, false≢true, or-true}
use mathlib.Core.List.{List, [], ◌∷◌}
use lib.Dec.{eqb}
use borrow.Author.Tests.{eqb-true}
use Rattle.selection.proofs.Runs.{both, either}
use Rattle.text_names.specs.Letters.{between, start_char, name_char, starts, goes, all_go, name}
use Rattle.text_names.specs.Names.{same}
use Rattle.text_names.proofs.Same.{same_refl, same_eq}
use Rattle.text_pattern.specs.Texts.{slash, star, word_right}
use Rattle.text_pattern.specs.Scan.{kind_of}

-- no test both fails and holds
pub clash : {C : Type 0} {b : Bool} → b ≡ false → b ≡ true → C
clash e h = absurd (false≢true (sym e ∙ h))

-- neither a slash nor a star may continue a name
pub slash_stops : goes slash ≡ false
unfolding goes name_char start_char between
slash_stops = refl

pub star_stops : goes 42 ≡ false
unfolding goes name_char start_char between
star_stops = refl

-- what a byte is
pub data Kind : ℕ → ℕ → Type 0 where
  a_slash : Kind slash 1
  a_star : Kind 42 2
  a_start : {c : ℕ} → starts c ≡ true → Kind c 3
  a_letter : {c : ℕ} → starts c ≡ false → goes c ≡ true → Kind c 4
  another : {c : ℕ} → goes c ≡ false → Kind c 0

pub kind : (c : ℕ) → Kind c (kind_of c)
unfolding kind_of
kind c = go (eqb c slash) (eqb c 42) (starts c) (goes c) refl refl refl refl
  where
    go : (a b s g : Bool) → eqb c slash ≡ a → eqb c 42 ≡ b → starts c ≡ s → goes c ≡ g → Kind c (cond a 1 (cond b 2 (cond s 3 (cond g 4 0))))
    go true b s g ea eb es eg = rw (eqb-true c slash ea) a_slash
    go false true s g ea eb es eg = rw (eqb-true c 42 eb) a_star
    go false false true g ea eb es eg = a_start es
    go false false false true ea eb es eg = a_letter es eg
    go false false false false ea eb es eg = another eg

-- a word: a star, or a name
pub data Word : List ℕ → Type 0 where
  a_wildcard : Word star
  a_name : {c : ℕ} {v : List ℕ} → starts c ≡ true → all_go v ≡ true → Word (c ∷ v)

named : (w : List ℕ) → name w ≡ true → Word w
unfolding name
named [] e = absurd (false≢true e)
named (c ∷ v) e = both (starts c) (all_go v) e (λ h k. a_name h k)

pub of_word : (w : List ℕ) → word_right w ≡ true → Word w
unfolding word_right
of_word w e = either (same w star) (name w) e (λ h. rw (same_eq w star h) a_wildcard) (named w)

pub to_word : {w : List ℕ} → Word w → word_right w ≡ true
unfolding word_right name
to_word a_wildcard = rw (same_refl star)
to_word (a_name {c} {v} h k) = rw (h, k) (or-true (same (c ∷ v) star))
