-- Inside: the text of a pattern, step by step from the front. proofs/Steps.antt holds this against `text_of`.
use Rattle.std.specs.Prelude.{ℕ, zero, suc, ◌<◌, ◌≤◌, ◌≡◌, List, [], ◌++◌, length, drop}
use Rattle.tables.specs.Words.{steps, axis, label}
use Rattle.text_pattern.specs.Texts.{slashes}
use Rattle.text_pattern.specs.Meaning.{word_of}

-- the text of a step
unfoldable pub step_text : List (List ℕ) → ℕ → ℕ → List ℕ
step_text ws a l = slashes a ++ word_of ws l

-- the text of the first n steps
unfoldable pub first_steps : List (List ℕ) → List ℕ → ℕ → List ℕ
first_steps ws p zero = []
first_steps ws p (suc n) = first_steps ws p n ++ step_text ws (axis p n) (label p n)

-- every step's number has a name
pub record Numbered (ws : List (List ℕ)) (p : List ℕ) : Type 0 where
  pub all : (i : ℕ) → i < steps p → label p i ≤ length ws

-- a text at the front of a buffer, n bytes, all behind it stays
pub record Put (text before after : List ℕ) (n : ℕ) : Type 0 where
  pub long : n ≡ length text
  pub written : after ≡ text ++ drop n before
