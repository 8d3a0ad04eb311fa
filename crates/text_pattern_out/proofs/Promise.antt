-- From what the checks and the steps give to the promise of writing a pattern; the promise fixes its answer and its buffer.
use Rattle.std.specs.Prelude.{Result, Ok, Err}
use Prim.Native.Nat.{ℕ, ◌<◌, ◌≤◌}
use mathlib.Core.Path.{◌≡◌, refl, sym, ◌∙◌, ap}
use mathlib.Core.List.{List, ◌++◌}
use native.Mathlib.Nat.{zero-add}
use lib.Dec.{leb}
use lib.ListN.{length, drop}
use borrow.Author.Tests.{leb-true, le-leb, lt-leb}
use Rattle.tables.specs.Limits.{step_limit}
use Rattle.tables.specs.Words.{steps, label}
use Rattle.tables.specs.Checks.{◌then◌, refuse, each, pattern_check, Checked, Fine}
use Rattle.tables.specs.declared.refusal.Refusal.{Refusal}
use Rattle.tables.proofs.Accepted.{held, then_first, then_second, each_fine, output_room}
use Rattle.text_names.specs.Names.{lines, list_check}
use Rattle.text_pattern.specs.Meaning.{text_of}
use Rattle.text_pattern_out.specs.Steps.{Numbered, Put}
use Rattle.text_pattern_out.specs.Rest.{numbers_check, room_check, rest_check}
use Rattle.text_pattern_out.specs.Writing.{number_check, write_text_check, WriteText}

-- one step's number
module _ (ws : List (List ℕ)) (p : List ℕ) (i : ℕ) {most l : ℕ} (counted : most ≡ length ws) (is : l ≡ label p i) where
  pub number_fine : l ≤ most → number_check ws p i ≡ Fine
  unfolding number_check
  number_fine h = rw (← is, ← counted, le-leb l most h)

  pub number_none : most < l → number_check ws p i ≡ refuse 15 1 i
  unfolding number_check
  number_none h = rw (← is, ← counted, lt-leb l most h)

-- where no number is refused, every number has a name
pub numbered : (ws : List (List ℕ)) (p : List ℕ) → each (number_check ws p) 0 (steps p) ≡ Fine → Numbered ws p
unfolding number_check
numbered ws p e =
    record { all = λ i h. leb-true (label p i) (length ws) (held (leb (label p i) (length ws)) _ (rw zero-add at (each_fine (number_check ws p) 0 (steps p) e i h))) }

module _ (l p before : List ℕ) {got : Checked} (e : got ≡ write_text_check l p (length before)) where
  module _ (f : got ≡ Fine) where
    pub writable : Numbered (lines l) p × (length (text_of (lines l) p) ≤ length before)
    unfolding write_text_check
    writable =
        let rest = then_second (pattern_check p step_limit 1) (rest_check l p (length before)) (then_second (list_check l) (pattern_check p step_limit 1 then rest_check l p (length before)) (sym e ∙ f)) in (
          numbered (lines l) p (then_first (numbers_check l p) (room_check l p (length before)) rest),
          output_room (length (text_of (lines l) p)) (length before) (then_second (numbers_check l p) (room_check l p (length before)) rest),
        )

    pub written : {after : List ℕ} {n : ℕ} → Put (text_of (lines l) p) before after n → WriteText l p before after (Ok n)
    written put = (sym e ∙ f, put.long, put.written)

  pub write_refused : {r : Refusal} → got ≡ Err r → WriteText l p before before (Err r)
  write_refused f = (sym e ∙ f, refl)

-- two answers with their buffers that meet the promise are the same
module _ (l p before a b : List ℕ) where
  pub write_one : (x y : Result ℕ Refusal) → WriteText l p before a x → WriteText l p before b y → (x ≡ y) × (a ≡ b)
  write_one (Err q) (Err r) f g = let e = f.0 in let h = g.0 in ((cc), f.1 ∙ sym g.1)
  write_one (Err q) (Ok n) f g = let e = f.0 in let h = g.0 in ((cc), (cc))
  write_one (Ok m) (Err r) f g = let e = f.0 in let h = g.0 in ((cc), (cc))
  write_one (Ok m) (Ok n) f g =
      let same = f.1 ∙ sym g.1 in
      (ap Ok same, f.2 ∙ ap (λ (k : ℕ). text_of (lines l) p ++ drop k before) same ∙ sym g.2)
