-- The numbers of equal answers are the same, and those of an answer that meets a promise are told.
use mathlib.Core.Path.{◌≡◌, sym, ap, ◌∙◌}
use Rattle.c_answer.specs.declared.answer.Answer.{Answer}
use Rattle.c_answer.specs.Answers.{Told}

module _ {E : Type 0} (numbers : E → Answer) {e f : E} {a : Answer} where
  -- the numbers of a case are those of the answer that is this case
  pub of_case : e ≡ f → a ≡ numbers f → a ≡ numbers e
  of_case same shown = shown ∙ sym (ap numbers same)

  -- the numbers of an answer are those of what it is promised to be
  pub of_promise : e ≡ f → a ≡ numbers e → a ≡ numbers f
  of_promise same shown = shown ∙ ap numbers same

-- an answer that meets the promise, with its numbers
pub told : {E : Type 0} (numbers : E → Answer) {promise : E → Type 0} (e : E) {a : Answer} → promise e → a ≡ numbers e → Told numbers promise a
told numbers e kept shown = record { answer = e; promised = kept; shown = shown }
