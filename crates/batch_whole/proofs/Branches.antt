-- The branches of the code, held against those of the definition.
use Rattle.std.specs.Prelude.{Result, Ok, Err}
use Prim.Native.Nat.{ℕ, ◌≤◌, ◌<◌}
use mathlib.Core.Path.{◌≡◌, sym, ◌∙◌}
use mathlib.Core.List.{List}
use lib.ListN.{length}
use borrow.Author.Tests.{eq-eqb, ne_eqb, le-leb, lt-leb}
use Rattle.tables.specs.Limits.{batch_limit}
use Rattle.tables.specs.Checks.{refuse, Checked, Fine}
use Rattle.tables.specs.declared.refusal.Refusal.{Refusal}
use Rattle.batch_frame.specs.Frames.{end_of, frame_at}
use Rattle.outcomes.specs.declared.frames.Extent.{Extent}
use Rattle.batch_whole.specs.Whole.{whole_check}
use Rattle.batch_check.proofs.Left.{frame_fine, frame_next, frame_why}

module _ (b : List ℕ) (n at : ℕ) where
  pub behind-over : batch_limit < length b → {answer : Checked} → answer ≡ refuse 10 6 batch_limit → answer ≡ whole_check b n at
  behind-over h a = rw (lt-leb (length b) batch_limit h) a

  module _ (h : length b ≤ batch_limit) {got : Result Extent Refusal} (e : got ≡ frame_at b n at) where
    pub behind_why : {r : Refusal} → got ≡ Err r → Err r ≡ whole_check b n at
    behind_why told = rw (le-leb (length b) batch_limit h, frame_why b n at e told)

    module _ {f : Extent} (told : got ≡ Ok f) where
      pub behind_fine : f.next ≡ length b → Fine ≡ whole_check b n at
      behind_fine same =
          rw (le-leb (length b) batch_limit h, frame_fine b n at e told, eq-eqb (end_of b at) (length b) (sym (frame_next b n at e told) ∙ same))

      pub behind-left : (f.next ≡ length b → ⊥) → {answer : Checked} → answer ≡ refuse 9 6 f.next → answer ≡ whole_check b n at
      behind-left other a =
          rw (le-leb (length b) batch_limit h, frame_fine b n at e told, ne_eqb (end_of b at) (length b) (λ same. other (frame_next b n at e told ∙ same)), ← frame_next b n at e told) a
