-- What is left of a batch decides what counting its frames answers.
use Rattle.std.specs.Prelude.{Result, Ok, Err}
use Prim.Native.Nat.{ℕ, suc, ◌+◌, ◌<◌, ◌≤◌}
use mathlib.Core.Path.{◌≡◌, refl, sym, ◌∙◌, ap}
use mathlib.Core.List.{List}
use native.Mathlib.Nat.{zero-add, add-zero}
use native.Mathlib.Numerals.{add-one}
use native.Mathlib.Omega.{arith}
use lib.ListN.{length}
use borrow.Author.Tests.{le-leb, lt-leb}
use Rattle.tables.specs.Limits.{batch_limit}
use Rattle.tables.specs.Checks.{output_check, Checked, Fine}
use Rattle.tables.specs.Refusals.{numbered}
use Rattle.tables.specs.declared.refusal.Refusal.{Refusal}
use Rattle.batch_frame.specs.Frames.{end_of, frame_check, frame_of, answered, frame_at}
use Rattle.outcomes.specs.declared.frames.Extent.{Extent}
use Rattle.batch_check.specs.Batches.{frames_from, batch_of, check_from, batch_check, plan_check, counted_of}
use Rattle.batch_check.proofs.Frames.{frames-on, frames_off, check_on, check_off}

-- a frame that is found meets no refusal, and is the one that stands there
found_fine : (c : Checked) (g : Extent) {f : Extent} → answered c g ≡ Ok f → (c ≡ Fine) × (f ≡ g)
found_fine (Ok tt) g e = (refl, cc)
found_fine (Err r) g e = let z : ◌≡◌ {A = ℕ} 0 1 = cc in absurd (omega arith)

refused_why : (c : Checked) (g : Extent) {r : Refusal} → answered c g ≡ Err r → c ≡ Err r
refused_why (Ok tt) g e = let z : ◌≡◌ {A = ℕ} 0 1 = cc in absurd (omega arith)
refused_why (Err w) g e = cc

module _ (b : List ℕ) (n at : ℕ) {got : Result Extent Refusal} (e : got ≡ frame_at b n at) where
  pub frame_fine : {f : Extent} → got ≡ Ok f → frame_check b n at ≡ Fine
  unfolding frame_at
  frame_fine {f} told = (found_fine (frame_check b n at) (frame_of b at) (sym e ∙ told)).0

  pub frame_next : {f : Extent} → got ≡ Ok f → f.next ≡ end_of b at
  unfolding frame_at frame_of
  frame_next {f} told = ap (λ (g : Extent). g.next) (found_fine (frame_check b n at) (frame_of b at) (sym e ∙ told)).1

  pub frame_why : {r : Refusal} → got ≡ Err r → frame_check b n at ≡ Err r
  unfolding frame_at
  frame_why told = refused_why (frame_check b n at) (frame_of b at) (sym e ∙ told)

-- what counting answers from frame n at a place on
unfoldable pub counted_from : List ℕ → ℕ → ℕ → Result ℕ Refusal
counted_from b n at = counted_of (check_from b n at (length b)) (n + length (frames_from b at (length b)))

module _ (b : List ℕ) where
  pub count_start : counted_from b 0 0 ≡ counted_of (check_from b 0 0 (length b)) (length (batch_of b))
  unfolding counted_from batch_of
  count_start = rw zero-add

  module _ (n at : ℕ) where
    pub count-on : at < length b → {got : Result Extent Refusal} → got ≡ frame_at b n at → {f : Extent} → got ≡ Ok f → counted_from b n at ≡ counted_from b (n + 1) f.next
    unfolding counted_from
    count-on h e told =
        let rest = length (frames_from b (end_of b at) (length b)) in
        let more : n + suc rest ≡ suc n + rest = omega arith in
        rw (frames-on b at h, check_on b at h n, frame_fine b n at e told, frame_next b n at e told, add-one, more)

    pub count_off : at < length b → {got : Result Extent Refusal} → got ≡ frame_at b n at → {r : Refusal} → got ≡ Err r → Err r ≡ counted_from b n at
    unfolding counted_from
    count_off h e told = rw (check_on b at h n, frame_why b n at e told)

    pub count_end : length b ≤ at → Ok n ≡ counted_from b n at
    unfolding counted_from
    count_end h = rw (frames_off b at h, check_off b at h n, add-zero)

  pub words_over : batch_limit < length b → Err (record { reason = numbered 10; table = 6; place = batch_limit }) ≡ counted_of (batch_check b) (length (batch_of b))
  unfolding batch_check
  words_over h = rw (lt-leb (length b) batch_limit h)

  pub words_within : length b ≤ batch_limit → {answer : Result ℕ Refusal} → answer ≡ counted_of (check_from b 0 0 (length b)) (length (batch_of b))
      → answer ≡ counted_of (batch_check b) (length (batch_of b))
  unfolding batch_check
  words_within h e = rw (le-leb (length b) batch_limit h) e

-- what a count that the code goes on with says of the check
counted_why : (c : Checked) (n : ℕ) {r : Refusal} → counted_of c n ≡ Err r → c ≡ Err r
counted_why (Ok tt) n e = let z : ◌≡◌ {A = ℕ} 0 1 = cc in absurd (omega arith)
counted_why (Err w) n e = cc

counted_fine : (c : Checked) (m : ℕ) {n : ℕ} → counted_of c m ≡ Ok n → (c ≡ Fine) × (n ≡ m)
counted_fine (Ok tt) m e = (refl, cc)
counted_fine (Err w) m e = let z : ◌≡◌ {A = ℕ} 0 1 = cc in absurd (omega arith)

module _ (c : Checked) (m : ℕ) {got : Result ℕ Refusal} (e : got ≡ counted_of c m) where
  pub got_why : {r : Refusal} → got ≡ Err r → c ≡ Err r
  got_why told = counted_why c m (sym e ∙ told)

  pub got_fine : {n : ℕ} → got ≡ Ok n → c ≡ Fine
  got_fine told = (counted_fine c m (sym e ∙ told)).0

  pub got_count : {n : ℕ} → got ≡ Ok n → n ≡ m
  got_count told = (counted_fine c m (sym e ∙ told)).1

-- the batch first, then 7
module _ (b : List ℕ) (words : ℕ) {got : Result ℕ Refusal} (e : got ≡ counted_of (batch_check b) (length (batch_of b))) where
  pub batch_refused : {r : Refusal} → got ≡ Err r → Err r ≡ counted_of (plan_check b words) (length (batch_of b))
  unfolding plan_check
  batch_refused told = rw (got_why (batch_check b) (length (batch_of b)) e told)

  module _ {n : ℕ} (told : got ≡ Ok n) {out : Checked} (o : out ≡ output_check n words) where
    room : output_check (length (batch_of b)) words ≡ out
    room = sym (o ∙ ap (λ (x : ℕ). output_check x words) (got_count (batch_check b) (length (batch_of b)) e told))

    pub output_fine : out ≡ Fine → Ok n ≡ counted_of (plan_check b words) (length (batch_of b))
    unfolding plan_check
    output_fine f = rw (got_fine (batch_check b) (length (batch_of b)) e told, room, f) (ap Ok (got_count (batch_check b) (length (batch_of b)) e told))

    pub output_refused : {r : Refusal} → out ≡ Err r → Err r ≡ counted_of (plan_check b words) (length (batch_of b))
    unfolding plan_check
    output_refused f = rw (got_fine (batch_check b) (length (batch_of b)) e told, room, f)
