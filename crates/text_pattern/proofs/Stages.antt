-- The scan from one byte to the next: words and spelled steps take it from stage to stage, and a lost text stays lost.
use Prim.Native.Nat.{ℕ, ◌≤◌}
use mathlib.Core.Path.{◌≡◌, refl, ◌∙◌, ap}
use mathlib.Core.Bool.{true, false, false≢true}
use mathlib.Core.List.{List, [], ◌∷◌, ◌++◌}
use native.Mathlib.Omega.{arith}
use borrow.Author.Tests.{ne_eqb}
use Rattle.selection.proofs.Runs.{both}
use Rattle.text_parts.specs.Scans.{scanned}
use Rattle.text_parts.proofs.Starts.{scanned-append}
use Rattle.text_names.specs.Letters.{starts, goes, all_go}
use Rattle.text_names.proofs.Naming.{starts-goes}
use Rattle.text_pattern.specs.Texts.{Step, slash}
use Rattle.text_pattern.specs.Scan.{kind_of, next_of, byte_on, after, ends, right_text}
use Rattle.text_pattern.proofs.Bytes.{clash, slash_stops, star_stops, Kind, a_slash, a_star, a_start, a_letter, another, kind, Word, a_wildcard, a_name}
use Rattle.text_pattern.proofs.Spelled.{Later, no_step, child, descendant, Whole, first}

-- the scan of two texts, one behind the other
pub after-append : (q : ℕ) (a b : List ℕ) → after q (a ++ b) ≡ after (after q a) b
unfolding after
after-append = scanned-append byte_on

-- no byte leads back
pub next-lost : (q k : ℕ) → 5 ≤ q → next_of q k ≡ 5
unfolding next_of
next-lost q k h =
    rw (ne_eqb q 0 (λ e. omega arith), ne_eqb q 1 (λ e. omega arith), ne_eqb q 2 (λ e. omega arith), ne_eqb q 3 (λ e. omega arith), ne_eqb q 4 (λ e. omega arith))

pub lost : (q : ℕ) (t : List ℕ) → 5 ≤ q → ends (after q t) ≡ false
unfolding after ends scanned byte_on
lost q [] h = rw (ne_eqb q 2 (λ e. omega arith), ne_eqb q 3 (λ e. omega arith))
lost q (c ∷ t) h = rw (next-lost q (kind_of c) h) (lost 5 t (omega arith))

-- what is lost does not end
pub lost-ends : {C : Type 0} (q : ℕ) (t : List ℕ) → 5 ≤ q → ends (after q t) ≡ true → C
lost-ends q t h e = clash (lost q t h) e

-- a byte that may start a name starts it; one that may continue a name continues it
starts_at : {c k : ℕ} → Kind c k → starts c ≡ true → k ≡ 3
starts_at a_slash h = clash slash_stops (starts-goes slash h)
starts_at a_star h = clash star_stops (starts-goes 42 h)
starts_at (a_start s) h = refl
starts_at (a_letter s g) h = clash s h
starts_at (another {c} g) h = clash g (starts-goes c h)

kind-starts : (c : ℕ) → starts c ≡ true → kind_of c ≡ 3
kind-starts c = starts_at (kind c)

goes_at : {c k : ℕ} → Kind c k → goes c ≡ true → next_of 3 k ≡ 3
unfolding next_of
goes_at a_slash h = clash slash_stops h
goes_at a_star h = clash star_stops h
goes_at (a_start s) h = refl
goes_at (a_letter s g) h = refl
goes_at (another g) h = clash g h

-- one byte on
on : (q : ℕ) {r : ℕ} (c : ℕ) (t : List ℕ) → next_of q (kind_of c) ≡ r → after q (c ∷ t) ≡ after r t
unfolding after scanned byte_on
on q c t e = ap (λ x. after x t) e

after_letters : (v t : List ℕ) → all_go v ≡ true → after 3 (v ++ t) ≡ after 3 t
unfolding all_go
after_letters [] t e = refl
after_letters (c ∷ v) t e = both (goes c) (all_go v) e (λ h k. on 3 c (v ++ t) (goes_at (kind c) h) ∙ after_letters v t k)

-- behind a slash a word leads on to a star or to a name
starts_from_1 : (c : ℕ) → starts c ≡ true → next_of 1 (kind_of c) ≡ 3
unfolding next_of
starts_from_1 c h = rw (kind-starts c h)

starts_from_4 : (c : ℕ) → starts c ≡ true → next_of 4 (kind_of c) ≡ 3
unfolding next_of
starts_from_4 c h = rw (kind-starts c h)

-- a right text may end with t, where a star or a name stands before it
record Ended (t : List ℕ) : Type 0 where
  star_first : ends (after 2 t) ≡ true
  name_first : ends (after 3 t) ≡ true

-- then it may end with a word and t, where a word may stand
word_ends_1 : {w t : List ℕ} → Word w → Ended t → ends (after 1 (w ++ t)) ≡ true
unfolding after next_of kind_of scanned byte_on
word_ends_1 a_wildcard e = e.star_first
word_ends_1 {t} (a_name {c} {v} h k) e = ap ends (on 1 c (v ++ t) (starts_from_1 c h) ∙ after_letters v t k) ∙ e.name_first

word_ends_4 : {w t : List ℕ} → Word w → Ended t → ends (after 4 (w ++ t)) ≡ true
unfolding after next_of kind_of scanned byte_on
word_ends_4 a_wildcard e = e.star_first
word_ends_4 {t} (a_name {c} {v} h k) e = ap ends (on 4 c (v ++ t) (starts_from_4 c h) ∙ after_letters v t k) ∙ e.name_first

slash-ended : (t : List ℕ) → ends (after 4 t) ≡ true → Ended (slash ∷ t)
unfolding after next_of kind_of scanned byte_on
slash-ended t e = record { star_first = e; name_first = e }

later_ended : {xs : List Step} {t : List ℕ} → Later xs t → Ended t
unfolding after next_of kind_of ends scanned byte_on
later_ended no_step = record { star_first = refl; name_first = refl }
later_ended (child {w} {t} h l) = slash-ended (w ++ t) (word_ends_4 h (later_ended l))
later_ended (descendant {w} {t} h l) = slash-ended (slash ∷ (w ++ t)) (word_ends_1 h (later_ended l))

-- the scan of right steps' text ends
pub whole-ends : {xs : List Step} {s : List ℕ} → Whole xs s → right_text s ≡ true
unfolding right_text after next_of kind_of scanned byte_on
whole-ends (first h l) = word_ends_1 h (later_ended l)

-- the other way: what is left of a right text, by its stage
pub data Left : ℕ → List ℕ → Type 0 where
  before_step : {w t : List ℕ} {xs : List Step} → Word w → Later xs t → Left 1 (w ++ t)
  behind_star : {t : List ℕ} {xs : List Step} → Later xs t → Left 2 t
  in_name : {t : List ℕ} {xs : List Step} (v : List ℕ) → all_go v ≡ true → Later xs t → Left 3 (v ++ t)
  a_child : {w t : List ℕ} {xs : List Step} → Word w → Later xs t → Left 4 (w ++ t)
  a_descendant : {w t : List ℕ} {xs : List Step} → Word w → Later xs t → Left 4 (slash ∷ (w ++ t))

star-before : {t : List ℕ} → Left 2 t → Left 1 (42 ∷ t)
star-before (behind_star l) = before_step a_wildcard l

start_before : {c : ℕ} {t : List ℕ} → starts c ≡ true → Left 3 t → Left 1 (c ∷ t)
start_before h (in_name v g l) = before_step (a_name h g) l

letter_before : {c : ℕ} {t : List ℕ} → goes c ≡ true → Left 3 t → Left 3 (c ∷ t)
unfolding all_go
letter_before {c} h (in_name v g l) = in_name (c ∷ v) (rw (h, g)) l

as_child : {t : List ℕ} → Left 1 t → Left 4 t
as_child (before_step w l) = a_child w l

slash-between : {t : List ℕ} → Left 1 t → Left 4 (slash ∷ t)
slash-between (before_step w l) = a_descendant w l

slash-behind-star : {t : List ℕ} → Left 4 t → Left 2 (slash ∷ t)
slash-behind-star (a_child w l) = behind_star (child w l)
slash-behind-star (a_descendant w l) = behind_star (descendant w l)

slash-behind-name : {t : List ℕ} → Left 4 t → Left 3 (slash ∷ t)
unfolding all_go
slash-behind-name (a_child w l) = in_name [] refl (child w l)
slash-behind-name (a_descendant w l) = in_name [] refl (descendant w l)

-- each stage that ends knows what it has left
pub record Reads (t : List ℕ) : Type 0 where
  pub from_1 : ends (after 1 t) ≡ true → Left 1 t
  pub from_2 : ends (after 2 t) ≡ true → Left 2 t
  pub from_3 : ends (after 3 t) ≡ true → Left 3 t
  pub from_4 : ends (after 4 t) ≡ true → Left 4 t

module _ (t : List ℕ) (r : Reads t) where
  reads_1 : {c k : ℕ} → Kind c k → ends (after (next_of 1 k) t) ≡ true → Left 1 (c ∷ t)
  unfolding next_of
  reads_1 a_slash e = lost-ends 5 t (omega arith) e
  reads_1 a_star e = star-before (r.from_2 e)
  reads_1 (a_start h) e = start_before h (r.from_3 e)
  reads_1 (a_letter h g) e = lost-ends 5 t (omega arith) e
  reads_1 (another h) e = lost-ends 5 t (omega arith) e

  reads_2 : {c k : ℕ} → Kind c k → ends (after (next_of 2 k) t) ≡ true → Left 2 (c ∷ t)
  unfolding next_of
  reads_2 a_slash e = slash-behind-star (r.from_4 e)
  reads_2 a_star e = lost-ends 5 t (omega arith) e
  reads_2 (a_start h) e = lost-ends 5 t (omega arith) e
  reads_2 (a_letter h g) e = lost-ends 5 t (omega arith) e
  reads_2 (another h) e = lost-ends 5 t (omega arith) e

  reads_3 : {c k : ℕ} → Kind c k → ends (after (next_of 3 k) t) ≡ true → Left 3 (c ∷ t)
  unfolding next_of
  reads_3 a_slash e = slash-behind-name (r.from_4 e)
  reads_3 a_star e = lost-ends 5 t (omega arith) e
  reads_3 (a_start {c} h) e = letter_before (starts-goes c h) (r.from_3 e)
  reads_3 (a_letter h g) e = letter_before g (r.from_3 e)
  reads_3 (another h) e = lost-ends 5 t (omega arith) e

  reads_4 : {c k : ℕ} → Kind c k → ends (after (next_of 4 k) t) ≡ true → Left 4 (c ∷ t)
  unfolding next_of
  reads_4 a_slash e = slash-between (r.from_1 e)
  reads_4 a_star e = as_child (star-before (r.from_2 e))
  reads_4 (a_start h) e = as_child (start_before h (r.from_3 e))
  reads_4 (a_letter h g) e = lost-ends 5 t (omega arith) e
  reads_4 (another h) e = lost-ends 5 t (omega arith) e

pub reads : (t : List ℕ) → Reads t
unfolding after ends all_go scanned byte_on
reads [] =
    record {
      from_1 = λ e. absurd (false≢true e);
      from_2 = λ e. behind_star no_step;
      from_3 = λ e. in_name [] refl no_step;
      from_4 = λ e. absurd (false≢true e);
    }
reads (c ∷ t) =
    record {
      from_1 = reads_1 t (reads t) (kind c);
      from_2 = reads_2 t (reads t) (kind c);
      from_3 = reads_3 t (reads t) (kind c);
      from_4 = reads_4 t (reads t) (kind c);
    }
