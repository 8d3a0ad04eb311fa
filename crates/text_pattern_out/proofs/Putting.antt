-- A text at the front of a buffer, and the next behind it.
use Prim.Native.Nat.{ℕ, ◌+◌, ◌-◌, ◌<◌, ◌≤◌}
use mathlib.Core.Path.{◌≡◌, refl, sym, ◌∙◌, ap}
use mathlib.Core.List.{List, [], ◌∷◌, ◌++◌, append_assoc, append-nil}
use native.Mathlib.Omega.{arith}
use lib.ListN.{length, get_or, take, drop, set, length-append, length-drop}
use lib.Seq.{drop-drop, take_at, drop_at, get_or-drop}
use Rattle.tables.specs.Words.{steps, axis, label}
use Rattle.selection.specs.Lists.{tab, front}
use Rattle.selection.proofs.Lists.{length-behind, rest_whole, rest_none, front-take}
use Rattle.text_parts.specs.Next.{next}
use Rattle.text_names.specs.Names.{feed, lines}
use Rattle.text_pattern.specs.Texts.{slash, slashes}
use Rattle.text_pattern.specs.Meaning.{word_of, text_of}
use Rattle.text_pattern_out.specs.Lookup.{NameFrom}
use Rattle.text_pattern_out.specs.Steps.{step_text, first_steps, Put}
use Rattle.text_pattern_out.proofs.Lookup.{name_found, name-within}
use Rattle.text_pattern_out.proofs.Rooms.{word_long}
use Rattle.text_pattern_out.proofs.Steps.{slashes_two, slashes_one, slashes_some, word_star, word_name, length-step, first_all, first_none, first_more, step-within}

-- one byte at the front, and two
set_one : (c : ℕ) (out : List ℕ) → 1 ≤ length out → set out 0 c ≡ (c ∷ []) ++ drop 1 out
set_one c [] h = absurd (omega arith)
set_one c (x ∷ xs) h = refl

set_two : (c d : ℕ) (out : List ℕ) → 2 ≤ length out → set (set out 0 c) 1 d ≡ (c ∷ d ∷ []) ++ drop 2 out
set_two c d [] h = absurd (omega arith)
set_two c d (x ∷ []) h = absurd (omega arith)
set_two c d (x ∷ y ∷ xs) h = refl

module _ (a : ℕ) (out : List ℕ) (room : length (slashes a) ≤ length out) where
  pub one_room : 0 < length out
  one_room = omega (arith, room, slashes_some a)

  pub put_one : (a ≡ 2 → ⊥) → Put (slashes a) out (set out 0 slash) 1
  put_one h = record { long = rw (slashes_one h); written = rw (slashes_one h) (set_one slash out one_room) }

  module _ (e : a ≡ 2) where
    pub two_room : 1 < length out
    two_room = rw (slashes_two e) at room

    pub put_two : Put (slashes a) out (set (set out 0 slash) 1 slash) 2
    put_two = record { long = rw (slashes_two e); written = rw (slashes_two e) (set_two slash slash out two_room) }

-- bytes of the list, written from the front
module _ (list : List ℕ) (from : ℕ) where
  abbrev pub byte_from : ℕ → ℕ
  byte_from k = get_or (drop from list) k 0

  pub copied_byte : {c : ℕ} (k : ℕ) → c ≡ get_or list (from + k) 0 → c ≡ byte_from k
  copied_byte k e = e ∙ sym (get_or-drop from list k 0)

  pub copied_end : {out : List ℕ} (old : List ℕ) (n : ℕ) → from + n ≤ length list → out ≡ tab byte_from n ++ drop n old → out ≡ take n (drop from list) ++ drop n old
  unfolding front
  copied_end old n h e =
      let m : n ≤ length (drop from list) = rw length-drop (omega arith) in
      e ∙ ap (λ (t : List ℕ). t ++ drop n old) (front-take n (drop from list) m)

-- a label's word
module _ (list : List ℕ) (l : ℕ) (out : List ℕ) (room : length (word_of (lines list) l) ≤ length out) where
  module _ (e : l ≡ 0) where
    pub star_room : 1 ≤ length out
    star_room = rw (word_star (lines list) l e) at room

    pub put-star : Put (word_of (lines list) l) out (set out 0 42) 1
    put-star = record { long = rw (word_star (lines list) l e); written = rw (word_star (lines list) l e) (set_one 42 out star_room) }

  module _ (h : l ≡ 0 → ⊥) (m : l ≤ length (lines list)) {from n : ℕ} (e : NameFrom list (l - 1) from) (is : n ≡ next feed list from - from) where
    pub word_within : (from + n ≤ length list) × (n ≤ length out)
    word_within = (name-within list e (omega arith) is, omega (arith, room, word_long list l h m e is))

    pub put-named : {after : List ℕ} → after ≡ take n (drop from list) ++ drop n out → Put (word_of (lines list) l) out after n
    put-named a =
        record { long = word_long list l h m e is; written = a ∙ rw (name_found list e (omega arith) is, word_name (lines list) l h) }

-- a text that is put into the rest stands behind the first
module _ (first second before : List ℕ) {out : List ℕ} {s : ℕ} (e : Put first before out s) where
  pub put_room : length first + length second ≤ length before → length second ≤ length (take (length out - s) (drop s out))
  put_room h = rw (rest_whole out s, length-drop, e.written, length-behind first before s (sym e.long)) (omega (arith, e.long))

  pub put-behind : {rest : List ℕ} {w : ℕ} → Put second (take (length out - s) (drop s out)) rest w → Put (first ++ second) before (take s out ++ (rest ++ drop (length out - s) (drop s out))) (s + w)
  put-behind {rest} {w} f =
      let seam : length first ≡ s = sym e.long in
      let ahead : take s out ≡ first = rw e.written (take_at first (drop s before) s seam) in
      let behind : drop s out ≡ drop s before = rw e.written (drop_at first (drop s before) s seam) in
      let written : rest ≡ second ++ drop (s + w) before = f.written ∙ rw (rest_whole out s, behind, drop-drop) in
      record {
        long = rw (length-append first second, e.long, f.long);
        written = rw (rest_none out s, ahead, append-nil, written) (sym (append_assoc first second (drop (s + w) before)));
      }

pub put_long : (text before : List ℕ) {out : List ℕ} {n : ℕ} → Put text before out n → length text ≤ length before → length out ≡ length before
put_long text before {n = n} e h = rw e.written (length-behind text before n (sym e.long) ∙ omega (arith, e.long))

pub put_seam : (text before : List ℕ) {out : List ℕ} {n : ℕ} → Put text before out n → length text ≤ length before → n ≤ length out
put_seam text before e h = omega (arith, e.long, put_long text before e h)

-- a step: its slashes, and its word behind them
module _ (ws : List (List ℕ)) (a l : ℕ) (before : List ℕ) (room : length (step_text ws a l) ≤ length before) where
  pub step-slashes : length (slashes a) ≤ length before
  step-slashes = omega (arith, room, length-step ws a l)

  module _ {out : List ℕ} {s : ℕ} (e : Put (slashes a) before out s) where
    pub step_seam : s ≤ length out
    step_seam = put_seam (slashes a) before e step-slashes

    pub step_word : length (word_of ws l) ≤ length (take (length out - s) (drop s out))
    step_word = put_room (slashes a) (word_of ws l) before e (omega (arith, room, length-step ws a l))

    module _ {rest : List ℕ} {w : ℕ} (f : Put (word_of ws l) (take (length out - s) (drop s out)) rest w) where
      pub step-put : Put (step_text ws a l) before (take s out ++ (rest ++ drop (length out - s) (drop s out))) (s + w)
      unfolding step_text
      step-put = put-behind (slashes a) (word_of ws l) before e f

      pub step_sum : s + w ≤ length before
      step_sum = omega (arith, room, length-step ws a l, e.long, f.long)

-- the first i steps at the front, and one more behind them
module _ (ws : List (List ℕ)) (p before : List ℕ) where
  pub steps_start : Put (first_steps ws p 0) before before 0
  steps_start = record { long = rw (first_none ws p); written = rw (first_none ws p) }

  module _ {out : List ℕ} (i : ℕ) {at : ℕ} (e : Put (first_steps ws p i) before out at) where
    module _ {a l : ℕ} (below : i < steps p) (room : length (text_of ws p) ≤ length before) (axed : a ≡ axis p i) (labelled : l ≡ label p i) where
      pub steps-within : at + length (step_text ws a l) ≤ length before
      steps-within = rw (axed, labelled) (omega (arith, e.long, step-within ws p i below))

      pub steps_room : length (step_text ws a l) ≤ length (take (length out - at) (drop at out))
      steps_room = put_room (first_steps ws p i) (step_text ws a l) before e (omega (arith, e.long, steps-within))

    pub steps_more : {a l : ℕ} → a ≡ axis p i → l ≡ label p i → {rest : List ℕ} {w : ℕ} → Put (step_text ws a l) (take (length out - at) (drop at out)) rest w
        → Put (first_steps ws p (i + 1)) before (take at out ++ (rest ++ drop (length out - at) (drop at out))) (at + w)
    steps_more {a} {l} axed labelled f =
        rw (first_more ws p i, ← axed, ← labelled) (put-behind (first_steps ws p i) (step_text ws a l) before e f)

    pub steps_end : i ≤ steps p → steps p ≤ i → Put (text_of ws p) before out at
    steps_end h m =
        let same : i ≡ steps p = omega arith in
        rw (← first_all ws p, ← same) e
