-- Names written as lines, and a list as the lines that it is made of.
use Prim.Native.Nat.{ℕ, suc, ◌<◌, zero-le, suc-le-suc}
use mathlib.Core.Path.{◌≡◌, refl, sym, ◌∙◌, ap}
use mathlib.Core.Bool.{Bool, true, false, false≢true}
use mathlib.Core.List.{List, [], ◌∷◌, ◌++◌, append_assoc, append-nil}
use native.Mathlib.Omega.{arith}
use lib.Dec.{eqb}
use lib.ListN.{length, get_or}
use borrow.Author.Tests.{eqb-true, ne_eqb}
use Rattle.selection.proofs.Runs.{both}
use Rattle.text_names.specs.Letters.{between, start_char, name_char, starts, goes, all_go, name}
use Rattle.text_names.specs.Names.{feed, lines_of, Names, lines, ended}
use Rattle.text_names.proofs.Naming.{starts-goes}
use Rattle.text_names.proofs.Lines.{some_line, ended-append, ended-feed}

-- every byte of a name may continue one, and a line feed may not
name-goes : (w : List ℕ) → name w ≡ true → all_go w ≡ true
unfolding name all_go
name-goes [] e = refl
name-goes (c ∷ w) e = both (starts c) (all_go w) e (λ h k. rw (starts-goes c h, k))

feed_stops : goes feed ≡ false
unfolding goes name_char start_char between
feed_stops = refl

no_feed : (c : ℕ) → goes c ≡ true → eqb c feed ≡ false
no_feed c h = ne_eqb c feed (λ e. false≢true (sym feed_stops ∙ rw e at h))

-- a line goes up to its line feed
line_first : (w rest : List ℕ) → all_go w ≡ true → lines (w ++ (feed ∷ rest)) ≡ w ∷ lines rest
unfolding lines all_go
line_first [] rest e = refl
line_first (c ∷ w) rest e = both (goes c) (all_go w) e (λ h k. rw (no_feed c h, line_first w rest k))

lines-named : (ws : List (List ℕ)) → ((k : ℕ) → k < length ws → name (get_or ws k []) ≡ true) → (rest : List ℕ) → lines (lines_of ws ++ rest) ≡ ws ++ lines rest
unfolding lines_of
lines-named [] named rest = refl
lines-named (w ∷ ws) named rest =
    rw (
      append_assoc w (feed ∷ lines_of ws) rest,
      line_first w (lines_of ws ++ rest) (name-goes w (named 0 (suc-le-suc zero-le))),
      lines-named ws (λ k h. named (suc k) (suc-le-suc h)) rest,
    )

-- the lines of names that are written are the names; behind them the lines go on
pub lines_rest : (ws : List (List ℕ)) → Names ws → (rest : List ℕ) → lines (lines_of ws ++ rest) ≡ ws ++ lines rest
lines_rest ws names rest = lines-named ws names.named rest

pub lines-written : (ws : List (List ℕ)) → Names ws → lines (lines_of ws) ≡ ws
unfolding lines
lines-written ws names = ap lines (sym (append-nil (lines_of ws))) ∙ lines_rest ws names [] ∙ append-nil ws

-- names that are written are ended
lines-ended : (ws : List (List ℕ)) → ended (lines_of ws) ≡ true
unfolding lines_of ended
lines-ended [] = refl
lines-ended (w ∷ ws) =
    rw (sym (append_assoc w (feed ∷ []) (lines_of ws)))
    (ended-append (w ++ (feed ∷ [])) (lines_of ws) (ended-feed w) ∙ lines-ended ws)

pub ended-written : (ws : List (List ℕ)) (rest : List ℕ) → ended (lines_of ws ++ rest) ≡ ended rest
ended-written ws rest = ended-append (lines_of ws) rest (lines-ended ws)

pub written-append : (ws more : List (List ℕ)) → lines_of (ws ++ more) ≡ lines_of ws ++ lines_of more
unfolding lines_of
written-append [] more = refl
written-append (w ∷ ws) more = rw (written-append ws more) (sym (append_assoc w (feed ∷ lines_of ws) (lines_of more)))

-- a list is its lines, and what stands behind the last line feed
pub record Cut (l : List ℕ) : Type 0 where
  pub rest : List ℕ
  pub written : l ≡ lines_of (lines l) ++ rest
  pub loose : lines rest ≡ []

module _ (c : ℕ) (s : List ℕ) where
  cut_feed : eqb c feed ≡ true → Cut s → Cut (c ∷ s)
  unfolding lines lines_of
  cut_feed e r =
      let whole = r.written in
      record { rest = r.rest; written = rw (e, eqb-true c feed e) (ap (λ (t : List ℕ). feed ∷ t) whole); loose = r.loose }

  cut_byte : eqb c feed ≡ false → (ws : List (List ℕ)) → lines s ≡ ws → Cut s → Cut (c ∷ s)
  unfolding lines lines_of
  cut_byte e [] is r = record { rest = c ∷ s; written = rw (e, is); loose = rw (e, is) }
  cut_byte e (w ∷ ws) is r =
      let whole : s ≡ lines_of (w ∷ ws) ++ r.rest = r.written ∙ rw is in
      record { rest = r.rest; written = rw (e, is) (ap (λ (t : List ℕ). c ∷ t) whole); loose = r.loose }

pub cut : (l : List ℕ) → Cut l
unfolding lines lines_of
cut [] = record { rest = []; written = refl; loose = refl }
cut (c ∷ s) = go (eqb c feed) refl (cut s)
  where
    go : (b : Bool) → eqb c feed ≡ b → Cut s → Cut (c ∷ s)
    go true e r = cut_feed c s e r
    go false e r = cut_byte c s e (lines s) refl r

-- bytes without a line feed are ended only where there are none
pub loose_empty : (s : List ℕ) → lines s ≡ [] → ended s ≡ true → s ≡ []
loose_empty [] none e = refl
loose_empty (c ∷ s) none e = absurd (some_line (λ ls. ls ≡ [] → ⊥) c s e (λ w ws is. no_cons w ws is) none)
  where
    no_cons : (w : List ℕ) (ws : List (List ℕ)) → w ∷ ws ≡ [] → ⊥
    no_cons w ws is = let z : ◌≡◌ {A = ℕ} 0 1 = cc in absurd (omega arith)
