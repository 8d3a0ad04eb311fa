-- The chain of a way is a sound tree: node v hangs under the node before it, and the node whose labels up to the root are a rest of the way
-- has the number of the labels above it.
use Prim.Native.Nat.{ℕ, suc, pred, ◌+◌, ◌*◌, ◌<◌}
use native.Mathlib.Nat.{not-suc-le-zero}
use native.Mathlib.Omega.{arith}
use mathlib.Core.Path.{◌≡◌, refl, ◌∙◌, ap}
use mathlib.Core.List.{List, [], ◌∷◌, ◌++◌}
use lib.ListN.{length, get_or, length-append, get_or-append}
use lib.Seq.{append_snoc, get_or_at, get_or-append-add}
use Rattle.tables.specs.Words.{nodes, parent, tag}
use Rattle.tables.specs.Documents.{bare, Sound}
use Rattle.selection.specs.Ways.{up, sel, selected}
use Rattle.selection.proofs.Up.{Up, top, node, Falls, up_of}
use Rattle.selection.proofs.Selecting.{selected-present}
use Rattle.selection.proofs.Lists.{below_suc}
use Rattle.selection.proofs.Presence.{is_present, present_used}
use Rattle.conflict.specs.Crossing.{chain}
use Rattle.conflict.proofs.Steps.{Named}
use Rattle.conflict.proofs.Meeting.{Labels, none, more}

-- two words a node, and a node for each label
pub length-chain : (w : List ℕ) → length (chain w) ≡ 2 * length w
unfolding chain
length-chain [] = refl
length-chain (l ∷ w) = rw (length-append, length-chain w) (omega arith)

pub nodes-chain : (w : List ℕ) → nodes (chain w) ≡ length w
nodes-chain w = rw (length-chain w) (omega arith)

-- a word of the rest of the way is a word of the chain
chain_word_lem : (l : ℕ) (w : List ℕ) (i : ℕ) → i < 2 * length w → get_or (chain (l ∷ w)) i 0 ≡ get_or (chain w) i 0
unfolding chain
chain_word_lem l w i h = get_or-append (chain w) (pred (length w) ∷ l ∷ []) 0 i (rw (length-chain w) h)

-- the words of the nearest node
nearest-parent : (l : ℕ) (w : List ℕ) → parent (chain (l ∷ w)) (length w) ≡ pred (length w)
unfolding chain
nearest-parent l w = get_or_at (chain w) (pred (length w)) (l ∷ []) 0 (2 * length w) (length-chain w)

nearest-tag : (l : ℕ) (w : List ℕ) → tag (chain (l ∷ w)) (length w) ≡ l
unfolding chain
nearest-tag l w = rw (length-chain w) at (get_or-append-add (chain w) (pred (length w) ∷ l ∷ []) 1 0)

-- each node hangs under the one before it
pub chain-parent : (w : List ℕ) (v : ℕ) → v < length w → parent (chain w) v ≡ pred v
chain-parent [] v h = absurd (not-suc-le-zero h)
chain-parent (l ∷ w) v h = below_suc v (length w) h
    (λ less. chain_word_lem l w (2 * v) (omega arith) ∙ chain-parent w v less)
    (λ e. rw e (nearest-parent l w))

-- its label is that of the way
pub chain-tag : (y : List ℕ) (l : ℕ) (w : List ℕ) → tag (chain (y ++ l ∷ w)) (length w) ≡ l
chain-tag [] l w = nearest-tag l w
chain-tag (m ∷ y) l w =
    chain_word_lem m (y ++ l ∷ w) (2 * length w + 1) (rw (length-append y (l ∷ w)) (omega arith)) ∙ chain-tag y l w

chain-named : {w : List ℕ} → Labels w → (v : ℕ) → v < length w → Named (tag (chain w) v)
chain-named none v h = absurd (not-suc-le-zero h)
chain-named (more {l = l} {w = w} n labels) v h = below_suc v (length w) h
    (λ less. rw (chain_word_lem l w (2 * v + 1) (omega arith)) (chain-named labels v less))
    (λ e. rw (e, nearest-tag l w) n)

-- where the labels are labels and there are any, the chain is a sound tree
pub chain_sound : (w : List ℕ) → Labels w → 0 < length w → Sound (bare (chain w))
chain_sound w labels some =
    let all : nodes (chain w) ≡ length w = nodes-chain w in
    record {
      room = omega arith;
      root = is_present (bare (chain w)) 0 (omega arith) refl;
      top = chain-parent w 0 some;
      parents = λ v k h. rw (chain-parent w v (omega arith)) (omega arith);
      named = λ v h. (chain-named labels v (omega arith)).some;
      labels = λ v h. (chain-named labels v (omega arith)).word;
      closed = λ v k e.
          let h : v < nodes (chain w) = present_used (bare (chain w)) v e in
          is_present (bare (chain w)) (parent (chain w) v) (rw (chain-parent w v (omega arith)) (omega arith)) refl;
    }

-- the way of the node whose number is that of the labels above it is the rest of the way
chain_rest : (y : List ℕ) (l : ℕ) (w : List ℕ) → Up (chain (y ++ l ∷ w)) (length w) (l ∷ w)
chain_rest y l [] =
    let root : Up (chain (y ++ l ∷ [])) 0 (tag (chain (y ++ l ∷ [])) 0 ∷ []) = top in
    rw (chain-tag y l []) at root
chain_rest y l (m ∷ w) =
    let t : List ℕ = chain (y ++ l ∷ m ∷ w) in
    let under : parent t (suc (length w)) ≡ length w = chain-parent (y ++ l ∷ m ∷ w) (suc (length w)) (rw (length-append y (l ∷ m ∷ w)) (omega arith)) in
    let above : Up t (parent t (suc (length w))) (m ∷ w) = rw (under, ← append_snoc y l (m ∷ w)) (chain_rest (y ++ l ∷ []) m w) in
    let here : Up t (suc (length w)) (tag t (suc (length w)) ∷ m ∷ w) = node {v = suc (length w)} (omega arith) above in
    rw (chain-tag y l (m ∷ w)) at here

pub chain_way : (y : List ℕ) (l : ℕ) (w : List ℕ) → up (chain (y ++ l ∷ w)) (length w) ≡ l ∷ w
chain_way y l w = up_of (chain (y ++ l ∷ w)) (length (y ++ l ∷ w)) falls (rw (length-append y (l ∷ w)) (omega arith)) (chain_rest y l w)
  where
    falls : Falls (chain (y ++ l ∷ w)) (length (y ++ l ∷ w))
    falls v k h = rw (chain-parent (y ++ l ∷ w) v h) (omega arith)

-- so a pattern selects that node exactly if it selects at the end of the rest of the way
pub chain-selected : (p y : List ℕ) (l : ℕ) (w : List ℕ) → selected p (bare (chain (y ++ l ∷ w))) (length w) ≡ sel p (l ∷ w)
chain-selected p y l w =
    let inside : length w < nodes (chain (y ++ l ∷ w)) = rw (nodes-chain (y ++ l ∷ w), length-append y (l ∷ w)) (omega arith) in
    selected-present p (bare (chain (y ++ l ∷ w))) (length w) (is_present (bare (chain (y ++ l ∷ w))) (length w) inside refl)
    ∙ ap (sel p) (chain_way y l w)

-- for the last node that is the whole way
pub chain-last : (w : List ℕ) → 0 < length w → up (chain w) (pred (length w)) ≡ w
chain-last [] some = absurd (not-suc-le-zero some)
chain-last (l ∷ w) some = chain_way [] l w

pub chain-selected-last : (p w : List ℕ) → 0 < length w → selected p (bare (chain w)) (pred (length w)) ≡ sel p w
chain-selected-last p [] some = absurd (not-suc-le-zero some)
chain-selected-last p (l ∷ w) some = chain-selected p [] l w
