-- Wider is reflexive and transitive, and each single change of the request makes wider.
use Prim.Native.Nat.{ℕ, suc, ◌+◌, ◌*◌, ◌<◌}
use mathlib.Core.Path.{◌≡◌, refl, sym, ◌∙◌, ap}
use mathlib.Core.List.{List, [], ◌++◌, append_assoc, append-nil}
use mathlib.Core.Logic.{inl, inr}
use native.Mathlib.Decide.{ℕ_discrete}
use native.Mathlib.Omega.{arith}
use lib.ListN.{set, length-set}
use lib.Seq.{get_or-set_same, get_or-set_other}
use Rattle.tables.specs.Words.{steps, axis, label}
use Rattle.conflict.specs.Conflict.{Update, delete, insert}
use Rattle.wider.specs.Wider.{WiderLabel, WiderAxis, WiderPattern, WiderTree, WiderUpdate, deletes, inserts, Wider}

-- a label, an axis
label-on : {a b c : ℕ} → WiderLabel a b → WiderLabel b c → WiderLabel a c
label-on first (inr e) = inr e
label-on (inl d) (inl e) = inl (e ∙ d)
label-on (inr d) (inl e) = inr (e ∙ d)

axis-on : {a b c : ℕ} → WiderAxis a b → WiderAxis b c → WiderAxis a c
axis-on (inl d) (inl e) = inl (e ∙ d)
axis-on (inl d) (inr e) = inr (sym d ∙ e.0, e.1)
axis-on (inr d) (inl e) = inr (d.0, e ∙ d.1)
axis-on (inr d) (inr e) = inr (d.0, e.1)

-- patterns
pub pattern_itself : (p : List ℕ) → WiderPattern p p
pattern_itself p = record { long = refl; first = refl; axes = λ i h. inl refl; labels = λ i h. inl refl }

pub pattern-on : {p q s : List ℕ} → WiderPattern p q → WiderPattern q s → WiderPattern p s
pattern-on {p} {q} {s} a b = record {
  long = b.long ∙ a.long;
  first = b.first ∙ a.first;
  axes = λ i h. axis-on (a.axes i h) (b.axes i (rw a.long h));
  labels = λ i h. label-on (a.labels i h) (b.labels i (rw a.long h));
}

-- trees
pub tree_itself : (x : List ℕ) → WiderTree x x
tree_itself x = record { behind = []; words = sym (append-nil x) }

pub tree_on : {x y z : List ℕ} → WiderTree x y → WiderTree y z → WiderTree x z
tree_on {x} a b = record {
  behind = a.behind ++ b.behind;
  words = b.words ∙ ap (λ (w : List ℕ). w ++ b.behind) a.words ∙ append_assoc x a.behind b.behind;
}

-- updates
pub update_itself : (u : Update) → WiderUpdate u u
update_itself (delete p) = deletes (pattern_itself p)
update_itself (insert p x) = inserts (pattern_itself p) (tree_itself x)

pub update_on : {u v w : Update} → WiderUpdate u v → WiderUpdate v w → WiderUpdate u w
update_on (deletes a) (deletes b) = deletes (pattern-on a b)
update_on (inserts a x) (inserts b y) = inserts (pattern-on a b) (tree_on x y)

-- a read and an update
pub pair_itself : (r : List ℕ) (u : Update) → Wider r u r u
pair_itself r u = record { read = pattern_itself r; update = update_itself u }

pub pair_on : {r s t : List ℕ} {u v w : Update} → Wider r u s v → Wider s v t w → Wider r u t w
pair_on a b = record { read = pattern-on a.read b.read; update = update_on a.update b.update }

-- the label of step i is made a wildcard
pub wildcard_wider : (p : List ℕ) (i : ℕ) → WiderPattern p (set p (2 * i + 1) 0)
wildcard_wider p i = record {
  long = length-set p (2 * i + 1) 0;
  first = get_or-set_other p (2 * i + 1) 0 0 0 (λ e. omega arith);
  axes = λ k h. inl (get_or-set_other p (2 * i + 1) (2 * suc k) 0 0 (λ e. omega arith));
  labels = λ k h. go k h (ℕ_discrete k i);
}
  where
    go : (k : ℕ) → k < steps p → Dec (k ≡ i) → WiderLabel (label p k) (label (set p (2 * i + 1) 0) k)
    go k h (yes e) = inr (rw e (get_or-set_same p (2 * i + 1) 0 0 (omega arith)))
    go k h (no e) = inl (get_or-set_other p (2 * i + 1) (2 * k + 1) 0 0 (λ q. e (omega arith)))

-- a child step i is made a descendant step
pub descendant_wider : (p : List ℕ) (i : ℕ) → axis p (suc i) ≡ 1 → WiderPattern p (set p (2 * suc i) 2)
descendant_wider p i child = record {
  long = length-set p (2 * suc i) 2;
  first = get_or-set_other p (2 * suc i) 0 2 0 (λ e. omega arith);
  axes = λ k h. go k h (ℕ_discrete k i);
  labels = λ k h. inl (get_or-set_other p (2 * suc i) (2 * k + 1) 2 0 (λ e. omega arith));
}
  where
    go : (k : ℕ) → suc k < steps p → Dec (k ≡ i) → WiderAxis (axis p (suc k)) (axis (set p (2 * suc i) 2) (suc k))
    go k h (yes e) = inr (rw e child, rw e (get_or-set_same p (2 * suc i) 2 0 (omega arith)))
    go k h (no e) = inl (get_or-set_other p (2 * suc i) (2 * suc k) 2 0 (λ q. e (omega arith)))

-- nodes are added behind the last one
pub behind_wider : (x more : List ℕ) → WiderTree x (x ++ more)
behind_wider x more = record { behind = more; words = refl }
