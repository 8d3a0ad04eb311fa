-- A tree as elements: what nodes are as elements, with their own nodes in the order of the start tags; their text, and that every tree has such.
use Prim.Native.Nat.{ℕ, zero, suc, ◌+◌, ◌<◌, ◌≤◌}
use mathlib.Core.Path.{◌≡◌, refl, sym, ap, ◌∙◌}
use mathlib.Core.Bool.{true}
use mathlib.Core.List.{List, [], ◌∷◌, ◌++◌, append_assoc, append-nil}
use native.Mathlib.Nat.{le_refl, sub-zero}
use native.Mathlib.Omega.{arith}
use lib.ListN.{length, length-append}
use Rattle.tables.specs.Words.{nodes, tag}
use Rattle.tables.specs.Documents.{bare, Sound}
use Rattle.selection.proofs.Up.{Falls}
use Rattle.text_xml.specs.Tags.{start_tag, end_tag, children, in_turn, element_of, tags_in, tags_of, tree_text}
use Rattle.text_xml_form.specs.Elements.{Elements, none, short, pair, written, labels_right, abreast, size, element}
use Rattle.text_xml_form.specs.Numbering.{starts_in, starts}
use Rattle.text_xml_form.proofs.Names.{to_label}
use Rattle.text_xml_form.proofs.Held.{node_size, node_abreast, node_labels, element_node}
use Rattle.text_xml_form.proofs.Ranges.{Rises, no_more, then, children-nodes}

-- these nodes of t are e, and in the order of their start tags they and those below them are these
pub data Drawn (t : List ℕ) : List ℕ → Elements → List ℕ → Type 0 where
  nothing : Drawn t [] none []
  drawn : {c : ℕ} {cs : List ℕ} {f more : Elements} {below others : List ℕ}
      → Drawn t (children t c) f below → Drawn t cs more others → Drawn t (c ∷ cs) (element (tag t c) f more) (c ∷ (below ++ others))

pub drawn_size : {t cs os : List ℕ} {e : Elements} → Drawn t cs e os → length os ≡ size e
unfolding size
drawn_size nothing = refl
drawn_size {t} (drawn {c = c} {f = f} {more = more} {below = below} {others = others} d r) =
    rw (node_size (element_node (tag t c) f more), length-append below others, drawn_size d, drawn_size r)

pub drawn_abreast : {t cs os : List ℕ} {e : Elements} → Drawn t cs e os → abreast e ≡ length cs
unfolding abreast
drawn_abreast nothing = refl
drawn_abreast {t} (drawn {c = c} {f = f} {more = more} d r) = node_abreast (element_node (tag t c) f more) ∙ ap suc (drawn_abreast r)

-- an element with elements inside is a pair
element_pair : (l k : ℕ) (f others more : Elements) → written (element l (element k f others) more) ≡ start_tag l ++ (written (element k f others) ++ (end_tag l ++ written more))
unfolding written
element_pair l k none others more = refl
element_pair l k (short j g) others more = refl
element_pair l k (pair j g h) others more = refl

-- a node is written as its element, where its children are written as those inside
element-written : {t cs os : List ℕ} {f : Elements} → Drawn t cs f os → (l : ℕ) (text : ℕ → List ℕ) (more : Elements)
    → in_turn text cs ≡ written f → element_of l text cs ++ written more ≡ written (element l f more)
unfolding element_of written
element-written nothing l text more e = refl
element-written {t} (drawn {c = c} {f = f} {more = others} d r) l text more e =
    rw e (simp append_assoc) ∙ sym (element_pair l (tag t c) f others more)

-- what nodes of t are, and in which order
pub record Made (t cs : List ℕ) : Type 0 where
  pub elements : Elements
  pub order : List ℕ
  pub is : Drawn t cs elements order

-- nodes that rise from m on
abbrev pub Siblings : List ℕ → ℕ → List ℕ → Type 0
Siblings t m cs = Rises (λ c. c < nodes t) m cs

module _ (t : List ℕ) (falls : Falls t (nodes t)) where
  pub inner : (c : ℕ) → c < nodes t → Siblings t (suc c) (children t c)
  inner c h = children-nodes t falls c h

  -- their text, and their own nodes, with levels enough
  drawn_written : {cs os : List ℕ} {e : Elements} → Drawn t cs e os → (n m : ℕ) → Siblings t m cs → nodes t ≤ m + n → in_turn (tags_in t n) cs ≡ written e
  unfolding in_turn written tags_in
  drawn_written nothing n m r h = refl
  drawn_written (drawn d o) zero m (then a b r) h = absurd (omega arith)
  drawn_written (drawn {c = c} {more = more} d o) (suc n) m (then a b r) h =
      rw (drawn_written o (suc n) (suc c) r (omega arith))
      (element-written d (tag t c) (tags_in t n) more (drawn_written d n (suc c) (inner c b) (omega arith)))

  pub drawn_starts : {cs os : List ℕ} {e : Elements} → Drawn t cs e os → (n m : ℕ) → Siblings t m cs → nodes t ≤ m + n → in_turn (starts_in t n) cs ≡ os
  unfolding in_turn starts_in
  drawn_starts nothing n m r h = refl
  drawn_starts (drawn d o) zero m (then a b r) h = absurd (omega arith)
  drawn_starts (drawn {c = c} d o) (suc n) m (then a b r) h =
      rw (drawn_starts d n (suc c) (inner c b) (omega arith), drawn_starts o (suc n) (suc c) r (omega arith))

  -- nodes are elements, each with its children inside it
  make_each : {cs : List ℕ} (m : ℕ) → Siblings t m cs → ((c : ℕ) → m ≤ c → c < nodes t → Made t (children t c)) → Made t cs
  make_each m no_more make = record { elements = none; order = []; is = nothing }
  make_each m (then {c = c} a b r) make =
      let d = make c a b in
      let o = make_each (suc c) r (λ k h l. make k (omega arith) l) in
      record { elements = element (tag t c) d.elements o.elements; order = c ∷ (d.order ++ o.order); is = drawn d.is o.is }

  pub make : (n c : ℕ) → c < nodes t → nodes t ≤ c + n → Made t (children t c)
  make zero c h l = absurd (omega arith)
  make (suc n) c h l = make_each (suc c) (inner c h) (λ k a b. make n k b (omega arith))

  -- of the root: the text of the tree, and all its nodes
  module _ (some : 0 < nodes t) where
    pub only_root : Siblings t 0 (0 ∷ [])
    only_root = then (le_refl 0) some no_more

    pub tree_written : {os : List ℕ} {e : Elements} → Drawn t (0 ∷ []) e os → tree_text t ≡ written e
    unfolding tree_text tags_of in_turn
    tree_written d = rw sub-zero (sym (append-nil (tags_in t (nodes t) 0)) ∙ drawn_written d (nodes t) 0 only_root (omega arith))

    pub tree_starts : {os : List ℕ} {e : Elements} → Drawn t (0 ∷ []) e os → starts t ≡ os
    unfolding starts in_turn
    tree_starts d = sym (append-nil (starts_in t (nodes t) 0)) ∙ drawn_starts d (nodes t) 0 only_root (omega arith)

    pub made : Made t (0 ∷ [])
    made = make_each 0 only_root (λ c a b. make (nodes t) c b (omega arith))

-- labels are right
module _ (t : List ℕ) (sound : Sound (bare t)) where
  pub drawn_labels : {cs os : List ℕ} {e : Elements} → Drawn t cs e os → (m : ℕ) → Siblings t m cs → labels_right e ≡ true
  unfolding labels_right
  drawn_labels nothing m r = refl
  drawn_labels (drawn {c = c} {f = f} {more = more} d o) m (then a b r) =
      let own = to_label (tag t c) (sound.named c b) (sound.labels c b) in
      rw (node_labels (element_node (tag t c) f more), own, drawn_labels d (suc c) (inner t sound.parents c b), drawn_labels o (suc c) r)
