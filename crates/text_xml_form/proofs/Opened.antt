-- What has been read of a right text up to the tag that it stands in: open elements, each with elements inside it.
use Prim.Native.Nat.{ℕ}
use mathlib.Core.Path.{◌≡◌, refl, sym}
use mathlib.Core.Bool.{true, ◌&&◌}
use mathlib.Core.List.{List, [], ◌∷◌, ◌++◌, append_assoc, append-nil}
use Rattle.selection.proofs.Runs.{both}
use Rattle.text_parts.specs.Starts.{Begins}
use Rattle.text_xml.specs.Tags.{short_tag, start_tag, end_tag}
use Rattle.text_xml_form.specs.Elements.{Elements, none, short, pair, written, label_right, labels_right, abreast, RightTags}

-- elements behind others
unfoldable pub behind : Elements → Elements → Elements
behind none e = e
behind (short l more) e = short l (behind more e)
behind (pair l inside more) e = pair l inside (behind more e)

pub behind-written : (f e : Elements) → written (behind f e) ≡ written f ++ written e
unfolding behind written
behind-written none e = refl
behind-written (short l more) e = rw (behind-written more e) (sym (append_assoc (short_tag l) (written more) (written e)))
behind-written (pair l inside more) e = rw (behind-written more e) (simp append_assoc)

pub behind_right : (f e : Elements) → labels_right f ≡ true → labels_right e ≡ true → labels_right (behind f e) ≡ true
unfolding behind labels_right
behind_right none e a b = b
behind_right (short l more) e a b = both (label_right l) (labels_right more) a (λ c d. rw (c, behind_right more e d b))
behind_right (pair l inside more) e a b =
    both (label_right l) (labels_right inside && labels_right more) a
    (λ c r. both (labels_right inside) (labels_right more) r (λ d g. rw (c, d, behind_right more e g b)))

-- the labels of the open elements, the innermost first, and the text of them and of what stands inside so far
pub data Open : List ℕ → List ℕ → Type 0 where
  outside : Open [] []
  within : {ls a : List ℕ} → Open ls a → (l : ℕ) → label_right l ≡ true → (f : Elements) → labels_right f ≡ true → Open (l ∷ ls) (a ++ (start_tag l ++ written f))

-- one element with right labels
pub record One (e : Elements) : Type 0 where
  pub one : abreast e ≡ 1
  pub labels : labels_right e ≡ true

pub short_one : (l : ℕ) → label_right l ≡ true → One (short l none)
unfolding abreast labels_right
short_one l r = record { one = refl; labels = rw r }

pub pair_one : (l : ℕ) (f : Elements) → label_right l ≡ true → labels_right f ≡ true → One (pair l f none)
unfolding abreast labels_right
pair_one l f r h = record { one = refl; labels = rw (r, h) }

-- the text of one element with nothing behind it
pub short_written : (l : ℕ) → written (short l none) ≡ short_tag l
unfolding written
short_written l = append-nil (short_tag l)

pub pair_written : (a : List ℕ) (l : ℕ) (f : Elements) → (a ++ (start_tag l ++ written f)) ++ end_tag l ≡ a ++ written (pair l f none)
unfolding written
pair_written a l f = simp (append_assoc, append-nil)

-- an element more inside the innermost
pub inside_written : (a : List ℕ) (l : ℕ) (f e : Elements) → (a ++ (start_tag l ++ written f)) ++ written e ≡ a ++ (start_tag l ++ written (behind f e))
inside_written a l f e = rw (behind-written f e) (simp append_assoc)

-- what is open can be closed behind an element more
pub closed : {ls a : List ℕ} → Open ls a → (e : Elements) → One e → Begins RightTags (a ++ written e)
closed outside e h =
    record { rest = []; right = record { root = e; one = h.one; labels = h.labels; spelled = append-nil (written e) } }
closed (within {a = a} o l r f g) e h =
    let p = pair l (behind f e) none in
    let b = closed o p (pair_one l (behind f e) r (behind_right f e g h.labels)) in
    let same : ((a ++ (start_tag l ++ written f)) ++ written e) ++ (end_tag l ++ b.rest) ≡ (a ++ written p) ++ b.rest
    = rw (inside_written a l f e, ← append_assoc (a ++ (start_tag l ++ written (behind f e))) (end_tag l) b.rest, pair_written a l (behind f e)) in
    record { rest = end_tag l ++ b.rest; right = rw same b.right }
