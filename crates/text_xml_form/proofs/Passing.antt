-- The scan of elements: it comes back to what was open before them.
use Prim.Native.Nat.{ℕ, suc}
use mathlib.Core.Path.{◌≡◌, refl, ap, ◌∙◌}
use mathlib.Core.Bool.{true, ◌&&◌}
use mathlib.Core.List.{List, [], ◌∷◌, ◌++◌}
use native.Mathlib.Omega.{arith}
use Rattle.selection.proofs.Runs.{both}
use Rattle.text_parts.specs.Scans.{scanned}
use Rattle.text_parts.proofs.Starts.{scanned-append}
use Rattle.text_xml.specs.Tags.{short_tag, start_tag, end_tag}
use Rattle.text_xml_form.specs.Elements.{Elements, none, short, pair, written, label_right, labels_right, abreast}
use Rattle.text_xml_form.specs.Scan.{Stand, stand, next, standing}
use Rattle.text_xml_form.proofs.Steps.{first_open, inner_open, start_scanned, short_scanned, end_scanned}

-- the number behind elements: that of the last tag
unfoldable pub last_of : ℕ → Elements → ℕ
last_of v none = v
last_of v (short l more) = last_of l more
last_of v (pair l inside more) = last_of l more

-- a text and more behind it
then : (x y : Stand) (a s : List ℕ) → scanned next x a ≡ y → scanned next x (a ++ s) ≡ scanned next y s
then x y a s e = scanned-append next x a s ∙ ap (λ z. scanned next z s) e

-- elements inside another
pub passed : (e : Elements) → labels_right e ≡ true → (v k : ℕ) (ks : List ℕ) → scanned next (stand 6 v (k ∷ ks)) (written e) ≡ stand 6 (last_of v e) (k ∷ ks)
unfolding scanned written labels_right last_of
passed none r v k ks = refl
passed (short l more) r v k ks =
    both (label_right l) (labels_right more) r
    (λ a b. then (stand 6 v (k ∷ ks)) (stand 6 l (k ∷ ks)) (short_tag l) (written more) (short_scanned (stand 6 v (k ∷ ks)) v l a (k ∷ ks) (inner_open v k ks))
    ∙ passed more b l k ks)
passed (pair l inside more) r v k ks =
    both (label_right l) (labels_right inside && labels_right more) r
    (λ a r. both (labels_right inside) (labels_right more) r
    (λ b c. then (stand 6 v (k ∷ ks)) (stand 6 l (l ∷ k ∷ ks)) (start_tag l) (written inside ++ (end_tag l ++ written more))
    (start_scanned (stand 6 v (k ∷ ks)) v l a (k ∷ ks) (inner_open v k ks))
    ∙ then (stand 6 l (l ∷ k ∷ ks)) (stand 6 (last_of l inside) (l ∷ k ∷ ks)) (written inside) (end_tag l ++ written more) (passed inside b l l (k ∷ ks))
    ∙ then (stand 6 (last_of l inside) (l ∷ k ∷ ks)) (stand 6 l (k ∷ ks)) (end_tag l) (written more)
    (end_scanned (stand 6 (last_of l inside) (l ∷ k ∷ ks)) (last_of l inside) l a (k ∷ ks) (inner_open (last_of l inside) l (k ∷ ks)))
    ∙ passed more c l k ks))

-- none stands behind the root
none_behind : (e : Elements) → abreast e ≡ 0 → e ≡ none
unfolding abreast
none_behind none h = refl
none_behind (short l more) h = absurd (omega arith)
none_behind (pair l inside more) h = absurd (omega arith)

pub root-behind : (more : Elements) → suc (abreast more) ≡ 1 → more ≡ none
root-behind more h = none_behind more (omega arith)

-- the root alone, and nothing is open behind it
pub root-passed : (e : Elements) → labels_right e ≡ true → abreast e ≡ 1 → standing (written e) ≡ stand 6 (last_of 0 e) []
unfolding standing scanned written labels_right last_of abreast
root-passed none r h = absurd (omega arith)
root-passed (short l more) r h =
    rw (root-behind more h)
    (both (label_right l) (labels_right more) r
    (λ a b. then (stand 0 0 []) (stand 6 l []) (short_tag l) [] (short_scanned (stand 0 0 []) 0 l a [] first_open)))
root-passed (pair l inside more) r h =
    rw (root-behind more h)
    (both (label_right l) (labels_right inside && labels_right more) r
    (λ a r. both (labels_right inside) (labels_right more) r
    (λ b c. then (stand 0 0 []) (stand 6 l (l ∷ [])) (start_tag l) (written inside ++ (end_tag l ++ [])) (start_scanned (stand 0 0 []) 0 l a [] first_open)
    ∙ then (stand 6 l (l ∷ [])) (stand 6 (last_of l inside) (l ∷ [])) (written inside) (end_tag l ++ []) (passed inside b l l [])
    ∙ then (stand 6 (last_of l inside) (l ∷ [])) (stand 6 l []) (end_tag l) []
    (end_scanned (stand 6 (last_of l inside) (l ∷ [])) (last_of l inside) l a [] (inner_open (last_of l inside) l [])))))
