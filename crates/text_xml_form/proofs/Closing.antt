-- From wherever the scan stands and is not lost, some rest makes the text right.
use Prim.Native.Nat.{ℕ, ◌<◌}
use mathlib.Core.Path.{◌≡◌, refl, sym, ap, ◌∙◌}
use mathlib.Core.Bool.{true, false≢true}
use mathlib.Core.List.{List, [], ◌∷◌, ◌++◌, append_assoc}
use native.Mathlib.Omega.{arith}
use Rattle.text_parts.specs.Starts.{Begins}
use Rattle.text_parts.proofs.Starts.{begins_front}
use Rattle.tables.specs.Limits.{word_limit}
use Rattle.text_xml.specs.Decimal.{decimal}
use Rattle.text_xml.specs.Tags.{element_name, short_tag, end_tag}
use Rattle.text_xml_form.specs.Elements.{none, short, pair, label_right, RightTags}
use Rattle.text_xml_form.specs.Scan.{stand, leads, on}
use Rattle.text_xml_form.proofs.Names.{to_label, Name, no_digit, digits, leads_rest}
use Rattle.text_xml_form.proofs.Opened.{Open, outside, within, short_one, pair_one, short_written, pair_written, closed}
use Rattle.text_xml_form.proofs.Stands.{Stands, before_root, behind_less, in_name, behind_slash, in_end, in_end_name, behind_tag, behind_root, nowhere}

-- a short tag, or the end tag of the innermost, can follow
short_closed : {ls a : List ℕ} (l : ℕ) → Open ls a → label_right l ≡ true → Begins RightTags (a ++ short_tag l)
short_closed l o r = rw (short_written l) at (closed o (short l none) (short_one l r))

end_closed : {l : ℕ} {ls a : List ℕ} → Open (l ∷ ls) a → Begins RightTags (a ++ end_tag l)
end_closed (within {a = a} o l r f g) = rw (pair_written a l f) (closed o (pair l f none) (pair_one l f r g))

-- and so can each start of it
front : (a p r t : List ℕ) → p ++ r ≡ t → Begins RightTags (a ++ t) → Begins RightTags (a ++ p)
front a p r t e b = begins_front RightTags (a ++ p) r (rw (append_assoc a p r, e) b)

less_closed : {ls a : List ℕ} → Open ls a → Begins RightTags (a ++ (60 ∷ []))
unfolding short_tag element_name
less_closed {a = a} o = front a (60 ∷ []) (110 ∷ (decimal 1 ++ (47 ∷ 62 ∷ []))) (short_tag 1) refl (short_closed 1 o (to_label 1 (omega arith) (omega arith)))

name_closed : {ls a : List ℕ} {v : ℕ} {w : List ℕ} → Open ls a → Name v w → v < word_limit → Begins RightTags (a ++ (60 ∷ 110 ∷ w))
unfolding short_tag element_name
name_closed {a = a} o no_digit b =
    front a (60 ∷ 110 ∷ []) (decimal 1 ++ (47 ∷ 62 ∷ [])) (short_tag 1) refl (short_closed 1 o (to_label 1 (omega arith) (omega arith)))
name_closed {a = a} o (digits v h) b = front a (60 ∷ 110 ∷ decimal v) (47 ∷ 62 ∷ []) (short_tag v) refl (short_closed v o (to_label v h b))

slash_closed : {ls a : List ℕ} (v : ℕ) → Open ls a → label_right v ≡ true → Begins RightTags (a ++ (60 ∷ 110 ∷ (decimal v ++ (47 ∷ []))))
unfolding short_tag element_name
slash_closed {a = a} v o r =
    front a (60 ∷ 110 ∷ (decimal v ++ (47 ∷ []))) (62 ∷ []) (short_tag v) (ap (λ s. 60 ∷ 110 ∷ s) (append_assoc (decimal v) (47 ∷ []) (62 ∷ []))) (short_closed v o r)

end_less_closed : {l : ℕ} {ls a : List ℕ} → Open (l ∷ ls) a → Begins RightTags (a ++ (60 ∷ 47 ∷ []))
unfolding end_tag element_name
end_less_closed {l} {a = a} o = front a (60 ∷ 47 ∷ []) (110 ∷ (decimal l ++ (62 ∷ []))) (end_tag l) refl (end_closed o)

end_name_closed : {l v : ℕ} {ls a w : List ℕ} → Open (l ∷ ls) a → Name v w → (0 < v → leads v l ≡ true) → Begins RightTags (a ++ (60 ∷ 47 ∷ 110 ∷ w))
unfolding end_tag element_name
end_name_closed {l} {a = a} o no_digit b = front a (60 ∷ 47 ∷ 110 ∷ []) (decimal l ++ (62 ∷ [])) (end_tag l) refl (end_closed o)
end_name_closed {l} {a = a} o (digits v h) b =
    let r = leads_rest v l (b h) in
    front a (60 ∷ 47 ∷ 110 ∷ decimal v) (r.rest ++ (62 ∷ [])) (end_tag l)
    (ap (λ s. 60 ∷ 47 ∷ 110 ∷ s) (sym (append_assoc (decimal v) r.rest (62 ∷ [])) ∙ ap (λ s. s ++ (62 ∷ [])) r.whole))
    (end_closed o)

tag_closed : {l : ℕ} {ls a : List ℕ} → Open (l ∷ ls) a → Begins RightTags a
tag_closed {l} {a = a} o = begins_front RightTags a (end_tag l) (end_closed o)

-- wherever the scan stands
pub stands_begins : {q v : ℕ} {ls s : List ℕ} → Stands q v ls s → on (stand q v ls) ≡ true → Begins RightTags s
unfolding on
stands_begins before_root e = begins_front RightTags [] (60 ∷ []) (less_closed outside)
stands_begins (behind_less o) e = less_closed o
stands_begins (in_name o n b) e = name_closed o n b
stands_begins (behind_slash {v} o r) e = slash_closed v o r
stands_begins (in_end o) e = end_less_closed o
stands_begins (in_end_name o n b) e = end_name_closed o n b
stands_begins (behind_tag o) e = tag_closed o
stands_begins (behind_root x h) e = closed outside x h
stands_begins nowhere e = absurd (false≢true e)
