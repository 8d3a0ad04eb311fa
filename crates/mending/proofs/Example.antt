-- Four nodes: a with mark 255, its child b with mark 2, c below that b and a child d of a, both with mark 0. The first two marks and that of c end up different.
use Prim.Native.Nat.{ℕ}
use mathlib.Core.Path.{◌≡◌, refl}
use mathlib.Core.List.{List, [], ◌∷◌}
use Rattle.tables.specs.Documents.{Doc, doc}
use Rattle.selection.specs.Lists.{tab, count}
use Rattle.mending.specs.Mending.{evened, gone_up, mended_mark, mended_marks, changed, changes, change_words, change_list}

abbrev pub four : Doc
four = doc (0 ∷ 1 ∷ 0 ∷ 2 ∷ 1 ∷ 3 ∷ 0 ∷ 4 ∷ []) (255 ∷ 2 ∷ 0 ∷ 0 ∷ 7 ∷ []) 4

pub four_marks : mended_marks four ≡ 0 ∷ 1 ∷ 1 ∷ 0 ∷ 7 ∷ []
unfolding mended_marks mended_mark gone_up evened tab
four_marks = refl

pub four-changes : changes four ≡ 3
unfolding changes changed mended_mark gone_up evened count
four-changes = refl

pub four_list : (a b c d e f g h i : ℕ) (rest : List ℕ) →
    change_list four (a ∷ b ∷ c ∷ d ∷ e ∷ f ∷ g ∷ h ∷ i ∷ rest) ≡ 0 ∷ 255 ∷ 0 ∷ 1 ∷ 2 ∷ 1 ∷ 2 ∷ 0 ∷ 1 ∷ rest
unfolding change_list change_words changes changed mended_mark gone_up evened count
four_list a b c d e f g h i rest = refl
