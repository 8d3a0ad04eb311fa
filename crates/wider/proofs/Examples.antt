-- The converse fails: a wider pair may conflict where the narrow one does not; by each of the changes.
use Prim.Native.Nat.{ℕ}
use mathlib.Core.Path.{◌≡◌, refl, sym, ◌∙◌}
use mathlib.Core.Bool.{true, false, false≢true}
use mathlib.Core.List.{List, [], ◌∷◌}
use mathlib.Core.Logic.{inl}
use Rattle.tables.specs.Checks.{pattern_check, size_check, each, axis_check, axis_right, tree_check, node_check, parent_right}
use Rattle.marked.proofs.Marked.{small, words_of}
use Rattle.selection.specs.Lists.{somewhere}
use Rattle.selection.specs.Ways.{up, ups}
use Rattle.conflict.specs.Conflict.{Update, delete, insert, Conflict, Deep}
use Rattle.conflict.specs.Meeting.{agree, landing, shared, sooner, least, onward, shorter, longer, meeting, fewest, meeting_of, fewest_of}
use Rattle.conflict.specs.Crossing.{over, goes_further, enters, entering, delete_way, insert_way, touches, delete_deep, insert_deep}
use Rattle.check_verdict.specs.Order.{patterns_check, deep_delete_check, deep_insert_check}
use Rattle.order.proofs.Deciding.{conflicting, conflicting_decides, deeply, deeply_decides}
use Rattle.wider.specs.Wider.{Wider, deletes, inserts, Accepted, Widened}
use Rattle.wider.specs.Examples.{OnlyWider, a, a/b, a/c, a//c, a//d, a/any, c_alone, c_and_d}
use Rattle.wider.proofs.Relation.{pattern_itself, update_itself, wildcard_wider, descendant_wider, behind_wider}
use Rattle.wider.proofs.Accepting.{fit_read, fit_update, delete_wider, insert_wider}

-- what the tests that decide say of two pairs
only_wider : {r s : List ℕ} {u v : Update} → Accepted r u → Accepted s v → Wider r u s v → deeply r u ≡ false → conflicting s v ≡ true → OnlyWider r u s v
only_wider {r} {s} {u} {v} narrow wide wider clear found = record {
  widened = record { narrow = narrow; wide = wide; wider = wider };
  none = λ d. false≢true (sym clear ∙ (deeply_decides.exactly (fit_read r u narrow) (fit_update r u narrow)).1 d);
  some = (conflicting_decides.exactly (fit_read s v wide) (fit_update s v wide)).0 found;
}

-- read a/c, delete a/b
apart : Accepted a/c (delete a/b)
unfolding small deep_delete_check patterns_check pattern_check size_check each axis_check axis_right
apart = record { read_words = words_of a/c refl; update_words = words_of a/b refl; fine = refl }

apart_clear : deeply a/c (delete a/b) ≡ false
unfolding delete_deep fewest_of fewest onward least sooner agree
apart_clear = refl

-- the read's last label is made a wildcard
pub by_label : OnlyWider a/c (delete a/b) a/any (delete a/b)
unfolding delete_way meeting_of meeting shorter longer sooner agree landing shared
by_label =
    only_wider apart (delete_wider (wildcard_wider a/c 1) (pattern_itself a/b) apart)
    (record { read = wildcard_wider a/c 1; update = update_itself (delete a/b) }) apart_clear refl

-- the read's last step is made a descendant step
pub by_axis : OnlyWider a/c (delete a/b) a//c (delete a/b)
unfolding delete_way meeting_of meeting shorter longer sooner agree landing shared
by_axis =
    only_wider apart (delete_wider (descendant_wider a/c 0 refl) (pattern_itself a/b) apart)
    (record { read = descendant_wider a/c 0 refl; update = update_itself (delete a/b) }) apart_clear refl

-- the update's last label is made a wildcard
pub by_update : OnlyWider a/c (delete a/b) a/c (delete a/any)
unfolding delete_way meeting_of meeting shorter longer sooner agree landing shared
by_update =
    only_wider apart (delete_wider (pattern_itself a/c) (wildcard_wider a/b 1) apart)
    (record { read = pattern_itself a/c; update = deletes (wildcard_wider a/b 1) }) apart_clear refl

-- read a//d, insert c at a
without_d : Accepted a//d (insert a c_alone)
unfolding small deep_insert_check patterns_check pattern_check tree_check size_check each axis_check axis_right node_check parent_right
without_d = record { read_words = words_of a//d refl; update_words = (words_of a refl, words_of c_alone refl); fine = refl }

without_d_clear : deeply a//d (insert a c_alone) ≡ false
unfolding insert_deep insert_way entering enters somewhere goes_further over up ups touches fewest_of fewest onward least sooner agree meeting_of meeting shorter longer landing shared
without_d_clear = refl

-- a node d is added below c
pub by_nodes : OnlyWider a//d (insert a c_alone) a//d (insert a c_and_d)
unfolding small tree_check size_check each node_check parent_right insert_way entering enters somewhere goes_further over up ups meeting_of meeting shorter longer sooner agree landing shared
by_nodes =
    only_wider without_d (insert_wider (pattern_itself a//d) (pattern_itself a) without_d (words_of c_and_d refl) refl)
    (record { read = pattern_itself a//d; update = inserts (pattern_itself a) (behind_wider c_alone (0 ∷ 4 ∷ [])) }) without_d_clear refl

-- so no law says that what is narrower keeps a conflict, deep or not
pub not_narrower : ((r s : List ℕ) (u v : Update) → Widened r u s v → Conflict s v → Conflict r u) → ⊥
not_narrower keeps = by_label.none (inl (keeps a/c a/any (delete a/b) (delete a/b) by_label.widened by_label.some))

pub not_narrower_deep : ((r s : List ℕ) (u v : Update) → Widened r u s v → Deep s v → Deep r u) → ⊥
not_narrower_deep keeps = by_label.none (keeps a/c a/any (delete a/b) (delete a/b) by_label.widened (inl by_label.some))
