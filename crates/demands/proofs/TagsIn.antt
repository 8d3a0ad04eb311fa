-- Trees from tags: which texts are right, what is read of one, and a tree written and read back.
use Rattle.std.specs.Prelude.{Result, Ok, Err}
use Rattle.tables.specs.declared.refusal.Refusal.{Refusal}
use Prim.Native.Nat.{ℕ, ◌*◌, ◌≤◌}
use mathlib.Core.Path.{◌≡◌, refl, sym, ap, ◌∙◌}
use mathlib.Core.List.{List}
use mathlib.Core.Logic.{◌↔◌}
use native.Mathlib.Omega.{arith}
use lib.Dec.{leb}
use lib.ListN.{length, get_or, take, drop}
use lib.Seq.{take_at}
use borrow.Author.Tests.{leb-true, le-leb}
use Rattle.tables.specs.Limits.{tree_limit}
use Rattle.tables.specs.Words.{nodes, Bits16}
use Rattle.tables.specs.Documents.{bare, Sound}
use Rattle.tables.specs.Checks.{test, refuse, tree_check, output_check, Fine}
use Rattle.tables.proofs.Accepted.{never, held, then_first, then_second}
use Rattle.tables.proofs.Soundness.{accepted_tree, accepted_nodes, accepted_whole, tree_fine}
use Rattle.text_xml.specs.Tags.{tree_text}
use Rattle.text_xml_form.specs.Elements.{written, RightTags, tree_of, shortened}
use Rattle.text_xml_form.specs.Numbering.{starts, InOrder, Renumbered}
use Rattle.text_xml_form.specs.Scan.{right_tags, longest_tags}
use Rattle.text_xml_form.specs.Rows.{rows_of}
use Rattle.text_xml_form.proofs.Scanning.{scan_right, right_scan, longest_tags_lem}
use Rattle.text_xml_form.proofs.Trees as trees
use Rattle.text_xml_form.proofs.Again as again
use Rattle.text_xml_form.proofs.Returning as returning
use Rattle.text_xml_in.specs.Reading.{tags_check, read_tree_check, ReadTree}
use Rattle.text_xml_out.specs.Writing.{write_tree_check, WriteTree}
use Rattle.demands.specs.Demands.{WrongText}
use Rattle.demands.proofs.Texts.{right_fine, wrong_refused}

pub tags : (s : List ℕ) → (tags_check s ≡ Fine) ↔ RightTags s
unfolding tags_check
tags s = right_fine RightTags s (right_tags s) (longest_tags s) (scan_right s) (right_scan s) (longest_tags_lem s)

pub tags_place : (s : List ℕ) (n : ℕ) → (tags_check s ≡ refuse 14 7 n) ↔ WrongText RightTags s n
unfolding tags_check
tags_place s = wrong_refused RightTags s (right_tags s) (longest_tags s) (scan_right s) (right_scan s) (longest_tags_lem s)

-- what was read
module _ (s words tree : List ℕ) (n : ℕ) (h : ReadTree s words tree (Ok n)) where
  few : test (leb (nodes (rows_of s)) tree_limit) (refuse 2 3 0) ≡ Fine
  unfolding read_tree_check
  few = then_first (test (leb (nodes (rows_of s)) tree_limit) (refuse 2 3 0)) _ (then_second (tags_check s) _ h.0)

  read_right : RightTags s
  unfolding read_tree_check
  read_right = (tags s).0 (then_first (tags_check s) _ h.0)

  read_rows : take n tree ≡ rows_of s
  read_rows = rw h.2 (take_at (rows_of s) (drop n words) n (sym h.1))

  pub read_means : (right : RightTags s) → take n tree ≡ tree_of right.root
  read_means right = read_rows ∙ trees.read_tree s right

  pub read_in_order : InOrder (take n tree)
  read_in_order = rw (read_means read_right) (again.read_in_order read_right.root read_right.one)

  pub read_sound : Sound (bare (take n tree)) × ((table : ℕ) → tree_check (take n tree) tree_limit table ≡ Fine)
  read_sound =
      let sound = trees.read_sound s read_right in
      rw read_rows
      (sound, λ table. tree_fine (rows_of s) tree_limit table sound (sym (trees.read_words s read_right)) (leb-true (nodes (rows_of s)) tree_limit (held (leb (nodes (rows_of s)) tree_limit) _ few)))

  -- its text
  module _ (right : RightTags s) where
    again_text : tree_text (take n tree) ≡ written (shortened right.root)
    again_text = ap tree_text (read_means right) ∙ again.again right.root right.one

    writes_fine : (bytes : ℕ) → length s ≤ bytes → write_tree_check (take n tree) bytes ≡ Fine
    unfolding write_tree_check output_check
    writes_fine bytes room =
        let less : length (written (shortened right.root)) ≤ bytes = omega (arith, again.shortened_long right.root, ap length right.spelled, room) in
        rw (read_sound.1 5, again_text, le-leb (length (written (shortened right.root))) bytes less)

    pub read_again : (before after : List ℕ) (answer : Result ℕ Refusal) → WriteTree (take n tree) before after answer → length s ≤ length before
        → (answer ≡ Ok (length (written (shortened right.root)))) × (take (length (written (shortened right.root))) after ≡ written (shortened right.root))
    read_again before after (Err why) w room = never w.0 (writes_fine (length before) room)
    read_again before after (Ok m) w room =
        let text = written (shortened right.root) in
        (ap Ok (w.1 ∙ ap length again_text), rw (w.2, again_text) (take_at text (drop m before) (length text) refl))

-- what was written
module _ (t before text : List ℕ) (n : ℕ) (words16 : Bits16 t) (h : WriteTree t before text (Ok n)) where
  tree_is : tree_check t tree_limit 5 ≡ Fine
  unfolding write_tree_check
  tree_is = then_first (tree_check t tree_limit 5) _ h.0

  sound : Sound (bare t)
  sound = accepted_tree t tree_limit 5 tree_is words16

  whole : length t ≡ 2 * nodes t
  whole = sym (accepted_whole t tree_limit 5 tree_is)

  text_is : take n text ≡ tree_text t
  text_is = rw h.2 (take_at (tree_text t) (drop n before) n (sym h.1))

  back : Renumbered t (rows_of (tree_text t)) (λ k. get_or (starts t) k 0)
  back = returning.read_back t sound whole

  reads_fine : (room : ℕ) → length t ≤ room → read_tree_check (tree_text t) room ≡ Fine
  unfolding read_tree_check output_check
  reads_fine room enough =
      let few : nodes (rows_of (tree_text t)) ≤ tree_limit = omega (arith, back.as_long, accepted_nodes t tree_limit 5 tree_is) in
      rw ((tags (tree_text t)).1 (returning.text_right t sound), le-leb (nodes (rows_of (tree_text t))) tree_limit few, back.as_long, le-leb (length t) room enough)

  module _ (words tree : List ℕ) where
    reads-back : (answer : Result ℕ Refusal) → ReadTree (tree_text t) words tree answer → length t ≤ length words
        → (answer ≡ Ok (length t)) × (take (length t) tree ≡ rows_of (tree_text t))
    reads-back (Err why) r enough = never r.0 (reads_fine (length words) enough)
    reads-back (Ok m) r enough =
        (ap Ok (r.1 ∙ back.as_long), rw r.2 (take_at (rows_of (tree_text t)) (drop m words) (length t) back.as_long))

    module _ (answer : Result ℕ Refusal) (r : ReadTree (take n text) words tree answer) (enough : length t ≤ length words) where
      both_ways : (answer ≡ Ok (length t)) × (take (length t) tree ≡ rows_of (tree_text t))
      both_ways = reads-back answer (rw text_is at r) enough

      pub written_back : (answer ≡ Ok (length t)) × Renumbered t (take (length t) tree) (λ k. get_or (starts t) k 0)
      written_back = (both_ways.0, rw both_ways.1 back)

      pub written_same : InOrder t → take (length t) tree ≡ t
      written_same order = both_ways.1 ∙ returning.back_in_order t sound whole order
