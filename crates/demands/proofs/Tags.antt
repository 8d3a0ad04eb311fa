-- Trees as tags: how many bytes are always enough, and the text of a witness.
use Rattle.std.specs.Prelude.{Some, Result, Ok, Err}
use Prim.Native.Nat.{ℕ, ◌+◌, ◌*◌, ◌<◌, ◌≤◌}
use mathlib.Core.Path.{◌≡◌, ◌∙◌, ap}
use mathlib.Core.List.{List}
use native.Mathlib.Omega.{arith}
use lib.ListN.{length, take}
use borrow.Author.Tests.{le-leb}
use Rattle.tables.specs.Limits.{tree_limit}
use Rattle.tables.specs.Words.{nodes, Bits16}
use Rattle.tables.specs.Documents.{bare, Sound}
use Rattle.tables.specs.Checks.{tree_check, output_check, Fine}
use Rattle.tables.specs.declared.refusal.Refusal.{Refusal}
use Rattle.tables.proofs.Accepted.{never}
use Rattle.tables.proofs.Soundness.{accepted_tree}
use Rattle.conflict.specs.Conflict.{Update}
use Rattle.verdict.specs.Promise.{NodeVerdict}
use Rattle.text_xml.specs.Tags.{tree_bytes}
use Rattle.text_xml.proofs.Bytes.{tree_bytes_lem, bytes_most, chain_of, chain_sound, bytes_reached}
use Rattle.text_xml_out.specs.Writing.{write_tree_check, WriteTree}
use Rattle.demands.proofs.Witnesses.{witness_fine}

module _ (t : List ℕ) (sound : Sound (bare t)) (fine : tree_check t tree_limit 5 ≡ Fine) (room : ℕ) (enough : 17 * nodes t ≤ room + 8) where
  written_fine : write_tree_check t room ≡ Fine
  unfolding write_tree_check output_check
  written_fine = rw (fine, tree_bytes_lem t sound, le-leb (tree_bytes t) room (omega (arith, enough, bytes_most t sound)))

pub tags_enough : (t before after : List ℕ) (why : Refusal) → Bits16 t → tree_check t tree_limit 5 ≡ Fine → 17 * nodes t ≤ length before + 8 → WriteTree t before after (Err why) → ⊥
tags_enough t before after why words fine enough h = never h.0 (written_fine t (accepted_tree t tree_limit 5 fine words) fine (length before) enough)

pub tags_reached : (n : ℕ) → 0 < n → (t : List ℕ) × Sound (bare t) × (nodes t ≡ n) × (tree_bytes t + 8 ≡ 17 * n)
tags_reached n some = let both = bytes_reached n some in (chain_of n, chain_sound n some, both.0, both.1)

pub witness_text : (r : List ℕ) (u : Update) (before after : List ℕ) (n : ℕ) → NodeVerdict r u before after (Ok (Some n)) →
    (room text : List ℕ) (answer : Result ℕ Refusal) → WriteTree (take (2 * n) after) room text answer → 17 * n ≤ length room + 8 → answer ≡ Ok (tree_bytes (take (2 * n) after))
witness_text r u before after n h room text answer promised enough = go answer promised
  where
    tree : List ℕ
    tree = take (2 * n) after

    sound : Sound (bare tree)
    sound = h.witness.sound

    fine : tree_check tree tree_limit 5 ≡ Fine
    fine = witness_fine r u before after n h

    go : (x : Result ℕ Refusal) → WriteTree tree room text x → x ≡ Ok (tree_bytes tree)
    go (Err why) e = never e.0 (written_fine tree sound fine (length room) (omega (arith, h.count, enough)))
    go (Ok k) e = ap Ok (e.1 ∙ tree_bytes_lem tree sound)
