-- From what the checks and the root's text give to the promise of writing a tree; the promise fixes its answer and its buffer.
use Rattle.std.specs.Prelude.{Result, Ok, Err}
use Prim.Native.Nat.{ℕ, ◌<◌, ◌≤◌}
use mathlib.Core.Path.{◌≡◌, refl, sym, ◌∙◌, ap}
use mathlib.Core.List.{List, ◌++◌}
use native.Mathlib.Decide.{dec_lt}
use native.Mathlib.Omega.{arith}
use lib.ListN.{length, drop, get_or, replicate, length-replicate, get_or-replicate, get_or-eq_default}
use Rattle.tables.specs.Limits.{tree_limit}
use Rattle.tables.specs.Words.{nodes, Bits16}
use Rattle.tables.specs.Documents.{bare, Sound}
use Rattle.tables.specs.Checks.{tree_check, output_check, Checked, Fine}
use Rattle.tables.specs.declared.refusal.Refusal.{Refusal}
use Rattle.tables.proofs.Accepted.{output_room}
use Rattle.tables.proofs.Soundness.{accepted_nodes, accepted_some, accepted_tree}
use Rattle.text_xml.specs.Tags.{tags_of, tree_text, tree_bytes}
use Rattle.text_xml.proofs.Bytes.{tree_bytes_lem}
use Rattle.text_xml_out.specs.Writing.{write_tree_check, WriteTree}
use Rattle.text_xml_out.specs.Places.{Wrote}
use Rattle.text_xml_out.specs.Links.{LinkedFrom, Linkable, Nested, Writable}
use Rattle.text_xml_out.proofs.Places.{wrote_front}

-- rows for links in which there are none yet
module _ (t : List ℕ) (sound : Sound (bare t)) (few : nodes t ≤ tree_limit) (n : ℕ) (room : nodes t ≤ n) where
  none_yet : (i : ℕ) → ◌≡◌ {A = ℕ} (get_or (replicate n 0) i 0) 0
  none_yet i = go (dec_lt i n)
    where
      go : Dec (i < n) → ◌≡◌ {A = ℕ} (get_or (replicate n 0) i 0) 0
      go (yes h) = get_or-replicate n i 0 0 h
      go (no h) = get_or-eq_default (replicate n 0) 0 {n = i} (rw (length-replicate {A = ℕ} n 0) (omega arith))

  empty_rows : Linkable t (replicate n 0) (replicate n 0)
  empty_rows =
      record {
        sound = sound;
        few = few;
        firsts = rw (length-replicate {A = ℕ} n 0) room;
        nexts = rw (length-replicate {A = ℕ} n 0) room;
        empty = none_yet;
      }

-- a tree that is refused
pub tree_refused : (t before : List ℕ) {r : Refusal} {got : Checked} → got ≡ tree_check t tree_limit 5 → got ≡ Err r → WriteTree t before before (Err r)
unfolding write_tree_check
tree_refused t before e f = (rw (sym e ∙ f), refl)

module _ (t : List ℕ) (fine : tree_check t tree_limit 5 ≡ Fine) (words : Bits16 t) where
  sound : Sound (bare t)
  sound = accepted_tree t tree_limit 5 fine words

  pub linkable : Linkable t (replicate tree_limit 0) (replicate tree_limit 0)
  linkable = empty_rows t sound (accepted_nodes t tree_limit 5 fine) tree_limit (accepted_nodes t tree_limit 5 fine)

  pub nested : {first next : List ℕ} → LinkedFrom 1 t first next → Nested t first next
  nested linked = record { sound = sound; few = accepted_nodes t tree_limit 5 fine; linked = linked }

  module _ (before : List ℕ) {bytes : ℕ} (counted : bytes ≡ tree_bytes t) {got : Checked} (asked : got ≡ output_check bytes (length before)) where
    checked : write_tree_check t (length before) ≡ got
    unfolding write_tree_check
    checked = rw (fine, tree_bytes_lem t sound, ← counted) (sym asked)

    pub room_refused : {r : Refusal} → got ≡ Err r → WriteTree t before before (Err r)
    room_refused f = (checked ∙ f, refl)

    module _ (f : got ≡ Fine) where
      room : length (tree_text t) ≤ length before
      room = rw (tree_bytes_lem t sound, ← counted) (output_room bytes (length before) (sym asked ∙ f))

      pub root_writable : {first next : List ℕ} → LinkedFrom 1 t first next → Writable t first next 0 before 0
      unfolding tree_text
      root_writable linked = record { nested = nested linked; node = accepted_some t tree_limit 5 fine; room = omega (arith, room) }

      pub root-written : {after : List ℕ} {n : ℕ} → Wrote (tags_of t 0) before 0 after n → WriteTree t before after (Ok n)
      unfolding tree_text
      root-written e = let put = wrote_front (tags_of t 0) before e room in (checked ∙ f, put.0, put.1)

-- two answers with their buffers that meet the promise are the same
module _ (t before a b : List ℕ) where
  pub tree_one : (x y : Result ℕ Refusal) → WriteTree t before a x → WriteTree t before b y → (x ≡ y) × (a ≡ b)
  tree_one (Err q) (Err r) f g = let e = f.0 in let h = g.0 in ((cc), f.1 ∙ sym g.1)
  tree_one (Err q) (Ok n) f g = let e = f.0 in let h = g.0 in ((cc), (cc))
  tree_one (Ok m) (Err r) f g = let e = f.0 in let h = g.0 in ((cc), (cc))
  tree_one (Ok m) (Ok n) f g =
      let same = f.1 ∙ sym g.1 in
      (ap Ok same, f.2 ∙ ap (λ (k : ℕ). tree_text t ++ drop k before) same ∙ sym g.2)
