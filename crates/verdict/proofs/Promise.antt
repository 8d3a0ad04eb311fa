-- From the check and the way to what the verdict promises; the promise fixes the answer, and can be met for every input.
use Rattle.std.specs.Prelude.{Option, Some, None, Result, Ok, Err}
use Rattle.tables.specs.declared.refusal.Refusal.{Refusal}
use Rattle.tables.specs.Checks.{Checked, Fine}
use Prim.Native.Nat.{ℕ, ◌*◌, ◌<◌, ◌≤◌}
use native.Mathlib.Nat.{le_antisymm}
use native.Mathlib.Omega.{arith}
use mathlib.Core.Path.{◌≡◌, refl, sym, ◌∙◌, ap}
use mathlib.Core.List.{List, [], ◌∷◌, ◌++◌}
use lib.ListN.{length, take, drop, length-append, length-drop}
use lib.Seq.{take_at, drop_at}
use borrow.Author.Tests.{ne_eqb}
use Rattle.tables.specs.Words.{nodes, Bits16}
use Rattle.tables.proofs.Accepted.{never}
use Rattle.conflict.specs.Conflict.{Update, UpdateBits, delete, insert}
use Rattle.conflict.specs.Crossing.{chain, delete_way, insert_way}
use Rattle.conflict.proofs.Chains.{length-chain, nodes-chain}
use Rattle.conflict.proofs.Smallest.{smallest}
use Rattle.check_verdict.specs.Order.{verdict_check, delete_verdict_check, insert_verdict_check}
use Rattle.verdict.specs.Promise.{NodeVerdict, witness_nodes}
use Rattle.outcomes.specs.Numbers.{found_of}
use Rattle.check_verdict.proofs.Accepting.{delete_deep_lem, delete_room, insert_deep_lem, insert_room}
use Rattle.verdict_ways.proofs.Deciding.{Deciding, delete_deciding, insert_deciding}
use Rattle.verdict.proofs.Judging.{verdict_of, output_of, Judged}

module _ (r : List ℕ) (u : Update) (before : List ℕ) where
  -- the chain of the way stands at the front of the output, and all behind it stays
  conflict_verdict : (way : List ℕ) → verdict_check r u (length before) ≡ Fine → Deciding r u way → 2 * length way ≤ length before → 0 < length way
      → NodeVerdict r u before (chain way ++ drop (2 * length way) before) (Ok (Some (length way)))
  conflict_verdict way e d room h =
      let front : take (2 * length way) (chain way ++ drop (2 * length way) before) ≡ chain way =
      take_at (chain way) (drop (2 * length way) before) (2 * length way) (length-chain way) in
      record {
        fine = e;
        some = h;
        witness = rw front (d.decides.witness h);
        count = ap nodes front ∙ nodes-chain way;
        fewest = (smallest d.decides).fewest;
        bound = d.bound;
        long = simp (length-append, length-chain, length-drop) (omega arith);
        behind = drop_at (chain way) (drop (2 * length way) before) (2 * length way) (length-chain way);
      }

  -- an empty way says that there is none
  fine_verdict : (way : List ℕ) → verdict_check r u (length before) ≡ Fine → Deciding r u way → 2 * length way ≤ length before
      → NodeVerdict r u before (chain way ++ drop (2 * length way) before) (Ok (found_of (length way)))
  unfolding found_of chain
  fine_verdict [] e d room = record { fine = e; none = (smallest d.decides).none refl; kept = refl }
  fine_verdict (l ∷ w) e d room =
      rw (ne_eqb (length (l ∷ w)) 0 (λ z. omega arith)) (conflict_verdict (l ∷ w) e d room (omega arith))

  judged_verdict : {way after : List ℕ} {answer : Result (Option ℕ) Refusal}
      → (verdict_check r u (length before) ≡ Fine → Deciding r u way × (2 * length way ≤ length before))
      → Judged (verdict_check r u (length before)) way before after answer → NodeVerdict r u before after answer
  unfolding verdict_of output_of
  judged_verdict {way} found j = rw (j.says, j.writes) (go (verdict_check r u (length before)) refl)
    where
      go : (c : Checked) → verdict_check r u (length before) ≡ c → NodeVerdict r u before (output_of c way before) (verdict_of c (length way))
      go (Ok tt) e = fine_verdict way e (found e).0 (found e).1
      go (Err why) e = record { given = e; kept = refl }

-- a delete: every word has 16 bits
module _ (r p : List ℕ) (names : Bits16 r) (others : Bits16 p) where
  pub delete_promise : {before after : List ℕ} {answer : Result (Option ℕ) Refusal} → Judged (delete_verdict_check r p (length before)) (delete_way r p) before after answer
      → NodeVerdict r (delete p) before after answer
  delete_promise {before} j = judged_verdict r (delete p) before found j
    where
      found : delete_verdict_check r p (length before) ≡ Fine → Deciding r (delete p) (delete_way r p) × (2 * length (delete_way r p) ≤ length before)
      found e =
          let d : Deciding r (delete p) (delete_way r p) = delete_deciding r p names others (delete_deep_lem r p (length before) e) in
          (d, omega (arith, d.bound, delete_room r p (length before) e))

-- an insert
module _ (r p x : List ℕ) (names : Bits16 r) (others : Bits16 p) (tags : Bits16 x) where
  pub insert_promise : {before after : List ℕ} {answer : Result (Option ℕ) Refusal} → Judged (insert_verdict_check r p x (length before)) (insert_way r p x) before after answer
      → NodeVerdict r (insert p x) before after answer
  insert_promise {before} j = judged_verdict r (insert p x) before found j
    where
      found : insert_verdict_check r p x (length before) ≡ Fine → Deciding r (insert p x) (insert_way r p x) × (2 * length (insert_way r p x) ≤ length before)
      found e =
          let d : Deciding r (insert p x) (insert_way r p x) = insert_deciding r p x names others tags (insert_deep_lem r p (length before) x e) in
          (d, omega (arith, d.bound, insert_room r p (length before) x e))

-- Two answers that meet the promise are the same, with the same count, and the outputs are the same but for the witness: where there is none,
-- they are the same.
module _ (r : List ℕ) (u : Update) (before a b : List ℕ) where
  pub verdict_one : (x y : Result (Option ℕ) Refusal) → NodeVerdict r u before a x → NodeVerdict r u before b y
      → (x ≡ y) × (drop (2 * witness_nodes x) a ≡ drop (2 * witness_nodes x) b)
  verdict_one (Err why) (Err other) f g = (cc, f.kept ∙ sym g.kept)
  verdict_one (Err why) (Ok None) f g = never f.given g.fine
  verdict_one (Err why) (Ok (Some n)) f g = never f.given g.fine
  verdict_one (Ok None) (Err why) f g = never g.given f.fine
  verdict_one (Ok None) (Ok None) f g = (refl, f.kept ∙ sym g.kept)
  verdict_one (Ok None) (Ok (Some n)) f g = absurd (f.none (record { tree = take (2 * n) b; shows = g.witness }))
  verdict_one (Ok (Some n)) (Err why) f g = never g.given f.fine
  verdict_one (Ok (Some n)) (Ok None) f g = absurd (g.none (record { tree = take (2 * n) a; shows = f.witness }))
  verdict_one (Ok (Some n)) (Ok (Some m)) f g =
      let same : n ≡ m = le_antisymm (omega (arith, f.fewest (take (2 * m) b) g.witness, g.count)) (omega (arith, g.fewest (take (2 * n) a) f.witness, f.count)) in
      (ap (λ n. Ok (Some n)) same, f.behind ∙ sym (rw (← same) at g.behind))

-- The promise can be met: for every read, update and output of words there are an answer and an output that do.
pub verdict_met : (r : List ℕ) (u : Update) (before : List ℕ) → Bits16 r → UpdateBits u
    → (answer : Result (Option ℕ) Refusal) × (after : List ℕ) × NodeVerdict r u before after answer
verdict_met r (delete p) before names others =
    let check : Checked = delete_verdict_check r p (length before) in
    let way : List ℕ = delete_way r p in
    (verdict_of check (length way), output_of check way before, delete_promise r p names others {before = before} (record { says = refl; writes = refl }))
verdict_met r (insert p x) before names others =
    let check : Checked = insert_verdict_check r p x (length before) in
    let way : List ℕ = insert_way r p x in
    (verdict_of check (length way), output_of check way before, insert_promise r p x names others.0 others.1 {before = before} (record { says = refl; writes = refl }))
