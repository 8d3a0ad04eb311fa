-- From what the check and the loop give to the promise of writing a line; the promise fixes its answer and its buffer.
use Rattle.std.specs.Prelude.{Result, Ok, Err}
use Prim.Native.Nat.{ℕ, ◌*◌, ◌≤◌}
use mathlib.Core.Path.{◌≡◌, refl, sym, ◌∙◌, ap}
use mathlib.Core.List.{List, ◌++◌}
use lib.ListN.{length, drop}
use Rattle.tables.specs.Checks.{output_check, Checked, Fine}
use Rattle.tables.specs.declared.refusal.Refusal.{Refusal}
use Rattle.tables.proofs.Accepted.{output_room}
use Rattle.selection.specs.Lists.{tab}
use Rattle.text_digits.specs.Digits.{byte_at, line_of}
use Rattle.text_line_out.specs.Spelling.{WrittenAs}

module _ (ws before : List ℕ) {got : Checked} (e : got ≡ output_check (4 * length ws) (length before)) where
  module _ (f : got ≡ Fine) where
    pub writable : 4 * length ws ≤ length before
    writable = output_room (4 * length ws) (length before) (sym e ∙ f)

    pub written_as : {after : List ℕ} → after ≡ tab (byte_at ws) (4 * length ws) ++ drop (4 * length ws) before → WrittenAs ws before after (Ok (4 * length ws))
    unfolding line_of
    written_as a = (sym e ∙ f, refl, a)

  pub write_refused : {r : Refusal} → got ≡ Err r → WrittenAs ws before before (Err r)
  write_refused f = (sym e ∙ f, refl)

-- two answers with their buffers that meet the promise are the same
module _ (ws before a b : List ℕ) where
  pub write_one : (x y : Result ℕ Refusal) → WrittenAs ws before a x → WrittenAs ws before b y → (x ≡ y) × (a ≡ b)
  write_one (Err q) (Err r) f g = let e = f.0 in let h = g.0 in ((cc), f.1 ∙ sym g.1)
  write_one (Err q) (Ok n) f g = let e = f.0 in let h = g.0 in ((cc), (cc))
  write_one (Ok m) (Err r) f g = let e = f.0 in let h = g.0 in ((cc), (cc))
  write_one (Ok m) (Ok n) f g =
      let same = f.1 ∙ sym g.1 in
      (ap Ok same, f.2 ∙ ap (λ (k : ℕ). line_of ws ++ drop k before) same ∙ sym g.2)
