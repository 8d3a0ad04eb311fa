-- The numbers of reasons: from 1 to 16, and each reason is the one of its number. Each of these numbers is that of its reason, and any other
-- number names what 1 names.
use Rattle.std.specs.Prelude.{ℕ, ◌-◌, ◌≤◌, ◌≡◌}
use Rattle.std.proofs.Math.ListN.{get_or-map}
use Rattle.std.proofs.lemmas.List.{get_or_past}
use Rattle.std.proofs.lemmas.List.FromFn.{get_or-map-range_with_len}
use mathlib.Core.Path.{refl, sym, ◌∙◌}
use lib.Dec.{lit≤}
use native.Mathlib.Omega.{arith}
use Rattle.tables.specs.declared.refusal.Reason.{Reason}
use Rattle.tables.specs.declared.refusal.Reason.TheVariants as reason
use Rattle.tables.specs.Refusals.{number, numbered, reasons}

pub number_least : (r : Reason) → 1 ≤ number r
number_least reason.Words = lit≤ tt
number_least reason.Limit = lit≤ tt
number_least reason.Axis = lit≤ tt
number_least reason.Parent = lit≤ tt
number_least reason.Label = lit≤ tt
number_least reason.OneStep = lit≤ tt
number_least reason.Output = lit≤ tt
number_least reason.Kind = lit≤ tt
number_least reason.Ends = lit≤ tt
number_least reason.Batch = lit≤ tt
number_least reason.Room = lit≤ tt
number_least reason.Document = lit≤ tt
number_least reason.Line = lit≤ tt
number_least reason.Form = lit≤ tt
number_least reason.Name = lit≤ tt
number_least reason.Identity = lit≤ tt

pub number_most : (r : Reason) → number r ≤ 16
number_most reason.Words = lit≤ tt
number_most reason.Limit = lit≤ tt
number_most reason.Axis = lit≤ tt
number_most reason.Parent = lit≤ tt
number_most reason.Label = lit≤ tt
number_most reason.OneStep = lit≤ tt
number_most reason.Output = lit≤ tt
number_most reason.Kind = lit≤ tt
number_most reason.Ends = lit≤ tt
number_most reason.Batch = lit≤ tt
number_most reason.Room = lit≤ tt
number_most reason.Document = lit≤ tt
number_most reason.Line = lit≤ tt
number_most reason.Form = lit≤ tt
number_most reason.Name = lit≤ tt
number_most reason.Identity = lit≤ tt

pub number_names : (r : Reason) → numbered (number r) ≡ r
number_names reason.Words = refl
number_names reason.Limit = refl
number_names reason.Axis = refl
number_names reason.Parent = refl
number_names reason.Label = refl
number_names reason.OneStep = refl
number_names reason.Output = refl
number_names reason.Kind = refl
number_names reason.Ends = refl
number_names reason.Batch = refl
number_names reason.Room = refl
number_names reason.Document = refl
number_names reason.Line = refl
number_names reason.Form = refl
number_names reason.Name = refl
number_names reason.Identity = refl

pub zero_names_words : numbered 0 ≡ reason.Words
zero_names_words = refl

pub others_name_words : (n : ℕ) → 17 ≤ n → numbered n ≡ reason.Words
others_name_words n over = get_or_past reasons (n - 1) reason.Words (omega arith)

pub named_number : (n : ℕ) → 1 ≤ n → n ≤ 16 → number (numbered n) ≡ n
named_number n least most =
    sym (get_or-map number reasons (n - 1) reason.Words)
    ∙ get_or-map-range_with_len (λ k. k) 1 16 (n - 1) n 1 (omega arith) (omega arith)
