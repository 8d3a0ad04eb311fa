-- The reasons of documents 01 and 02 for a refusal, and their numbers.
use Rattle.std.specs.Prelude.{ℕ, ◌-◌, List, [], ◌∷◌, get_or}
use Rattle.tables.specs.declared.refusal.Reason.{Reason}
use Rattle.tables.specs.declared.refusal.Reason.TheVariants as reason

-- the number of a reason
abbrev pub number : Reason → ℕ
number reason.Words = 1
number reason.Limit = 2
number reason.Axis = 3
number reason.Parent = 4
number reason.Label = 5
number reason.OneStep = 6
number reason.Output = 7
number reason.Kind = 8
number reason.Ends = 9
number reason.Batch = 10
number reason.Room = 11
number reason.Document = 12
number reason.Line = 13
number reason.Form = 14
number reason.Name = 15
number reason.Identity = 16

-- all of them in that order
abbrev pub reasons : List Reason
reasons =
    reason.Words
    ∷ reason.Limit
    ∷ reason.Axis
    ∷ reason.Parent
    ∷ reason.Label
    ∷ reason.OneStep
    ∷ reason.Output
    ∷ reason.Kind
    ∷ reason.Ends
    ∷ reason.Batch
    ∷ reason.Room
    ∷ reason.Document
    ∷ reason.Line
    ∷ reason.Form
    ∷ reason.Name
    ∷ reason.Identity
    ∷ []

-- the reason of a number from 1 to 16; any other is taken for 1
abbrev pub numbered : ℕ → Reason
numbered n = get_or reasons (n - 1) reason.Words

-- what is made of a reason is made of that reason itself
abbrev pub itself : Reason → Reason
itself r = r
