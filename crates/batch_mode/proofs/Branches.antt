-- Two numbers name a mode, each its own.
use Prim.Native.Nat.{ℕ}
use mathlib.Core.Path.{◌≡◌, refl}
use mathlib.Core.Bool.{Bool, true, false, ◌||◌}
use mathlib.Core.Logic.{◌⊎◌, inl, inr, ◌↔◌}
use lib.Dec.{eqb}
use borrow.Author.Tests.{eqb-true}
use Rattle.std.specs.Prelude.{cond, Result, Ok, Err}
use Rattle.std.specs.Result.{result_unwrap_or}
use Rattle.tables.specs.Checks.{test, refuse, Fine}
use Rattle.tables.specs.declared.refusal.Refusal.{Refusal}
use Rattle.tables.proofs.Accepted.{never, held}
use Rattle.batch_mode.specs.Modes.{mode_check, mode_of, Named}
use Rattle.batch_mode.specs.declared.Mode.{Mode}
use Rattle.batch_mode.specs.declared.Mode.TheVariants.{Node, Deep}

-- a number is accepted exactly if it is 1 or 2
pub check_exactly : (w : ℕ) → (mode_check w ≡ Fine) ↔ ((w ≡ 1) ⊎ (w ≡ 2))
unfolding mode_check
check_exactly w = (λ e. which (eqb w 1) (eqb w 2) refl refl (held (eqb w 1 || eqb w 2) _ e), λ (h : (w ≡ 1) ⊎ (w ≡ 2)). back h)
  where
    which : (a b : Bool) → eqb w 1 ≡ a → eqb w 2 ≡ b → (a || b) ≡ true → (w ≡ 1) ⊎ (w ≡ 2)
    which true b e f h = inl (eqb-true w 1 e)
    which false b e f h = inr (eqb-true w 2 (rw h at f))

    back : (w ≡ 1) ⊎ (w ≡ 2) → mode_check w ≡ Fine
    back (inl e) = rw e
    back (inr e) = rw e

-- 1 names node, 2 names deep
pub one_node : mode_of 1 ≡ Node
unfolding mode_of
one_node = refl

pub two_deep : mode_of 2 ≡ Deep
unfolding mode_of
two_deep = refl

-- a number that names no mode is taken for deep
pub deep_else : (w : ℕ) (r : Result Mode Refusal) → Named w r → result_unwrap_or r Deep ≡ mode_of w
unfolding mode_check mode_of
deep_else w (Ok m) (fine, same) = same
deep_else w (Err why) e = other (eqb w 1) (eqb w 2) e
  where
    other : (a b : Bool) → test (a || b) (refuse 8 6 1) ≡ Err why → Deep ≡ cond a Node Deep
    other true b e = never e refl
    other false b e = refl
