use native.Mathlib.Omega.{arith}
use borrow.Author.Tests.{eq-eqb, ne_eqb}
use Rattle.verdict_evidence.proofs.Branches.{chosen_byte}
use Rattle.verdict_evidence.proofs.Searching.{first_start, first_found, first_on, first_none}
use Rattle.verdict_evidence.proofs.search.first_behind.Goals as goal

pub loop-k-init : goal.loop-k-init
loop-k-init c = first_start _ _

pub overflow_add-base : goal.overflow_add-base
overflow_add-base c = omega (arith, c.requires)

pub returns-then-byte-eq1 : goal.returns-then-byte-eq1
returns-then-byte-eq1 c = first_found _ _ _ c.loop-k.invariant c.loop-k-test.true (chosen_byte _ _ c.byte.ensures) (eq-eqb _ 1 c.if-byte-eq1.true)

pub loop-k-preserved : goal.loop-k-preserved
loop-k-preserved c = first_on _ _ _ c.loop-k.invariant c.loop-k-test.true (chosen_byte _ _ c.byte.ensures) (ne_eqb _ 1 c.if-byte-eq1.false)

pub returns : goal.returns
returns c = first_none _ _ _ c.loop-k.invariant c.loop-k-test.false c.loop-k.auto.k-end
