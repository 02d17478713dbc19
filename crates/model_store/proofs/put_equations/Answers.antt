use mathlib.Core.Path.{refl}
use native.Mathlib.Omega.{arith}
use Rattle.model_store.specs.RunLaws.{equations-more}
use Rattle.model_store.specs.Stored.{none}
use Rattle.model_store.proofs.put_equations.Goals as goal

pub loop-x-init : goal.loop-x-init
loop-x-init c = (omega arith, omega arith, refl, none)

pub loop-x-smaller : goal.loop-x-smaller
loop-x-smaller c = (equations-more _ _ _ _ _ _ _ _ c.loop-x.invariant (c.good_equation.ensures c.loop-x-test.true) c.put_equation_at-y.ensures).1

pub loop-x-preserved : goal.loop-x-preserved
loop-x-preserved c = (equations-more _ _ _ _ _ _ _ _ c.loop-x.invariant (c.good_equation.ensures c.loop-x-test.true) c.put_equation_at-y.ensures).0
