use native.Mathlib.Omega.{arith}
use Rattle.model_runs.specs.Runs.{none}
use Rattle.model_runs.specs.RunLaws.{equation-more}
use Rattle.model_runs.proofs.equations_run.Goals as goal

pub loop-z-init : goal.loop-z-init
loop-z-init c = (omega arith, none)

pub loop-z-preserved : goal.loop-z-preserved
loop-z-preserved c = (equation-more _ _ _ _ _ _ c.loop-z.invariant (c.good_equation.ensures c.loop-z-test.true) c.with_equation-y.ensures).0
