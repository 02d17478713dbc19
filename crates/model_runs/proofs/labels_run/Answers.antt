use native.Mathlib.Omega.{arith}
use Rattle.model_runs.specs.Runs.{none}
use Rattle.model_runs.specs.RunLaws.{label-more}
use Rattle.model_runs.proofs.labels_run.Goals as goal

pub loop-z-init : goal.loop-z-init
loop-z-init c = (omega arith, none)

pub loop-z-preserved : goal.loop-z-preserved
loop-z-preserved c = (label-more _ _ _ _ _ c.loop-z.invariant (c.good_label.ensures c.loop-z-test.true) c.with_label-y.ensures).0
