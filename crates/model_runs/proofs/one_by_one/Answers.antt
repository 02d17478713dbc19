-- `model_runs::one_by_one` meets its contract. Assumes nothing.
use native.Mathlib.Omega.{arith}
use Rattle.model_runs.specs.Runs.{none}
use Rattle.model_runs.specs.RunLaws.{move-more}
use Rattle.model_runs.proofs.one_by_one.Goals as goal

pub loop-y-init : goal.loop-y-init
loop-y-init c = (omega arith, none)

pub loop-y-preserved : goal.loop-y-preserved
loop-y-preserved c = (move-more _ _ _ _ _ _ c.loop-y.invariant (c.loop-y-test.true, c.good_move.ensures c.if-good_move.true) c.with_move-y.ensures).0
