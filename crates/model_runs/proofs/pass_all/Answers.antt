-- `model_runs::pass_all` meets its contract. Assumes nothing.
use native.Mathlib.Omega.{arith}
use Rattle.lists.specs.Tests.{and_is}
use Rattle.model_runs.specs.Runs.{none, more}
use Rattle.model_runs.proofs.pass_all.Goals as goal

pub loop-init : goal.loop-init
loop-init c = (omega arith, omega arith, λ room h e. none)

pub loop-preserved : goal.loop-preserved
loop-preserved c = let inv = c.loop.invariant in
    rw c.with_move-y.ensures (
      omega arith,
      omega arith,
      λ room h e. let both = (and_is c.loop.good _).0 e in more _ (inv.2 room h both.0) (omega arith, c.good_move-good.ensures both.1),
    )
