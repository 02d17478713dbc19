use Rattle.std.proofs.Common.{◌≡◌, refl, map, arith, length}
use Rattle.rules.specs.Session.{unword}
use Rattle.model_chains.specs.Filled.{filled-end}
use Rattle.model_chains.specs.Reaching.{round-next}
use Rattle.model_chains.proofs.round.Goals as goal

pub loop-x-preserved : goal.loop-x-preserved
loop-x-preserved c = round-next (map unword c.args.equations.now) _ _ _ _ _ _ _ c.loop-x.invariant (omega arith) c.equation_at.ensures c.row.ensures refl

pub returns : goal.returns
returns c = let e : c.loop-x.x ≡ length c.args.equations.now = omega arith in
    filled-end _ _ _ _ _ c.loop-x.invariant e
