-- `model_chains::is_guilty` meets its contract: a variable is tied to x and has the other sign. Assumes nothing.
use Rattle.std.proofs.Common.{◌≡◌, refl, arith, map, length}
use Rattle.rules.specs.Session.{unword}
use Rattle.model_chains.specs.Numbering.{tied_by, guilty_by, against-more}
use Rattle.model_chains.proofs.is_guilty.Goals as goal

pub loop-y-preserved : goal.loop-y-preserved
unfolding tied_by
loop-y-preserved c = let a = c.args in
    against-more (map unword a.chains.now.equations.now) a.chains.now.reach.now a.x c.loop-y.y _ _ _ c.equation_at-kind.ensures c.equation_at-other.ensures c.loop-y.invariant

pub returns : goal.returns
unfolding guilty_by
returns c = let e : c.loop-y.y ≡ length c.args.chains.now.reach.now = omega arith in
    rw (c.loop-y.invariant, e) refl
