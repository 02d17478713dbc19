-- One equation after the other. Assumes nothing.
use Rattle.std.proofs.Common.{ap, arith}
use Rattle.rules.specs.declared.Equation.{Equation}
use Rattle.engine_values.specs.BlockCount.{blocks_more}
use Rattle.engine_values.proofs.count_blocks.Goals as goal

pub loop-w-preserved : goal.loop-w-preserved
loop-w-preserved c = let l = c.loop-w in
    let t = c.loop-w-test.true in
    let e = ap (λ (e : Equation). e.block) c.equation_in.ensures in
    blocks_more l.w-index c.args.equations.now l.r c.max-r.result t l.invariant (omega (arith, c.max-r.ensures))
