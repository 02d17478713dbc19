-- The loop keeps that the count so far is that of the equations before w. Assumes nothing.
use Rattle.std.specs.Prelude.{◌≡◌}
use Rattle.engine_values.specs.BlockCount.{blocks_to}
use Rattle.engine_values.proofs.count_blocks.Given as goal

abbrev pub invariant-loop-w : goal.invariant-loop-w
invariant-loop-w l = l.r ≡ blocks_to l.equations l.w-index
