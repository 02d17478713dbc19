-- The loop keeps that the places before x are v. Assumes nothing.
use Rattle.std.specs.Prelude.{◌≡◌, take, replicate}
use Rattle.engine_values.proofs.set_first.Given as goal

abbrev pub invariant-loop-x : goal.invariant-loop-x
invariant-loop-x g l = take l.x-index l.x-items ≡ replicate l.x-index l.v
