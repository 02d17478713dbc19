-- `model_runs::one_by_one` meets its contract. The loop's invariant: good moves lead from the start to here; the measure:
-- the bytes left. Assumes nothing.
use Prim.Native.Nat.{◌-◌, ◌≤◌}
use lib.ListN.{length}
use Rattle.model_runs.specs.Runs.{Moved}
use Rattle.model_runs.proofs.one_by_one.Given as goal

abbrev pub invariant-loop-y : goal.invariant-loop-y
invariant-loop-y l = (l.y.at ≤ length l.bytes) × Moved l.bytes l.z l.room l.initial.y l.y

abbrev pub decreases-loop-y : goal.decreases-loop-y
decreases-loop-y l = length l.bytes - l.y.at
