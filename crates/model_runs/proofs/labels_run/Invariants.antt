-- `model_runs::labels_run` meets its contract. The loop's invariant: good ones lead from the start to here; the measure: the bytes left.
-- Assumes nothing.
use Prim.Native.Nat.{◌-◌, ◌≤◌}
use lib.ListN.{length}
use Rattle.model_runs.specs.Runs.{Labelled}
use Rattle.model_runs.proofs.labels_run.Given as goal

abbrev pub invariant-loop-z : goal.invariant-loop-z
invariant-loop-z l = (l.y.at ≤ length l.bytes) × Labelled l.bytes l.z l.initial.y l.y

abbrev pub decreases-loop-z : goal.decreases-loop-z
decreases-loop-z l = length l.bytes - l.y.at
