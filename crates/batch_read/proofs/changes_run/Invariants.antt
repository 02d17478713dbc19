-- From the start to here there are good changes, and each is put down; the bytes after them get fewer. Assumes nothing.
use mathlib.Core.Path.{◌≡◌}
use Prim.Native.Nat.{◌-◌, ◌≤◌}
use lib.ListN.{length}
use Rattle.batch_read.specs.Passing.{ChangesPut}
use Rattle.batch_read.proofs.changes_run.Given as goal

abbrev pub invariant-loop-z : goal.invariant-loop-z
invariant-loop-z l = (l.y.at ≤ length l.bytes) × (length l.changes ≡ length l.initial.changes) × ChangesPut l.bytes l.z l.initial.y l.initial.changes l.y l.changes

abbrev pub decreases-loop-z : goal.decreases-loop-z
decreases-loop-z l = length l.bytes - l.y.at
