-- What is left is handed over until all is taken. The loop keeps that no more was taken than there is; what is left gets
-- smaller. Assumes nothing.
use Prim.Native.Nat.{◌-◌, ◌≤◌}
use lib.ListN.{length}
use Rattle.program_streams.proofs.write_output.Given as goal

abbrev pub invariant-loop-done : goal.invariant-loop-done
invariant-loop-done l = l.done ≤ length l.said

abbrev pub decreases-loop-done : goal.decreases-loop-done
decreases-loop-done l = length l.said - l.done
