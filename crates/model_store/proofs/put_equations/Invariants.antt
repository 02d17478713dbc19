-- `model_store::put_equations` meets its contract. The loop's invariant: good equations lead from the start to here, and each is
-- put; the measure: the bytes left. Assumes nothing.
use Prim.Native.Nat.{◌-◌}
use lib.ListN.{length}
use Rattle.model_store.specs.RunLaws.{EquationsSofar}
use Rattle.model_store.proofs.put_equations.Given as goal

abbrev pub invariant-loop-x : goal.invariant-loop-x
invariant-loop-x l = EquationsSofar l.bytes l.x l.at l.initial.equations l.y l.equations

abbrev pub decreases-loop-x : goal.decreases-loop-x
decreases-loop-x l = length l.bytes - l.y.at
