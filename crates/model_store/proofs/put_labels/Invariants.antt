-- `model_store::put_labels` meets its contract. The loop's invariant: good labels lead from the start to here, and each is put;
-- the measure: the bytes left. Assumes nothing.
use Prim.Native.Nat.{◌-◌}
use lib.ListN.{length}
use Rattle.model_store.specs.RunLaws.{LabelsSofar}
use Rattle.model_store.proofs.put_labels.Given as goal

abbrev pub invariant-loop-z : goal.invariant-loop-z
invariant-loop-z l = LabelsSofar l.bytes l.z l.initial.y l.initial.labels l.y l.labels

abbrev pub decreases-loop-z : goal.decreases-loop-z
decreases-loop-z l = length l.bytes - l.y.at
