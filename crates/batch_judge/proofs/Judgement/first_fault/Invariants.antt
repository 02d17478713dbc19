-- No change that was passed has a fault. Assumes nothing.
use Rattle.std.proofs.Common.{ℕ, ◌<◌, slice_index, None}
use Rattle.batch_judge.proofs.Judgement.first_fault.Given as goal

abbrev pub invariant-loop-i : goal.invariant-loop-i
invariant-loop-i g l = (k : ℕ) → k < l.i → goal.F-post g l.fault k (slice_index l.self.changes.now k) None
