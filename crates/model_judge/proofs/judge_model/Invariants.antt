-- The reader keeps the bytes. From turn to turn the model keeps its answer, and each turn is nearer to the end. Assumes nothing.
use Rattle.std.proofs.Common.{◌≡◌}
use Rattle.limits.specs.Lent.{lengths_by}
use Rattle.model_judge.specs.Going.{Going, left}
use Rattle.model_judge.proofs.judge_model.Given as goal

abbrev pub invariant-loop-t : goal.invariant-loop-t
invariant-loop-t l = (l.r.bytes.now ≡ l.bytes) × Going (lengths_by l.l) l.bytes l.t

abbrev pub decreases-loop-t : goal.decreases-loop-t
decreases-loop-t l = left l.bytes l.t
