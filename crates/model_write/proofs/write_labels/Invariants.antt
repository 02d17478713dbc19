-- The labels from state i on are left to write. Assumes nothing.
use Rattle.model_write.specs.Spelled.{Writing, label_bytes}
use Rattle.model_write.proofs.write_labels.Given as goal

abbrev pub invariant-loop-i : goal.invariant-loop-i
invariant-loop-i l = Writing l.initial.out l.start (label_bytes l.labels 0) l.out l.at (label_bytes l.labels l.i)
