-- `model_judge::signs_to` meets its contract. The loop's invariant: the first i words hold the first i equations. Assumes nothing.
use Rattle.model_judge.specs.SignsRead.{Words}
use Rattle.model_judge.proofs.signs_to.Given as goal

abbrev pub invariant-loop-i : goal.invariant-loop-i
invariant-loop-i l = Words l.bytes l.end l.n l.i l.words
