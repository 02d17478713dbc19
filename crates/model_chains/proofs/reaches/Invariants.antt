-- `model_chains::reaches` meets its contract. The loop's invariant: the sets are those after k rounds. Assumes nothing.
use Rattle.std.proofs.Common.{map}
use Rattle.rules.specs.Session.{unword}
use Rattle.model_chains.specs.Reaching.{Rounded}
use Rattle.model_chains.proofs.reaches.Given as goal

abbrev pub invariant-loop-k : goal.invariant-loop-k
invariant-loop-k l = Rounded (map unword l.equations) l._k l.reach
