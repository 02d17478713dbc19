-- `model_chains::round` meets its contract. The loop's invariant: the sets below x are those of the round. Assumes nothing.
use Rattle.std.proofs.Common.{map}
use Rattle.rules.specs.Session.{unword}
use Rattle.model_chains.specs.Reaching.{Round}
use Rattle.model_chains.proofs.round.Given as goal

abbrev pub invariant-loop-x : goal.invariant-loop-x
invariant-loop-x l = Round (map unword l.equations) l.old l.initial.new l.x l.new
