-- `model_chains::standing` meets its contract. The loop's invariant: the set has those below x that stand. Assumes nothing.
use Rattle.std.proofs.Common.{◌≡◌}
use Rattle.lists.specs.Lists.{mask}
use Rattle.model_chains.specs.Numbering.{stands_by}
use Rattle.model_chains.proofs.standing.Given as goal

abbrev pub invariant-loop-x : goal.invariant-loop-x
invariant-loop-x l = l.set ≡ mask l.x (stands_by l.reach)
