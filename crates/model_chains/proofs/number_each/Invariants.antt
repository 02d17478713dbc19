-- `model_chains::number_each` meets its contract. The loop's invariant: the equations below x have their components' numbers, the others
-- are as they were. Assumes nothing.
use mathlib.Core.Path.{◌≡◌}
use mathlib.Core.List.{map}
use lib.ListN.{length, take}
use Rattle.lists.specs.Lists.{mask}
use Rattle.rules.specs.Session.{unword}
use Rattle.model_chains.specs.Reaching.{Reaches}
use Rattle.model_chains.specs.Numbering.{stands_by}
use Rattle.model_chains.specs.Numbers.{Numbered}
use Rattle.model_chains.proofs.number_each.Given as goal

abbrev pub invariant-loop-x : goal.invariant-loop-x
invariant-loop-x l = Reaches (map unword l.initial.equations) l.reach × (l.set ≡ mask (length (take l.n l.reach)) (stands_by (take l.n l.reach))) × Numbered l.initial.equations l.x l.equations
