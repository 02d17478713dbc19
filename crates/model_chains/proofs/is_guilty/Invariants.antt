-- The loop's invariant: `found` tells whether a variable below y is tied to x and has the other sign. Assumes nothing.
use Rattle.std.proofs.Common.{◌≡◌, map}
use Rattle.lists.specs.Lists.{some_below}
use Rattle.rules.specs.Session.{unword}
use Rattle.model_chains.specs.Numbering.{against_by}
use Rattle.model_chains.proofs.is_guilty.Given as goal

abbrev pub invariant-loop-y : goal.invariant-loop-y
invariant-loop-y l = l.found ≡ some_below l.y (against_by (map unword l.equations) l.reach l.x)
