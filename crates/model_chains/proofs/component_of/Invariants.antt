-- The loop's invariant: `count` is how many variables below y stand for a component before x's. Assumes nothing.
use Rattle.std.proofs.Common.{◌≡◌, ◌≤◌}
use Rattle.lists.specs.Lists.{sum}
use Rattle.model_chains.specs.Numbering.{before_by}
use Rattle.model_chains.proofs.component_of.Given as goal

abbrev pub invariant-loop-y : goal.invariant-loop-y
invariant-loop-y l = (l.count ≡ sum l.y (before_by l.reach l.x)) × (l.count ≤ l.y)
