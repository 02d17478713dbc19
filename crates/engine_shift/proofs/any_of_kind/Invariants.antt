-- The loop keeps whether some change of those gone through is of the kind. Assumes nothing.
use Rattle.std.proofs.Common.{◌≡◌, take}
use Rattle.lists.specs.Lists.{any}
use Rattle.engine_shift.specs.Seeds.{of_kind}
use Rattle.engine_shift.proofs.any_of_kind.Given as goal

abbrev pub invariant-loop-w : goal.invariant-loop-w
invariant-loop-w l = l.found ≡ any (of_kind l.kind.gaining l.kind.action.0) (take l.w-index l.changes)
