-- The loop keeps whether some mark of those gone through is odd. Assumes nothing.
use Rattle.std.proofs.Common.{◌≡◌}
use Rattle.lists.specs.Lists.{some_below}
use Rattle.engine_shift.specs.Seeds.{odd_at}
use Rattle.engine_shift.proofs.row.Row.odd.Given as goal

abbrev pub invariant-loop-mark : goal.invariant-loop-mark
invariant-loop-mark l = l.odd ≡ some_below l.mark-index (λ s. odd_at l.self.marks.now s)
