-- The loop keeps whether a pair of the states gone through has the value. Assumes nothing.
use Rattle.std.proofs.Common.{◌≡◌, get_or, eqb}
use Rattle.lists.specs.Lists.{some_below}
use Rattle.engine_settle.proofs.row_has.Given as goal

abbrev pub invariant-loop-x : goal.invariant-loop-x
invariant-loop-x l = l.any ≡ some_below l.x-index (λ p. eqb (get_or l.row p 0) l.b)
