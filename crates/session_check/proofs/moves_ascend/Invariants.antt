-- The loop's invariant: what was found of the moves before i, and that the others ascend from the last of these on, is that all
-- ascend. Assumes nothing.
use Rattle.std.proofs.Common.{◌≡◌, ◌&&◌}
use Rattle.moves.specs.Ascending.{ascends}
use Rattle.session_check.specs.MoveWalk.{ascend_from}
use Rattle.session_check.proofs.moves_ascend.Given as goal

abbrev pub invariant-loop-i : goal.invariant-loop-i
invariant-loop-i l = (l.ok && ascend_from l.moves l.i) ≡ ascends 0 l.moves
