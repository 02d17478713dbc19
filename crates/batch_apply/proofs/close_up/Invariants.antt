-- The closing up still to be made of what is there comes to the whole. Assumes nothing.
use Rattle.std.proofs.Common.{◌≡◌, ◌-◌, ◌≤◌, length}
use Rattle.batch_apply.specs.Striking.{closing}
use Rattle.batch_apply.proofs.close_up.Given as goal

abbrev pub invariant-loop-i : goal.invariant-loop-i
invariant-loop-i l = (length l.moves ≡ length l.initial.moves) × (l.to ≤ l.i) × (closing (l.n - l.i) l.to l.i l.moves ≡ closing l.n 0 0 l.initial.moves)
