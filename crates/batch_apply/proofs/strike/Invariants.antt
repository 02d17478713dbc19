-- The strikes still to be made in what is there come to all of them. Assumes nothing.
use Rattle.std.proofs.Common.{◌≡◌, length, drop}
use Rattle.batch_apply.specs.Striking.{struck_at}
use Rattle.batch_apply.proofs.strike.Given as goal

abbrev pub invariant-loop-at : goal.invariant-loop-at
invariant-loop-at l = (length l.moves ≡ length l.initial.moves) × (struck_at (drop l.at-index l.places) l.moves ≡ struck_at l.places l.initial.moves)
