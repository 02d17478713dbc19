-- The moves from this one on, and the end, are left to write. Assumes nothing.
use Rattle.model_write.specs.Spelled.{Writing, move_bytes}
use Rattle.model_write.proofs.write_moves.Given as goal

abbrev pub invariant-loop-q : goal.invariant-loop-q
invariant-loop-q l = Writing l.initial.out l.start (move_bytes l.moves 0) l.out l.at (move_bytes l.moves l.q-index)
