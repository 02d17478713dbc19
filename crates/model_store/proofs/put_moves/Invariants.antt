-- `model_store::put_moves` meets its contract. The loop's invariant: the moves so far, put before those still to come, are all of
-- them. Assumes nothing.
use Rattle.std.proofs.Common.{◌≡◌, ◌+◌, ◌-◌, ◌*◌, ◌≤◌, length}
use Rattle.std.proofs.lemmas.List.Edits.{sets}
use Rattle.model_store.specs.Stored.{moves_from}
use Rattle.model_store.proofs.put_moves.Given as goal

abbrev pub invariant-loop-i : goal.invariant-loop-i
invariant-loop-i l = (l.at + 6 * l.n ≤ length l.bytes) × (length l.moves ≡ length l.initial.moves)
    × (sets l.initial.moves l.from (moves_from l.bytes l.at l.n) ≡ sets l.moves (l.from + l.i) (moves_from l.bytes (l.at + 6 * l.i) (l.n - l.i)))
