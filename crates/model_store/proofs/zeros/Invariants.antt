-- `model_store::zeros` meets its contract. The loop's invariant: the zeros so far, put before those still to come, are all of them.
-- Assumes nothing.
use Rattle.std.proofs.Common.{◌≡◌, ◌-◌, length, replicate}
use Rattle.std.proofs.lemmas.List.Edits.{sets}
use Rattle.model_store.proofs.zeros.Given as goal

abbrev pub invariant-loop-i : goal.invariant-loop-i
invariant-loop-i l = (length l.room ≡ length l.initial.room) × (sets l.initial.room l.from (replicate (l.to - l.from) 0) ≡ sets l.room l.i (replicate (l.to - l.i) 0))
