-- The places of the moves that the changes passed delete are noted. Assumes nothing.
use Rattle.std.proofs.Common.{◌≡◌, ◌-◌, ◌≤◌, ◌+◌, length}
use Rattle.batch_judge.specs.Changes.{changes_from}
use Rattle.batch_apply.specs.Striking.{noted, noted_all}
use Rattle.batch_apply.proofs.note_all.Given as goal

abbrev pub invariant-loop-w : goal.invariant-loop-w
invariant-loop-w l =
    ((length l.places ≤ l.top + length l.yielded) × (l.top ≤ length l.places))
    × (length l.places ≡ length l.initial.places)
    × (noted l.places l.top ≡ noted_all l.moves (changes_from l.changes (length l.changes - length l.yielded)) (noted l.initial.places (length l.initial.places)))
