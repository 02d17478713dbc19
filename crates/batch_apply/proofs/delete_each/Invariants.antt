-- The room holds what the changes passed have made of it. Assumes nothing.
use Rattle.std.proofs.Common.{◌≡◌, ◌-◌, length, false}
use Rattle.batch_judge.specs.Changes.{changes_from}
use Rattle.batch_apply.specs.Kept.{kept, changed_all}
use Rattle.batch_apply.proofs.delete_each.Given as goal

abbrev pub invariant-loop-w : goal.invariant-loop-w
invariant-loop-w l =
    (length l.moves ≡ length l.initial.moves)
    × (kept l.moves l.held ≡ changed_all false (changes_from l.changes (length l.changes - length l.yielded)) (kept l.initial.moves l.n))
