-- Those found among the changes passed and those among the others are all. Assumes nothing.
use Rattle.std.proofs.Common.{◌≡◌, ◌+◌, ◌≤◌}
use Rattle.laws.specs.moves.Emptied.{moves_of}
use Rattle.words.specs.Words.{changes_of}
use Rattle.batch_judge.specs.Changes.{changes_from}
use Rattle.batch_judge.specs.Hangs.{named_by}
use Rattle.batch_judge.proofs.Judgement.named_of.Given as goal

abbrev pub invariant-loop-w : goal.invariant-loop-w
invariant-loop-w l =
    (l.found ≤ l.w-index)
    × (l.found + moves_of l.here.0 (named_by l.inserting (changes_from l.self.changes.now l.w-index)) ≡ moves_of l.here.0 (named_by l.inserting (changes_of l.self.changes.now)))
