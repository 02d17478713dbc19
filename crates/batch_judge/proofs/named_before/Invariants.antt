-- The changes passed are the changes seen. Assumes nothing.
use Rattle.std.proofs.Common.{◌≡◌}
use Rattle.lists.specs.Lists.{elem}
use Rattle.batch_judge.specs.Judging.{seen_at}
use Rattle.batch_judge.proofs.named_before.Given as goal

abbrev pub invariant-loop-w : goal.invariant-loop-w
invariant-loop-w l = l.found ≡ elem l.q (seen_at l.changes l.w-index)
