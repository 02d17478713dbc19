-- The test finds a change whose move was named before. Assumes nothing.
use Rattle.std.proofs.Common.{rules}
use Rattle.batch_judge.specs.Faults.{first-repeats}
use Rattle.batch_judge.proofs.Judgement.repeats.Goals as goal

pub returns : goal.returns
returns c = first-repeats c.args.self.now.changes.now _ _ c.first_fault.ensures (λ i w o k. search rules)
