-- The test finds a change that is wrong. Assumes nothing.
use Rattle.std.proofs.Common.{rules}
use Rattle.batch_judge.specs.Faults.{first-misplaces}
use Rattle.batch_judge.proofs.Judgement.misplaces.Goals as goal

pub returns : goal.returns
returns c = first-misplaces c.args.self.now.moves.now c.args.self.now.changes.now _ _ c.first_fault.ensures (λ i w o k. search rules)
