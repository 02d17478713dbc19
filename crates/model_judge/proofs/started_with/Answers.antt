-- `model_judge::started_with` meets its contract: sizes inside their limits, and zeros. Assumes nothing.
use Rattle.model_judge.specs.RecordTurns.{started-kept}
use Rattle.model_judge.proofs.started_with.Goals as goal

pub invariant_of-result : goal.invariant_of-result
invariant_of-result c =
    let q = c.default.ensures in
    let r = c.default-2.ensures in
    record { kept = rw (q.0, q.1.0, q.1.1.0, q.1.1.1, r.0, r.1.0, r.1.1) (started-kept c.args.z c.requires) }
