-- `model_judge::past_labels` meets its contract. Assumes nothing.
use mathlib.Core.Path.{refl}
use Rattle.std.proofs.Common.{subst}
use Rattle.model_judge.specs.Kept.{kept-prop}
use Rattle.model_judge.specs.Passing.{Passed, with_labels}
use Rattle.model_judge.specs.PassingLaws.{labels-passed}
use Rattle.model_judge.proofs.past_labels.Goals as goal

pub returns : goal.returns
returns c = let h = c.args.h in
    λ l.
    let a = labels-passed l _ h.so_far h.at _ c.requires.1 c.labels_run-run.ensures in
    (_, _, refl, subst (λ q. Passed l c.args.bytes.now h.so_far h.at (with_labels h.so_far c.labels_run-run.result q) c.labels_run-run.result.at) (kept-prop _ a.0 _) a.1)
