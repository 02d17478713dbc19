-- `model_judge::past_moves` meets its contract. Assumes nothing.
use mathlib.Core.Path.{refl}
use Rattle.std.proofs.Common.{subst}
use Rattle.limits.specs.Lent.{lengths_by}
use Rattle.model_judge.specs.Kept.{kept-prop}
use Rattle.model_judge.specs.Passing.{Passed, with_moves}
use Rattle.model_judge.specs.PassingLaws.{moves-passed}
use Rattle.model_judge.proofs.past_moves.Goals as goal

pub returns : goal.returns
returns c = let h = c.args.h in
    let l = lengths_by c.args.l in
    let a = moves-passed l _ h.so_far h.at _ c.requires.1 (rw c.min-room.ensures at c.moves_run-run.ensures) in
    (_, _, refl, subst (λ q. Passed l c.args.bytes.now h.so_far h.at (with_moves h.so_far c.moves_run-run.result q) c.moves_run-run.result.at) (kept-prop _ a.0 _) a.1)
