-- `model_judge::judge_turn` meets its contract. Assumes nothing.
use Rattle.std.proofs.Common.{sym, subst}
use Rattle.std.specs.declared.ops.ControlFlow.TheVariants.{Continue}
use Rattle.limits.specs.Lent.{lengths_by}
use Rattle.model_judge.specs.Passing.{Forwarded}
use Rattle.model_judge.specs.Turning.{OneTurn}
use Rattle.model_judge.specs.AskedLaws.{ready-askable, ready-inside, ready-asked}
use Rattle.model_judge.proofs.judge_turn.Goals as goal

pub asked-requires : goal.asked-requires
asked-requires c = rw c.in_ok-u.was at (ready-askable _ _ _ c.args.t _ c.requires c.turn.ensures)

pub forward-requires : goal.forward-requires
forward-requires c = rw c.in_ok-v.was at (ready-inside _ _ _ c.args.t _ c.asked.result c.requires (rw c.in_ok-u.was at c.turn.ensures) c.asked.ensures)

pub returns : goal.returns
returns c = ready-asked _ _ _ c.args.t _ c.asked.result _ c.requires (rw c.in_ok-u.was at c.turn.ensures) c.asked.ensures
    (subst (λ (v : OneTurn). Forwarded (lengths_by c.args.l) c.args.bytes.now v (Continue c.forward.result)) (sym c.in_ok-v.was) c.forward.ensures)
