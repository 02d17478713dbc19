use Rattle.std.proofs.Common.{refl, sym, ◌∙◌, arith}
use Rattle.rules.specs.Model.{move_ok}
use Rattle.session_check.specs.FrontWalk.{all-turn, all-over}
use Rattle.session_check.specs.MoveWalk.{inside}
use Rattle.session_check.proofs.moves_in_range.Goals as goal

pub loop-q-init : goal.loop-q-init
loop-q-init c = refl

pub loop-q-preserved : goal.loop-q-preserved
loop-q-preserved c = let z = c.args.sizes in
    all-turn (inside z.states z.actions) c.args.moves.now c.loop-q.q-index c.loop-q.ok _ _ c.in_range-ok.ensures (omega arith) c.loop-q.invariant

pub returns : goal.returns
unfolding move_ok
returns c = let z = c.args.sizes in
    sym (all-over (inside z.states z.actions) c.args.moves.now c.loop-q.q-index c.loop-q.ok (omega arith)) ∙ c.loop-q.invariant
