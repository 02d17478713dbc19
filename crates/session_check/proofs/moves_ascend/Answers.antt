use Rattle.std.proofs.Common.{sym, ◌∙◌, arith}
use Rattle.session_check.specs.MoveWalk.{ascend-start, ascend-turn, ascend-over}
use Rattle.session_check.proofs.moves_ascend.Goals as goal

pub loop-i-init : goal.loop-i-init
loop-i-init c = ascend-start c.args.moves.now

pub loop-i-preserved : goal.loop-i-preserved
loop-i-preserved c = ascend-turn c.args.moves.now c.loop-i.i c.loop-i.ok _ (omega arith) c.loop-i.invariant

pub returns : goal.returns
returns c = sym (ascend-over c.args.moves.now c.loop-i.i c.loop-i.ok (omega arith)) ∙ c.loop-i.invariant
