-- To be in range and to ascend is all that is asked of the moves. Assumes nothing.
use mathlib.Core.Path.{sym, ap₂, ◌∙◌}
use mathlib.Core.Bool.{Bool, ◌&&◌}
use Rattle.session_check.specs.MoveWalk.{moves-split}
use Rattle.session_check.proofs.moves_ok.Goals as goal

pub returns : goal.returns
returns c = ap₂ (λ (x y : Bool). x && y) c.moves_in_range.ensures c.moves_ascend.ensures
    ∙ sym (moves-split c.args.sizes 0 c.args.moves.now)
