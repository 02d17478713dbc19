-- The place of the turn is struck. Assumes nothing.
use Rattle.std.proofs.Common.{length, length-set, ap, ◌∙◌, arith}
use Rattle.batch_apply.specs.Kept.{mark}
use Rattle.batch_apply.specs.Struck.{strike-on}
use Rattle.batch_apply.proofs.strike.Goals as goal

pub loop-at-preserved : goal.loop-at-preserved
loop-at-preserved c = let s = c.loop-at in
    let long = length-set s.moves c.from.result mark in
    (ap length c.put.ensures ∙ long ∙ s.invariant.0, rw (c.put.ensures, c.from.ensures) (strike-on c.args.places.now s.moves s.at-index (omega arith) ∙ s.invariant.1))
