-- Before the first move all weights are to come. Assumes nothing.
use Rattle.moves.specs.Stamps.{stamp-start}
use Rattle.moves.proofs.stamp_of.Goals as goal

pub loop-m-init : goal.loop-m-init
loop-m-init c = stamp-start c.args.moves.now
