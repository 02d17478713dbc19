-- Both rooms against their needs. Assumes nothing.
use mathlib.Core.Path.{refl}
use Rattle.rules.specs.Rooms.{work_ok}
use Rattle.limits.proofs.work_ok.Goals as goal

pub returns : goal.returns
unfolding work_ok
returns c = rw (c.index_needs.ensures.0, c.queue_needs.ensures.0) refl
