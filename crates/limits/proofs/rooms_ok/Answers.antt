-- `limits::rooms_ok` meets its contract. Assumes nothing.
use mathlib.Core.Path.{refl}
use Rattle.rules.specs.Rooms.{rooms_ok}
use Rattle.limits.proofs.rooms_ok.Goals as goal

pub returns : goal.returns
unfolding rooms_ok
returns c = rw c.pairs_of-n.ensures.0 refl
