-- Both tests. Assumes nothing.
use mathlib.Core.Path.{refl}
use Rattle.rules.specs.Rooms.{lent_ok}
use Rattle.limits.proofs.lent_ok.Goals as goal

pub returns : goal.returns
unfolding lent_ok
returns c = rw (c.rooms_ok.ensures, c.work_ok.ensures) refl
