-- `limits::move_ok` meets its contract. Assumes nothing.
use mathlib.Core.Path.{refl}
use Rattle.rules.specs.Model.{move_ok}
use Rattle.limits.proofs.move_ok.Goals as goal

pub returns : goal.returns
unfolding move_ok
returns c = refl
