-- `limits::sizes_ok` meets its contract. Assumes nothing.
use mathlib.Core.Path.{refl}
use Rattle.rules.specs.Limits.{sizes_ok}
use Rattle.limits.proofs.sizes_ok.Goals as goal

pub returns : goal.returns
unfolding sizes_ok
returns c = refl
