-- `model_judge::forward` meets its contract. Assumes nothing.
use mathlib.Core.Path.{refl}
use Rattle.model_judge.specs.Passing.{here}
use Rattle.model_judge.proofs.forward.Goals as goal

pub returns : goal.returns
returns c = (_, _, refl, here)
