-- `model_judge::asked` meets its contract: the question is asked where the last equation with a sign has been read. Assumes nothing.
use mathlib.Core.Path.{refl}
use native.Mathlib.Omega.{arith}
use Rattle.model_judge.specs.AskedLaws.{askable-here}
use Rattle.model_judge.proofs.asked.Goals as goal

pub answered-requires : goal.answered-requires
answered-requires c = askable-here c.args.bytes.now c.args.h (rw c.in-Signed.is refl) (omega arith) c.requires
