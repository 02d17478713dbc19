-- The two cases. Assumes nothing.
use mathlib.Core.Path.{refl}
use Rattle.engine_settle.proofs.told_by.Goals as goal

pub returns : goal.returns
returns c = rw c.if-decided.false refl
