-- By whether another word comes first. Assumes nothing.
use mathlib.Core.Path.{refl}
use Rattle.lists.specs.Tests.{eqb-in, eqb_no}
use Rattle.engine_index.specs.Operands.{put_first}
use Rattle.engine_index.proofs.put_first.Goals as goal

pub returns-then-old-eq0 : goal.returns-then-old-eq0
unfolding put_first
returns-then-old-eq0 c = rw (eqb-in _ 0 c.if-old-eq0.true) refl

pub returns : goal.returns
unfolding put_first
returns c = rw ((eqb_no _ 0).1 c.if-old-eq0.false) refl
