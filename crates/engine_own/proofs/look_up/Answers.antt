-- A place past the last, and one with a move. Assumes nothing.
use mathlib.Core.Path.{refl}
use native.Mathlib.Omega.{arith}
use Rattle.lists.specs.Tests.{ltb-in, ltb_no}
use Rattle.engine_own.specs.Looks.{says_at}
use Rattle.engine_own.proofs.look_up.Goals as goal

pub returns-then-look-high : goal.returns-then-look-high
unfolding says_at
returns-then-look-high c = rw ((ltb_no _ _).1 c.if-look-high.true) refl

pub tell-requires : goal.tell-requires
tell-requires c = (c.requires.x_lt_variables.0, (c.requires.targets c.args.high (omega arith), c.requires.x_lt_variables.1))

pub returns : goal.returns
unfolding says_at
returns c = rw (ltb-in _ _ c.if-look-high.false) c.tell.ensures
