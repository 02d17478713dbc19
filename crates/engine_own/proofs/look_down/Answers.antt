-- No place before the first, and one with a move. Assumes nothing.
use mathlib.Core.Path.{refl}
use Prim.Native.Nat.{◌-◌}
use native.Mathlib.Omega.{arith}
use Rattle.lists.specs.Tests.{eqb-in, eqb_no}
use Rattle.engine_own.specs.Looks.{says_before}
use Rattle.engine_own.proofs.look_down.Goals as goal

pub returns-then-low-eq0 : goal.returns-then-low-eq0
unfolding says_before
returns-then-low-eq0 c = let e = eqb-in c.args.low 0 (omega arith) in
    rw e refl

pub tell-requires : goal.tell-requires
tell-requires c = (c.requires.x_lt_variables.0, (c.requires.targets (c.args.low - 1) (omega (arith, c.requires.x_lt_variables.1.0)), c.requires.x_lt_variables.1.1))

pub returns : goal.returns
unfolding says_before
returns c = let e = (eqb_no c.args.low 0).1 (λ z. omega arith) in
    rw e c.tell.ensures
