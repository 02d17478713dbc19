use native.Mathlib.Omega.{arith}
use Rattle.engine_rows.specs.Filled.{filled-all}
use Rattle.engine_settle.specs.Told.{told, one_has}
use Rattle.engine_settle.proofs.row_join.Goals as goal

pub returns : goal.returns
returns c = let a = c.args in
    filled-all c.loop-s.s (λ p. told a.v (one_has a.f.now a.h.now a.c p)) a.bad.now c.loop-s.bad (omega arith) c.loop-s.invariant
