use native.Mathlib.Omega.{arith}
use Rattle.rules.specs.Values.{state, holds}
use Rattle.engine_rows.specs.Filled.{filled-all}
use Rattle.engine_settle.specs.Told.{told}
use Rattle.engine_settle.proofs.row_label.Goals as goal

pub returns : goal.returns
returns c = let a = c.args in
    filled-all c.loop-s.s (λ p. told a.v (holds a.labels.now (state p) a.q)) a.bad.now c.loop-s.bad (omega arith) c.loop-s.invariant
