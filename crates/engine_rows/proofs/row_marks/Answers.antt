use native.Mathlib.Omega.{arith}
use Rattle.engine_rows.specs.RowLoops.{mark_at}
use Rattle.engine_rows.specs.Filled.{filled-all}
use Rattle.engine_rows.proofs.row_marks.Goals as goal

pub returns : goal.returns
returns c = let l = c.loop-s in
    let a = c.args in
    let t = c.loop-s-test.false in
    filled-all l.s (mark_at a.bad.now a.settling a.marks.now) a.marks.now l.marks (omega arith) l.invariant
