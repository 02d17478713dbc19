-- What turns from true is taken away, what turns from false is added. Assumes nothing.
use native.Mathlib.Omega.{arith}
use Rattle.lists.specs.Tests.{eqb-in, eqb_no}
use Rattle.engine_phase.proofs.levelled.Goals as goal

pub overflow_sub-result : goal.overflow_sub-result
overflow_sub-result c = c.requires.0 (eqb-in c.args.from 1 c.if-from-eq1.true)

pub returns-then-from-eq1 : goal.returns-then-from-eq1
returns-then-from-eq1 c = let t = eqb-in c.args.from 1 c.if-from-eq1.true in
    let h = c.requires.0 t in
    rw t (omega arith)

pub overflow_add-result : goal.overflow_add-result
overflow_add-result c = let h = c.requires.1 ((eqb_no c.args.from 1).1 c.if-from-eq1.false) in
    record { fits = omega arith }

pub returns : goal.returns
returns c = let t = (eqb_no c.args.from 1).1 c.if-from-eq1.false in
    rw t (omega arith)
