use mathlib.Core.Path.{refl}
use native.Mathlib.Omega.{arith}
use lib.ListN.{length-set}
use Rattle.batch_read.specs.Passing.{none, more}
use Rattle.batch_read.proofs.changes_run.Goals as goal

pub loop-z-init : goal.loop-z-init
loop-z-init c = (omega arith, refl, none)

pub good_change-requires : goal.good_change-requires
good_change-requires c = c.loop-z.invariant.0

pub put_next-y-requires : goal.put_next-y-requires
put_next-y-requires c = let g = c.good_change.ensures c.loop-z-test.true in (g.inside_bytes, g.few)

pub loop-z-smaller : goal.loop-z-smaller
loop-z-smaller c = let g = (c.good_change.ensures c.loop-z-test.true).inside_bytes in
    rw c.put_next-y.ensures.0 (omega arith)

pub loop-z-preserved : goal.loop-z-preserved
loop-z-preserved c = let g = c.good_change.ensures c.loop-z-test.true in
    rw (c.put_next-y.ensures.0, c.put_next-y.ensures.1) (g.inside_bytes, simp length-set c.loop-z.invariant.1, more _ _ c.loop-z.invariant.2 g)

pub returns : goal.returns
returns c = c.loop-z.invariant.2
