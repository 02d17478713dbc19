use mathlib.Core.Path.{refl}
use native.Mathlib.Omega.{arith}
use Rattle.model_store.specs.RunLaws.{labels-more}
use Rattle.model_store.specs.Stored.{none}
use Rattle.model_store.proofs.put_labels.Goals as goal

pub loop-z-init : goal.loop-z-init
loop-z-init c = (omega arith, refl, none)

pub loop-z-smaller : goal.loop-z-smaller
loop-z-smaller c = (labels-more _ _ _ _ _ _ _ _ c.loop-z.invariant (c.good_label.ensures c.loop-z-test.true) c.put_label_at-y.ensures).1

pub loop-z-preserved : goal.loop-z-preserved
loop-z-preserved c = (labels-more _ _ _ _ _ _ _ _ c.loop-z.invariant (c.good_label.ensures c.loop-z-test.true) c.put_label_at-y.ensures).0
