use mathlib.Core.List.{List}
use mathlib.Core.Path.{sym, ap, ◌∙◌}
use Prim.Native.Nat.{ℕ, ◌+◌, ◌-◌}
use native.Mathlib.Omega.{arith}
use lib.Seq.{sets}
use lib.ListN.{length, replicate, length-set}
use Rattle.model_store.specs.StoreLaws.{zeros-step, zeros-end}
use Rattle.model_store.proofs.zeros.Goals as goal

pub loop-i-preserved : goal.loop-i-preserved
loop-i-preserved c = let e = c.put.ensures in
    let i = c.loop-i.i in
    let to = c.args.to in
    (ap length e ∙ simp length-set c.loop-i.invariant.0, c.loop-i.invariant.1 ∙ zeros-step c.loop-i.room i to (omega arith) ∙ sym (ap (λ (v : List ℕ). sets v (i + 1) (replicate (to - (i + 1)) 0)) e))

pub returns : goal.returns
returns c = sym (c.loop-i.invariant.1 ∙ zeros-end c.loop-i.room c.loop-i.i c.args.to (omega arith))
