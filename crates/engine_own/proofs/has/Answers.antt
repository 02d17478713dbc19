-- The pair lies in the room. Assumes nothing.
use mathlib.Core.Path.{ap}
use Prim.Native.Nat.{ℕ}
use native.Mathlib.Omega.{arith}
use lib.Dec.{eqb}
use lib.ListN.{get_or}
use Rattle.engine_own.specs.Pairs.{pair-low}
use Rattle.engine_own.proofs.has.Goals as goal

pub bounds-values-p : goal.bounds-values-p
bounds-values-p c = let a = c.args in
    let l = pair-low a.sizes a.x.0 a.s.0 c.requires.0 c.requires.1.0 in
    let e = c.pair_of-p.ensures in
    let n = c.requires.1.1 in
    omega arith

pub returns : goal.returns
returns c = ap (λ (p : ℕ). eqb (get_or c.args.values.now p 0) c.args.from) c.pair_of-p.ensures
