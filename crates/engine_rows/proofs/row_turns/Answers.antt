use mathlib.Core.Path.{◌≡◌, refl, sym, ap, ◌∙◌}
use mathlib.Core.Bool.{Bool, ◌&&◌, ◌||◌}
use mathlib.Core.List.{List}
use Prim.Native.Nat.{ℕ}
use native.Mathlib.Numerals.{add-one}
use native.Mathlib.Omega.{arith}
use lib.ListN.{length, get_or}
use lib.Dec.{eqb}
use Rattle.lists.specs.Lists.{bit, some_below}
use Rattle.engine_rows.specs.RowLoops.{turn_at}
use Rattle.engine_rows.specs.Filled.{filled-bit, filled-all, none-listed}
use Rattle.engine_rows.proofs.row_turns.Goals as goal

pub loop-s-preserved : goal.loop-s-preserved
loop-s-preserved c = let a = c.args in
    let l = c.loop-s in
    let t = c.loop-s-test.true in
    let here = l.invariant.0.rest l.s (omega arith) in
    let e = ap (λ (x : ℕ). eqb (get_or a.row.now l.s 0) a.from && eqb x 1) here in
    let w = filled-bit l.s (turn_at a.row.now a.from a.bad.now) a.bad.now l.bad _ (turn_at a.row.now a.from l.bad l.s) (omega arith) l.invariant.0 e refl in
    (w, rw add-one (ap (λ (x : Bool). l.any || x) e ∙ ap (λ (x : Bool). x || turn_at a.row.now a.from a.bad.now l.s) l.invariant.1))

pub returns : goal.returns
returns c = let l = c.loop-s in
    let a = c.args in
    let t = c.loop-s-test.false in
    let n : l.s ≡ length a.bad.now = omega arith in
    let g = turn_at a.row.now a.from a.bad.now in
    let e = filled-all l.s (λ p. bit (turn_at a.row.now a.from a.bad.now p)) a.bad.now l.bad n l.invariant.0 in
    (e, λ none s. ap (λ (x : List ℕ). get_or x s 0) e ∙ none-listed (length a.bad.now) g (ap (λ (k : ℕ). some_below k g) (sym n) ∙ sym l.invariant.1 ∙ none) s)
