-- One row after the other, up to the pair n. Assumes nothing.
use Rattle.std.specs.Prelude.{◌≡◌, ℕ, ◌*◌, min, eqb, get_or}
use Rattle.std.proofs.Common.{sym, ap, ◌∙◌, arith, zero-mul}
use Rattle.std.proofs.Math.Nat.{min-zero}
use Rattle.lists.specs.Lists.{bit}
use Rattle.rules.specs.Session.{unword}
use Rattle.engine_table.specs.Lent.{kind_in}
use Rattle.engine_values.specs.Starts.{filled, filled_none, filled-bits, own_byte, row_set, row-begins, rows-end}
use Rattle.engine_values.proofs.own_values.Goals as goal

pub loop-x-init : goal.loop-x-init
loop-x-init c = let a = c.args in rw (zero-mul, min-zero) (filled_none (own_byte a.sizes.states a.equations.now) a.values.now)

pub loop-x-preserved : goal.loop-x-preserved
loop-x-preserved c = let a = c.args in
    let l = c.loop-x in
    let d = c.div_ceil-x-end.ensures in
    let t = c.loop-x-test.true in
    row_set a.n a.sizes.states l.x c.min-end.result c.own_byte.result (own_byte a.sizes.states a.equations.now) a.values.now l.values c.fill.new.self
    c.requires.1 (row-begins a.n a.sizes.states l.x c.requires.0 (omega arith)) c.min-end.ensures l.invariant
    (λ q h. ap (λ (y : ℕ). bit (eqb (unword (get_or a.equations.now y 0)).kind 1)) h ∙ sym c.own_byte.ensures) (c.fill.ensures.after (λ y h. h))

pub returns : goal.returns
returns c = let a = c.args in
    let f = c.loop-x-test.false in
    let e = c.loop-x.auto.x-end in
    let last : c.loop-x.x ≡ c.div_ceil-x-end.result = omega arith in
    c.loop-x.invariant
    ∙ ap (λ (x : ℕ). filled (min a.n (x * a.sizes.states)) (own_byte a.sizes.states a.equations.now) a.values.now) (last ∙ c.div_ceil-x-end.ensures)
    ∙ ap (λ (p : ℕ). filled p (own_byte a.sizes.states a.equations.now) a.values.now) (rows-end a.n a.sizes.states c.requires.0)
    ∙ filled-bits a.n (λ p. eqb (kind_in a.sizes a.equations.now p) 1) a.values.now
