-- A move of another part, and one of the part, which leads to the value or does not. Assumes nothing.
use mathlib.Core.Path.{refl, sym, ap}
use mathlib.Core.Bool.{Bool}
use Rattle.std.specs.Prelude.{Some}
use Rattle.lists.specs.Tests.{eqb_no, eqb-in}
use Rattle.engine_own.specs.Looks.{says}
use Rattle.engine_own.specs.Pairs.{target-tells}
use Rattle.engine_own.proofs.tell.Goals as goal

pub returns-then-own_of-look : goal.returns-then-own_of-look
unfolding says
returns-then-own_of-look c = rw (sym c.own_of.ensures, (eqb_no _ _).1 c.if-own_of-look.true) refl

pub returns : goal.returns
unfolding says
returns c = let l = c.args.look.now in
    let t = target-tells l.sizes l.values.now l.from l.x.0 c.args.m _ _ _ c.target_of.ensures c.has.ensures refl in
    rw (sym c.own_of.ensures, eqb-in _ _ c.if-own_of-look.false) (ap (λ (b : Bool). Some b) (sym t))
