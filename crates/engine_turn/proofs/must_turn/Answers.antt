-- By whether the operands are to be asked. Assumes nothing.
use mathlib.Core.Path.{sym, ap, ◌∙◌, subst}
use mathlib.Core.Bool.{Bool, true, cond}
use Prim.Native.Nat.{ℕ}
use Rattle.engine_index.specs.Operands.{owner_in}
use Rattle.engine_turn.specs.Scene.{scene_in, fails, Leaner, AlongBy}
use Rattle.engine_turn.proofs.must_turn.Goals as goal

pub easy_fails-requires : goal.easy_fails-requires
easy_fails-requires c = let a = c.args in
    let scene = scene_in a.view.now in
    let y = sym c.owner_in.ensures in
    record {
      leaner = subst (λ (n : ℕ). Leaner scene n a.s.0) y c.requires.leaner;
      along = subst (λ (n : ℕ). AlongBy scene a.way n a.s.0) y c.requires.along;
    }

pub returns-then-asks : goal.returns-then-asks
returns-then-asks c = let a = c.args in
    let scene = scene_in a.view.now in
    c.easy_fails.ensures ∙ ap (λ (n : ℕ). fails scene n a.s.0) c.owner_in.ensures
    ∙ ap (λ (b : Bool). cond b (fails scene (owner_in a.o) a.s.0) true) (sym c.if-asks.true)

pub returns : goal.returns
returns c = let a = c.args in
    let scene = scene_in a.view.now in
    ap (λ (b : Bool). cond b (fails scene (owner_in a.o) a.s.0) true) (sym c.if-asks.false)
