use mir.Val.{bool_byte}
use Rattle.std.proofs.Common.{Bool, ℕ, ◌/◌, get_or, set, ap, ◌∙◌, arith, take_all, take}
use Rattle.std.specs.Prelude.{◌&&◌, ◌||◌, eqb}
use Rattle.lists.specs.Lists.{any}
use Rattle.rules.specs.Moves.{source}
use Rattle.engine_shift.specs.Adds.{adds_same, adds-word, byte-found}
use Rattle.engine_shift.specs.Seeds.{touches, touches_at}
use Rattle.engine_shift.proofs.add_changes.Goals as goal

pub loop-w-preserved : goal.loop-w-preserved
loop-w-preserved c = let a = c.args in
    let row = a.row in
    let l = c.loop-w in
    let t = c.loop-w-test.true in
    let h = c.requires.inside l.w-index t in
    let e = c.source_of-s.ensures ∙ ap source c.move_of.ensures in
    let f : ℕ → Bool = touches row.values.now row.marks.now row.earlier a.kind.gaining a.b a.kind.action.0 0 in
    let x : Bool = c.touches-hit.result in
    let r = c.source_of-s.result.0 in
    adds-word f (λ (w : ℕ). source (w / 2)) a.changes.now a.bad.now l.bad l.w-index _ (bool_byte (eqb (get_or l.bad r 0) 1 || x)) (omega arith) (omega (arith, h)) l.invariant
    (byte-found l.bad r (source (get_or a.changes.now l.w-index 0 / 2)) x (f (get_or a.changes.now l.w-index 0)) e c.touches-hit.ensures)
    (ap (λ (n : ℕ). set l.bad n (bool_byte (eqb (get_or l.bad r 0) 1 || x))) e)

pub returns : goal.returns
unfolding touches_at
returns c = let a = c.args in
    let r = a.row in
    let l = c.loop-w in
    let f : ℕ → ℕ → Bool = λ s w. touches r.values.now r.marks.now r.earlier a.kind.gaining a.b a.kind.action.0 0 w && eqb (source (w / 2)) s in
    adds_same (λ s. any (f s) (take l.w-index a.changes.now)) (touches_at a.changes.now r.values.now r.marks.now r.earlier a.kind.gaining a.b a.kind.action.0 0) a.bad.now l.bad
    (λ s h. ap (any (f s)) (take_all l.w-index a.changes.now (omega arith))) l.invariant
