-- Two pairs, or the own moves of a state. Assumes nothing.
use mathlib.Core.Path.{refl, sym, ap, ap₂, ◌∙◌}
use mathlib.Core.Bool.{Bool, not}
use Prim.Native.Nat.{ℕ, ◌≤◌, ◌<◌}
use native.Mathlib.Omega.{arith}
use Rattle.engine_table.specs.Table.{reads_as}
use Rattle.lists.specs.Lists.{any}
use Rattle.rules.specs.Moves.{target}
use Rattle.moves.specs.Ascending.{moves-ascend}
use Rattle.engine_table.specs.EquationWords.{drawn-sound}
use Rattle.engine_table.specs.Part.{own_moves}
use Rattle.engine_turn.specs.Scene.{scene_in, has_from}
use Rattle.engine_turn.specs.Inside.{standing-in, targets-inside, along_none, along-move, along-step, join-inside, step-inside}
use Rattle.engine_turn.specs.VisitLaws.{fails-join, fails_step}
use Rattle.engine_turn.proofs.easy_fails.Goals as goal

pub offset_bounds-equations-at : goal.offset_bounds-equations-at
offset_bounds-equations-at c = let d = (standing-in c.args.view.now).drawn.long_equations in
    let l = c.requires.leaner.variable in
    omega arith

pub bounds-equations-at : goal.bounds-equations-at
bounds-equations-at c = let d = (standing-in c.args.view.now).drawn.long_equations in
    let l = c.requires.leaner.variable in
    omega arith

pub has-first-requires : goal.has-first-requires
has-first-requires c = let a = c.args in
    let g = (standing-in c.args.view.now) in
    let l = c.requires.leaner in
    let e = c.equation_in-e.result in
    let r = reads_as c.equation_in-e.ensures in
    let six = along_none g a.y.0 a.s.0 c.requires.along c.in_default.is in
    let o : e.operator < 6 = let k = r.is_operator in omega arith in
    let i = join-inside g l e.operator e.first e.second e.block e.kind r o in
    (i.0, (l.state, g.long))

pub has-second-requires : goal.has-second-requires
has-second-requires c = let a = c.args in
    let g = (standing-in c.args.view.now) in
    let l = c.requires.leaner in
    let e = c.equation_in-e.result in
    let r = reads_as c.equation_in-e.ensures in
    let six = along_none g a.y.0 a.s.0 c.requires.along c.in_default.is in
    let o : e.operator < 6 = let k = r.is_operator in omega arith in
    let i = join-inside g l e.operator e.first e.second e.block e.kind r o in
    (i.1, (l.state, g.long))

pub returns : goal.returns
returns c = let a = c.args in
    let g = (standing-in c.args.view.now) in
    let l = c.requires.leaner in
    let e = c.equation_in-e.result in
    let r = reads_as c.equation_in-e.ensures in
    let six = along_none g a.y.0 a.s.0 c.requires.along c.in_default.is in
    let o : e.operator < 6 = let k = r.is_operator in omega arith in
    let scene = scene_in a.view.now in
    rw (c.has-first.ensures, c.has-second.ensures) (fails-join scene a.y.0 a.s.0 e.operator e.first e.second e.block e.kind r o)

pub leads_from-requires : goal.leads_from-requires
leads_from-requires c = let a = c.args in
    let g = (standing-in c.args.view.now) in
    let l = c.requires.leaner in
    let e = c.equation_in-e.result in
    let r = reads_as c.equation_in-e.ensures in
    let way = along-move g a.y.0 a.s.0 c.requires.along c.in-Some.is in
    let six = along-step g way refl in
    let o : 6 ≤ e.operator = let k = r.is_operator in omega arith in
    let own = way.own refl in
    let i = step-inside g l e.operator e.first e.second e.block e.kind r o in
    record {
      x_lt_variables = (i.1.1, (own.0, g.long));
      targets = targets-inside g;
      moves_value = moves-ascend a.view.now.known.now.sizes 0 a.view.now.known.now.moves.now (drawn-sound g.drawn).moves;
    }

pub returns-in-Some : goal.returns-in-Some
returns-in-Some c = let a = c.args in
    let g = (standing-in c.args.view.now) in
    let l = c.requires.leaner in
    let e = c.equation_in-e.result in
    let r = reads_as c.equation_in-e.ensures in
    let way = along-move g a.y.0 a.s.0 c.requires.along c.in-Some.is in
    let six = along-step g way refl in
    let o : 6 ≤ e.operator = let k = r.is_operator in omega arith in
    let own = way.own refl in
    let scene = scene_in a.view.now in
    let f : ℕ → Bool = λ (m : ℕ). has_from scene e.second (target m) in
    ap not (c.leads_from.ensures ∙ ap₂ {C = Bool} (λ (s k : ℕ). any f (own_moves s k a.view.now.known.now.moves.now)) own.1.0 (own.1.1 ∙ sym r.is_first))
    ∙ fails_step scene a.y.0 a.s.0 e.operator e.first e.second e.block e.kind r o
