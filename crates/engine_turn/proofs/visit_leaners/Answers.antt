use mathlib.Core.Path.{◌∙◌}
use Prim.Native.Nat.{◌<◌}
use native.Mathlib.Omega.{arith}
use lib.ListN.{length}
use Rattle.engine_table.specs.Limits.{limits}
use Rattle.engine_turn.specs.Scene.{Line, line_of}
use Rattle.engine_turn.specs.LeanerWalk.{walk_begins, walk_none, walk-operand, walk-bounded, walk-room, walk_ends, walk-goes, walk_inside, walk-falls}
use Rattle.engine_turn.specs.Inside.{standing-in}
use Rattle.engine_turn.proofs.visit_leaners.Goals.{Start}
use Rattle.engine_turn.proofs.visit_leaners.Goals as goal

-- The variable is one of the equations', and the line with which the walk begins.
x-low : (c : Start) → c.args.x.0 < length c.args.view.now.known.now.equations.now
x-low c = omega (arith, c.requires.x_lt_variables.0, (standing-in c.args.view.now).drawn.long_equations)

abbrev line_at : Start → Line
line_at c = line_of c.args.marks.now c.args.queue.now c.args.at.tail c.args.at.visits

pub offset_bounds-operand-to : goal.offset_bounds-operand-to
offset_bounds-operand-to c = let z = limits (standing-in c.args.view.now).drawn in
    omega (arith, c.requires.x_lt_variables.0)

pub bounds-operand-to : goal.bounds-operand-to
bounds-operand-to c = omega (arith, x-low (goal.at.bounds-operand-to c).Start, c.args.view.now.named.long)

pub returns-then-o-eq0 : goal.returns-then-o-eq0
returns-then-o-eq0 c = let a = c.args in
    walk_none (standing-in c.args.view.now) c.args.view.now.named a.view.now.settling a.x.0 a.s.0 (x-low (goal.at.returns-then-o-eq0 c).Start) (line_at (goal.at.returns-then-o-eq0 c).Start) c.if-o-eq0.true

pub loop-operand-init : goal.loop-operand-init
loop-operand-init c = let a = c.args in
    walk_begins (standing-in c.args.view.now) c.args.view.now.named a.view.now.settling a.x.0 a.s.0 (x-low (goal.at.loop-operand-init c).Start) (line_at (goal.at.loop-operand-init c).Start) c.if-o-eq0.false

pub visit_operand-r-requires : goal.visit_operand-r-requires
visit_operand-r-requires c = let a = c.args in
    let w = c.loop-operand.invariant in
    record {
      operand_of = walk-operand (standing-in c.args.view.now) c.args.view.now.named a.view.now.settling a.x.0 a.s.0 (x-low (goal.at.visit_operand-r-requires c).Start) (line_at (goal.at.visit_operand-r-requires c).Start) w;
      s_lt_states = (c.requires.x_lt_variables.1.0, (w.on.long_marks ∙ c.requires.x_lt_variables.1.1.0, walk-bounded (standing-in c.args.view.now) c.args.view.now.named a.view.now.settling a.x.0 a.s.0 (x-low (goal.at.visit_operand-r-requires c).Start) (line_at (goal.at.visit_operand-r-requires c).Start) w c.requires.x_lt_variables.1.1.1));
      room = walk-room (standing-in c.args.view.now) c.args.view.now.named a.view.now.settling a.x.0 a.s.0 (x-low (goal.at.visit_operand-r-requires c).Start) (line_at (goal.at.visit_operand-r-requires c).Start) w c.requires.room;
    }

pub returns-then-next-eq0 : goal.returns-then-next-eq0
returns-then-next-eq0 c = let a = c.args in
    walk_ends (standing-in c.args.view.now) c.args.view.now.named a.view.now.settling a.x.0 a.s.0 (x-low (goal.at.returns-then-next-eq0 c).Start) (line_at (goal.at.returns-then-next-eq0 c).Start) c.loop-operand.invariant c.visit_operand-r.ensures c.link_in-next.result c.link_in-next.ensures.0 c.if-next-eq0.true

pub offset_bounds-operand-next : goal.offset_bounds-operand-next
offset_bounds-operand-next c = omega (arith, c.link_in-next.ensures.1)

pub bounds-operand-next : goal.bounds-operand-next
bounds-operand-next c = let a = c.args in
    walk_inside (standing-in c.args.view.now) c.args.view.now.named a.view.now.settling a.x.0 a.s.0 (x-low (goal.at.bounds-operand-next c).Start) (line_at (goal.at.bounds-operand-next c).Start) c.loop-operand.invariant c.link_in-next.result c.link_in-next.ensures.0 c.if-next-eq0.false

pub loop-operand-smaller : goal.loop-operand-smaller
loop-operand-smaller c = let a = c.args in
    walk-falls (standing-in c.args.view.now) c.args.view.now.named a.view.now.settling a.x.0 a.s.0 (x-low (goal.at.loop-operand-smaller c).Start) (line_at (goal.at.loop-operand-smaller c).Start) c.loop-operand.invariant c.link_in-next.result c.link_in-next.ensures.0 c.if-next-eq0.false

pub loop-operand-preserved : goal.loop-operand-preserved
loop-operand-preserved c = let a = c.args in
    walk-goes (standing-in c.args.view.now) c.args.view.now.named a.view.now.settling a.x.0 a.s.0 (x-low (goal.at.loop-operand-preserved c).Start) (line_at (goal.at.loop-operand-preserved c).Start) c.loop-operand.invariant c.visit_operand-r.ensures c.link_in-next.result c.link_in-next.ensures.0 c.if-next-eq0.false
