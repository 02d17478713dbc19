-- A join visits one pair, a step those of a chain. Assumes nothing.
use mathlib.Core.Path.{◌≡◌, sym, ap, ◌∙◌, subst}
use mathlib.Core.Bool.{Bool, ◌&&◌}
use mathlib.Core.List.{List}
use Prim.Native.Nat.{ℕ}
use native.Mathlib.Omega.{arith}
use lib.ListN.{length}
use Rattle.engine_index.specs.Operands.{easy_in}
use Rattle.engine_turn.specs.Scene.{scene_in, line_of, visit_all, Leans, Bounded, Room}
use Rattle.engine_turn.specs.OperandWords.{operand-leans, pairs-join, pairs-step, join-along, step-head, head-inside}
use Rattle.engine_turn.specs.Inside.{standing-in}
use Rattle.engine_turn.proofs.visit_operand.Goals.{Start}
use Rattle.engine_turn.proofs.visit_operand.Goals as goal

-- What a visit takes from the word, where `easy` says whether its variable is easy.
leans : (c : Start) (easy : Bool) → easy ≡ easy_in c.args.o →
    (let a = c.args in Leans (scene_in a.view.now) a.view.now.settling (a.view.now.settling && easy) a.o)
leans c easy e =
    let a = c.args in
    let scene = scene_in a.view.now in
    subst (λ (b : Bool). Leans scene a.view.now.settling (a.view.now.settling && b) a.o) (sym e) (operand-leans (standing-in c.args.view.now) c.requires.operand_of a.view.now.settling)

pub visit-requires : goal.visit-requires
visit-requires c = let a = c.args in
    let scene = scene_in a.view.now in
    let v = line_of a.marks.now a.queue.now a.at.tail a.at.visits in
    let o = c.requires.operand_of in
    let q = c.requires.s_lt_states in
    let join = sym c.step_in.ensures ∙ c.if-not-step_in.true in
    let f = pairs-join (standing-in c.args.view.now) o a.s.0 join in
    let e = ap length f in
    let room = subst (λ (l : List ℕ). Room scene a.view.now.settling l v) f c.requires.room in
    record {
      leans = (leans (goal.at.visit-requires c).Start c.easy_in.result c.easy_in.ensures, q.0);
      marks_len = (q.1.0, (omega (arith, q.1.1.0, e), omega (arith, q.1.1.1, e)));
      along = join-along (standing-in c.args.view.now) o a.s.0 0 join;
      room = room;
    }

pub returns-then-not-step_in : goal.returns-then-not-step_in
returns-then-not-step_in c = let a = c.args in
    let scene = scene_in a.view.now in
    let v = line_of a.marks.now a.queue.now a.at.tail a.at.visits in
    let o = c.requires.operand_of in
    let q = c.requires.s_lt_states in
    let join = sym c.step_in.ensures ∙ c.if-not-step_in.true in
    c.visit.ensures ∙ ap (λ (l : List ℕ). visit_all scene a.view.now.settling l v) (sym (pairs-join (standing-in c.args.view.now) o a.s.0 join))

pub visit_sources-requires : goal.visit_sources-requires
visit_sources-requires c = let a = c.args in
    let scene = scene_in a.view.now in
    let v = line_of a.marks.now a.queue.now a.at.tail a.at.visits in
    let o = c.requires.operand_of in
    let q = c.requires.s_lt_states in
    let step = sym c.step_in.ensures ∙ c.if-not-step_in.false in
    let e = c.head_in-head.ensures in
    let f = pairs-step (standing-in c.args.view.now) o a.s.0 c.head_in-head.result step e in
    let room = subst (λ (l : List ℕ). Room scene a.view.now.settling l v) f c.requires.room in
    record {
      leans = (leans (goal.at.visit_sources-requires c).Start c.easy_in.result c.easy_in.ensures, step-head (standing-in c.args.view.now) o a.s.0 q.0 step _ e);
      head_bound = (head-inside (standing-in c.args.view.now) o a.s.0 q.0 step _ e, (q.1.0, subst (Bounded a.at.tail a.at.visits) f q.1.1));
      room = room;
    }

pub returns : goal.returns
returns c = let a = c.args in
    let scene = scene_in a.view.now in
    let v = line_of a.marks.now a.queue.now a.at.tail a.at.visits in
    let o = c.requires.operand_of in
    let q = c.requires.s_lt_states in
    let step = sym c.step_in.ensures ∙ c.if-not-step_in.false in
    c.visit_sources.ensures ∙ ap (λ (l : List ℕ). visit_all scene a.view.now.settling l v) (sym (pairs-step (standing-in c.args.view.now) o a.s.0 c.head_in-head.result step c.head_in-head.ensures))
