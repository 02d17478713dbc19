-- The update works on the fronts of longer rooms. Assumes nothing.
use mathlib.Core.Path.{sym, ap, ◌∙◌, subst}
use Prim.Native.Nat.{ℕ, ◌≤◌}
use native.Mathlib.Omega.{arith}
use lib.ListN.{length, take, replicate}
use lib.Seq.{length-take-le}
use Rattle.words.specs.Words.{changes_of}
use Rattle.engine.specs.Held.{model_in}
use Rattle.engine_phase.specs.Started.{Started}
use Rattle.engine.specs.Updates.{moved_in, cleared-part}
use Rattle.engine.proofs.move_values.Goals.{After-set_first, After-pairs_of-p}
use Rattle.engine.proofs.move_values.Goals as goal

-- The values have a place for each pair, and so have the marks as they were cleared.
values-long : (c : After-pairs_of-p) → c.pairs_of-p.result ≤ length c.args.values.now
values-long c =
    let is-pairs = c.pairs_of-p.ensures.0 in
    omega (arith, c.requires.sizes_in_bounds.0)

marks-long : (c : After-set_first) → c.pairs_of-p.result ≤ length c.set_first.new.room
marks-long c =
    let is-pairs = c.pairs_of-p.ensures.0 in
    let cleared = c.set_first.auto.room in
    omega (arith, c.requires.sizes_in_bounds.1)

pub slice_bounds-index_and_turn-end : goal.slice_bounds-index_and_turn-end
slice_bounds-index_and_turn-end c = values-long (goal.at.slice_bounds-index_and_turn-end c).After-pairs_of-p

pub slice_bounds-index_and_turn-end-2 : goal.slice_bounds-index_and_turn-end-2
slice_bounds-index_and_turn-end-2 c = sym (length-take-le _ _ (values-long (goal.at.slice_bounds-index_and_turn-end-2 c).After-pairs_of-p))

pub slice_bounds-index_and_turn-end-3 : goal.slice_bounds-index_and_turn-end-3
slice_bounds-index_and_turn-end-3 c = marks-long (goal.at.slice_bounds-index_and_turn-end-3 c).After-set_first

pub slice_bounds-index_and_turn-end-4 : goal.slice_bounds-index_and_turn-end-4
slice_bounds-index_and_turn-end-4 c = sym (length-take-le _ _ (marks-long (goal.at.slice_bounds-index_and_turn-end-4 c).After-set_first))

pub index_and_turn-requires : goal.index_and_turn-requires
index_and_turn-requires c = let a = c.args in
    let is-pairs = c.pairs_of-p.ensures.0 in
    let m = model_in a.held.now in
    let cs = changes_of a.changes.now in
    record {
      changes_value = c.requires.changes_value;
      started = (
        subst (λ (q : ℕ). Started m cs (take q a.values.now)) (sym is-pairs) c.requires.started,
        cleared-part c.pairs_of-p.result a.marks.now _ c.set_first.ensures ∙ ap (λ (q : ℕ). replicate q 0) is-pairs,
      );
      moves_in_bounds = c.requires.moves_in_bounds;
    }

pub returns : goal.returns
returns c = moved_in _ _ _ _ _ _ _ _ _ _ _ c.pairs_of-p.ensures.0 c.set_first.ensures c.index_and_turn.ensures
