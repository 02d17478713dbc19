-- The indexes are built in empty rooms, and the blocks turn by them. Assumes nothing.
use mathlib.Core.Path.{sym}
use native.Mathlib.Omega.{arith}
use lib.ListN.{replicate}
use lib.Seq.{length-take-le}
use Rattle.lists.specs.Entries.{zeros-at}
use Rattle.engine_table.specs.Sketch.{bare, bare-drawn}
use Rattle.engine_table.specs.Limits.{limits}
use Rattle.engine_index.specs.MovesIndexed.{drawn-headed, indexed}
use Rattle.engine_index.specs.OperandLaws.{drawn-names}
use Rattle.engine.proofs.index_and_turn.Goals as goal

pub name_operands-requires : goal.name_operands-requires
name_operands-requires c = let d = c.args.held.now.drawn in
    let few = (limits d).1.1.0 in
    let long = d.long_equations in
    record {
      naming = drawn-names d;
      equations_in_bounds = omega arith;
      blank = λ i h. zeros-at 96 i;
    }

pub index_moves-requires : goal.index_moves-requires
index_moves-requires c =
    record {
      headed = drawn-headed c.args.held.now.drawn;
      moves_in_bounds = c.requires.moves_in_bounds.0.0;
    }

pub slice_bounds-bad-end : goal.slice_bounds-bad-end
slice_bounds-bad-end c = let few = (limits c.args.held.now.drawn).0.1 in
    omega arith

pub slice_bounds-part-end : goal.slice_bounds-part-end
slice_bounds-part-end c = let few = (limits c.args.held.now.drawn).0.1 in
    sym (length-take-le c.args.held.now.sizes.states (replicate 256 0) (omega arith))

pub invariant_of-known-clause-drawn : goal.invariant_of-known-clause-drawn
invariant_of-known-clause-drawn c = let h = c.args.held.now in bare-drawn h.sizes h.equations.now h.moves.now (record { labels = h.labels.now; drawn = h.drawn })

pub invariant_of-known-clause-indexed : goal.invariant_of-known-clause-indexed
invariant_of-known-clause-indexed c = let h = c.args.held.now in
    indexed (bare h.sizes h.equations.now h.moves.now) c.args.index.now _ (drawn-headed h.drawn) c.requires.moves_in_bounds.0.0 c.requires.moves_in_bounds.0.1 c.index_moves.ensures

pub turn_blocks-requires : goal.turn_blocks-requires
turn_blocks-requires c = let a = c.args in
    let few = (limits c.args.held.now.drawn).0.1 in
    record {
      drawn = c.args.held.now.drawn;
      named = (c.name_operands.ensures, c.requires.changes_value);
      bad_len = (length-take-le a.held.now.sizes.states (replicate 256 0) (omega arith), c.requires.moves_in_bounds.1);
      started = c.requires.started;
    }
