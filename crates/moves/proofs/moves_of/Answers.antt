-- What the two searches find are the ends of the state's part. Assumes nothing.
use Rattle.std.proofs.Common.{arith}
use Rattle.moves.specs.PartEnds.{first-inside}
use Rattle.moves.specs.StateMoves.{found_between, few-of}
use Rattle.moves.proofs.moves_of.Goals as goal

pub search-end-requires : goal.search-end-requires
search-end-requires c = (c.requires, first-inside _ 0 _ 0 c.args.moves.now c.requires c.search-from.ensures.0)

pub overflow_sub-result : goal.overflow_sub-result
overflow_sub-result c = let a = c.args in
    (found_between a.here.0 _ _ _ _ a.moves.now c.requires
    c.state_from.ensures c.state_end.ensures c.search-from.ensures.0 c.search-end.ensures.0).0

pub returns : goal.returns
returns c = let a = c.args in
    let f = found_between a.here.0 _ _ _ _ a.moves.now c.requires
    c.state_from.ensures c.state_end.ensures c.search-from.ensures.0 c.search-end.ensures.0 in
    let k = few-of a.here.0 a.moves.now in (f.1, omega arith)
