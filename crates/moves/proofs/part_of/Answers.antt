-- What the two searches find is what lies below the two keys. Assumes nothing.
use Rattle.moves.specs.PartEnds.{first-inside, two_ends}
use Rattle.moves.proofs.part_of.Goals as goal

pub search-end-requires : goal.search-end-requires
search-end-requires c = (c.requires, first-inside _ 0 _ 0 c.args.moves.now c.requires c.search-from.ensures.0)

pub returns : goal.returns
returns c = let a = c.args in
    two_ends a.here.0 a.by.0 _ _ c.search-from.result.at c.search-end.result.at a.moves.now c.requires
    c.own_from.ensures c.own_end.ensures c.search-from.ensures.0 c.search-end.ensures.0
