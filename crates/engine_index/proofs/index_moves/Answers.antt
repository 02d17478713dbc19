-- One move after the other. Assumes nothing.
use Rattle.std.proofs.Common.{refl}
use Rattle.engine_index.specs.Chains.{linked}
use Rattle.engine_index.specs.ChainLaws.{linked-more}
use Rattle.engine_index.specs.Indexed.{key_of, heads_of}
use Rattle.engine_index.proofs.index_moves.Goals as goal

pub loop-j-init : goal.loop-j-init
unfolding linked
loop-j-init c = refl

pub loop-j-preserved : goal.loop-j-preserved
loop-j-preserved c = let a = c.args in
    linked-more (key_of a.sizes) 0 (heads_of a.sizes) a.moves.now c.loop-j.j _ _ _ c.loop-j.invariant c.put_link.ensures
