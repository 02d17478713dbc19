-- `model_store::store_moves` meets its contract. Assumes nothing.
use Rattle.model_store.specs.RunLaws.{moves-stored}
use Rattle.model_store.proofs.store_moves.Goals as goal

pub returns : goal.returns
returns c = let h = c.args.h in
    λ ls es. rw c.put_moves.ensures (moves-stored _ h.last h.so_far h.at ls es _ _ c.requires.0 c.requires.1, tt)
