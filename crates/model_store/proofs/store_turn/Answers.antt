-- `model_store::store_turn` meets its contract. Assumes nothing.
use Rattle.model_store.specs.RunLaws.{follows-inside, follows-storable, stores-turn}
use Rattle.model_store.proofs.store_turn.Goals as goal

pub put_turn-requires : goal.put_turn-requires
put_turn-requires c = follows-storable _ _ _ c.args.t _ c.requires c.turn-u.ensures

pub store_run-requires : goal.store_run-requires
store_run-requires c = follows-inside _ _ _ c.args.t _ c.requires c.turn-u.ensures

pub returns : goal.returns
returns c = stores-turn _ _ _ c.args.t _ _ _ _ _ c.requires c.turn-u.ensures (c.put_turn.ensures _) c.store_run.ensures
