-- `model_runs::moves_run` meets its contract: by `pass_all` where that finds all moves good, else by `one_by_one`. Assumes nothing.
use Rattle.model_runs.specs.Runs.{none}
use Rattle.model_runs.proofs.moves_run.Goals as goal

pub returns-then-room-count : goal.returns-then-room-count
returns-then-room-count c = none
