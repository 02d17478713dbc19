-- `model_chains::chains_ok` meets its contract: the sets are cut to as many as there are equations. Assumes nothing.
use mathlib.Core.Path.{sym, ◌∙◌}
use mathlib.Core.List.{map}
use native.Mathlib.Omega.{arith}
use lib.ListN.{length, length-map}
use lib.Seq.{length-take-le}
use Rattle.rules.specs.Session.{unword}
use Rattle.model_chains.specs.Reaching.{reaches-cut}
use Rattle.model_chains.specs.Stored.{chains-by}
use Rattle.model_chains.proofs.chains_ok.Goals as goal

pub returns : goal.returns
returns c = let ws = c.args.equations.now in
    let l = c.reaches.new.reach in
    let cut = length-take-le (length ws) l (omega arith) in
    let named = sym (length-map ws unword) in
    chains-by (map unword ws) _ (length ws) _ _ (reaches-cut (map unword ws) (length ws) l named (omega arith) c.reaches.ensures) (cut ∙ named) (sym cut) c.lowest_guilty.ensures c.numbers_ok.ensures
