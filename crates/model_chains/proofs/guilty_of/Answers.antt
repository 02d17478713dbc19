-- `model_chains::guilty_of` meets its contract: the sets are cut to as many as there are equations. Assumes nothing.
use mathlib.Core.Path.{sym, ◌∙◌}
use mathlib.Core.List.{map}
use native.Mathlib.Omega.{arith}
use lib.ListN.{length, length-map}
use lib.Seq.{length-take-le}
use Rattle.rules.specs.Session.{unword}
use Rattle.model_chains.specs.Reaching.{reaches-cut}
use Rattle.model_chains.specs.Stored.{lowest_by_lem}
use Rattle.model_chains.proofs.guilty_of.Goals as goal

pub returns : goal.returns
returns c = let ws = c.args.equations.now in
    let l = c.reaches.new.reach in
    let cut = length-take-le (length ws) l (omega arith) in
    let named = sym (length-map ws unword) in
    lowest_by_lem (map unword ws) _ (length ws) _ (reaches-cut (map unword ws) (length ws) l named (omega arith) c.reaches.ensures) (cut ∙ named) named c.lowest_guilty.ensures
