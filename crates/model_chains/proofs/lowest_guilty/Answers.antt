-- `model_chains::lowest_guilty` meets its contract: the first that is guilty, or one past the last. Assumes nothing.
use Rattle.std.proofs.Common.{rules, refl, ◌∙◌, arith, length, map}
use borrow.Author.Tests.{tests}
use Rattle.std.proofs.lemmas.Iterator.{YieldsList-from_range}
use Rattle.std.proofs.lemmas.Iterator.Search.{position_from_yields_List}
use Rattle.rules.specs.Session.{unword}
use Rattle.model_chains.specs.Numbering.{guilty_by, lowest_by}
use Rattle.model_chains.specs.Ranged.{first-or}
use Rattle.model_chains.proofs.lowest_guilty.Goals as goal

pub returns : goal.returns
unfolding lowest_by
returns c = let a = c.args in
    let l = a.chains.now.reach.now in
    let n = length l in
    let f = guilty_by (map unword a.chains.now.equations.now) l in
    c.unwrap_or.ensures ∙ first-or f f n (λ k h. refl) c.position.result
    (position_from_yields_List f _ _ c.position.result c.position.ensures.ran (YieldsList-from_range 0 n n refl (omega arith)) (λ x b q k. search (rules, tests)))
