-- `model_chains::numbers_ok` meets its contract: each equation is asked for its number. Assumes nothing.
use Rattle.std.proofs.Common.{rules, refl, ◌∙◌, arith, length, map}
use borrow.Author.Tests.{tests}
use Rattle.std.proofs.lemmas.Iterator.{YieldsList-from_range}
use Rattle.std.proofs.lemmas.Iterator.Search.{all_from_yields_List}
use Rattle.rules.specs.Session.{unword}
use Rattle.model_chains.specs.Numbering.{number_by, numbers_by}
use Rattle.model_chains.specs.Ranged.{all-below}
use Rattle.model_chains.proofs.numbers_ok.Goals as goal

pub returns : goal.returns
unfolding numbers_by number_by
returns c = let a = c.args in
    let l = a.chains.now.reach.now in
    let n = length l in
    let f = number_by (map unword a.chains.now.equations.now) l in
    all_from_yields_List f _ _ _ c.all.ensures.ran (YieldsList-from_range 0 n n refl (omega arith)) (λ x b q k. search (rules, tests)) ∙ all-below f f n (λ k h. refl)
