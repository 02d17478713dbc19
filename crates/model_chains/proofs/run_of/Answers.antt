-- `model_chains::run_of` meets its contract: the words of the run are counted. Assumes nothing.
use Rattle.std.proofs.Common.{rules, ℕ, Bool, ◌∙◌, ◌+◌, ◌≤◌, arith, length, eqb}
use borrow.Author.Tests.{tests}
use Rattle.std.specs.List.{prefix_len}
use Rattle.std.proofs.lemmas.List.Folds.{length-prefix_len}
use Rattle.std.proofs.lemmas.List.Sums.{prefix_len-le-length}
use Rattle.std.proofs.lemmas.Iterator.{YieldsList-from_slice}
use Rattle.std.proofs.lemmas.Iterator.Search.{YieldsList-from_take_while}
use Rattle.std.proofs.lemmas.Iterator.Consumers.{count_from_yields_List}
use Rattle.rules.specs.Session.{unword}
use Rattle.model_chains.specs.Stored.{run_is}
use Rattle.model_chains.proofs.run_of.Goals as goal

pub returns : goal.returns
returns c = let ws = c.args.equations.now in
    let p : ℕ → Bool = λ w. eqb ((unword w).block + 1) c.args.b in
    let h = count_from_yields_List c.take_while.result c.count.result c.count.ensures.ran
    (YieldsList-from_take_while _ p (YieldsList-from_slice ws cc) c.take_while.ensures.closure c.take_while.ensures.done (λ x b q k. search (rules, tests))) ∙ length-prefix_len p ws in
    let most : prefix_len p ws ≤ length ws = prefix_len-le-length p ws in
    (h ∙ run_is c.args.b ws, omega arith)
