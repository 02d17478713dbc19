-- Those that pass the test are counted. Assumes nothing.
use Rattle.std.proofs.Common.{◌∙◌, arith, rules, tests}
use Rattle.std.proofs.lemmas.Iterator.{YieldsList-from_slice}
use Rattle.std.proofs.lemmas.Iterator.Consumers.{YieldsList-from_filter, count_from_yields_List}
use Rattle.words.specs.Words.{change_of}
use Rattle.batch_judge.specs.Changes.{changes-count, inserts-held}
use Rattle.batch_judge.proofs.Judgement.inserts.Goals as goal

pub returns : goal.returns
returns c = let l = c.args.self.now.changes.now in
    let e = count_from_yields_List c.filter.result c.count.result c.count.ensures.ran
    (YieldsList-from_filter _ (λ w. (change_of w).insert) (YieldsList-from_slice l cc) c.filter.ensures.closure (λ x b q k. search (rules, tests)))
    ∙ inserts-held l in
    let k = changes-count l in (e, omega arith)
