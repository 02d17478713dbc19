-- Each change is asked. Assumes nothing.
use Rattle.std.proofs.Common.{◌∙◌, not, rules, tests}
use Rattle.std.proofs.lemmas.Iterator.{YieldsList-from_slice}
use Rattle.std.proofs.lemmas.Iterator.Search.{all_from_yields_List}
use Rattle.words.specs.Words.{change_of, changes_of}
use Rattle.batch_judge.specs.Hangs.{hangs_by, stays-all}
use Rattle.batch_judge.proofs.Judgement.none_hangs.Goals as goal

pub returns : goal.returns
returns c = let l = c.args.self.now.changes.now in
    let ms = c.args.self.now.moves.now in
    all_from_yields_List (λ w. not (hangs_by ms (changes_of l) (change_of w))) _ _ _ c.all.ensures.ran (YieldsList-from_slice l cc) (λ x b q k. search (rules, tests))
    ∙ stays-all ms (changes_of l) l
