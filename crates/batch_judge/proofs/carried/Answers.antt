-- One change after the other is carried. Assumes nothing.
use Rattle.std.proofs.Common.{[], ◌∷◌, ◌∙◌, rules}
use Rattle.std.proofs.lemmas.Iterator.{YieldsList-from_slice}
use Rattle.std.proofs.lemmas.Iterator.Consumers.{fold_from_yields_List}
use Rattle.laws.specs.moves.Edits.{carry}
use Rattle.words.specs.Words.{change_of}
use Rattle.batch_judge.specs.Changes.{carried-on}
use Rattle.batch_judge.proofs.carried.Goals as goal

pub returns : goal.returns
returns c = let a = c.args in
    fold_from_yields_List _ (λ x w. carry x (change_of w ∷ [])) a.stamp c.fold.result c.fold.ensures.ran
    (YieldsList-from_slice a.changes.now cc) (λ x w b q k. search rules) ∙ carried-on a.stamp a.changes.now
