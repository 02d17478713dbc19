-- The states are counted over the moves in turn. Assumes nothing.
use Rattle.std.proofs.Common.{rules, ℕ, ◌∙◌}
use borrow.Author.Tests.{tests}
use Rattle.std.proofs.lemmas.Iterator.{YieldsList-from_slice}
use Rattle.std.proofs.lemmas.Iterator.Consumers.{fold_from_yields_List}
use Rattle.rules.specs.Load.{moving_with}
use Rattle.rules.specs.Moves.{source}
use Rattle.session_check.specs.LiveWalk.{moving_fold}
use Rattle.session_check.proofs.moving.Goals as goal

pub returns : goal.returns
returns c = let l = c.args.moves.now in
    let h : ℕ → ℕ → ℕ = λ r q. moving_with r (source q) in
    fold_from_yields_List _ h 0 c.fold.result c.fold.ensures.ran (YieldsList-from_slice l cc) (λ a x b q k. search (rules, tests)) ∙ moving_fold 0 l
