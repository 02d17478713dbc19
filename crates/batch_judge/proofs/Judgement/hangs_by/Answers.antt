-- An insert leaves no state without a move; of a delete its state is asked. Assumes nothing.
use mathlib.Core.Path.{refl, ap, ◌∙◌}
use Rattle.rules.specs.Moves.{source}
use Rattle.laws.specs.moves.Emptied.{emptied}
use Rattle.words.specs.Words.{changes_of}
use Rattle.batch_judge.proofs.Judgement.hangs_by.Goals as goal

pub returns-then-inserts : goal.returns-then-inserts
returns-then-inserts c = rw (← c.inserts.ensures, c.if-inserts.true) refl

pub returns : goal.returns
returns c = let a = c.args in
    let from = c.source_of.ensures ∙ ap source c.move_of.ensures in
    rw (← c.inserts.ensures, c.if-inserts.false) (c.empties.ensures ∙ ap (emptied a.self.now.moves.now (changes_of a.self.now.changes.now)) from)
