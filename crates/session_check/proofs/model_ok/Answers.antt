-- What is left to ask where the counts are good and the rooms are cut. Assumes nothing.
use Rattle.session_check.specs.LiveWalk.{formed-by}
use Rattle.session_check.proofs.model_ok.Goals as goal

pub style_ok-requires : goal.style_ok-requires
style_ok-requires c = (c.requires.named, c.requires.variables)

pub returns : goal.returns
returns c = let a = c.args in
    rw (c.labels_ok.ensures, c.style_ok.ensures, c.moves_ok.ensures, c.live_ok.ensures)
    (formed-by a.session a.labels.now a.equations.now a.moves.now c.requires)
