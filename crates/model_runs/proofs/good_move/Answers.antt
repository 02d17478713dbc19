-- `model_runs::good_move` meets its contract. Assumes nothing.
use Rattle.lists.specs.Tests.{and_is, eqb_is, leb-is}
use Rattle.model_runs.proofs.good_move.Goals as goal

pub returns : goal.returns
returns c = λ e. let k = simp and_is at (rw (c.packed.ensures.0, c.move_ok.ensures, c.move_at-m.ensures) at e) in
    record { inside_bytes = c.requires; kind = (eqb_is _ _).0 k.0.0; fits = k.0.1; order = (leb-is _ _).0 k.1 }
