-- `model_judge::past_equations` meets its contract. Assumes nothing.
use mathlib.Core.Path.{refl}
use Rattle.model_judge.specs.PassingLaws.{equated-on, equations-kept, equations-passed, forwarded-more}
use Rattle.model_judge.proofs.past_equations.Goals as goal

pub with_equations-requires : goal.with_equations-requires
with_equations-requires c = let h = c.args.h in
    (equated-on _ h.so_far h.at _ c.equations_run-run.ensures c.requires.inside_bytes).0

pub returns-then-moves_due : goal.returns-then-moves_due
returns-then-moves_due c = let h = c.args.h in
    let run = c.equations_run-run.result in
    let p = equations-kept h.so_far run (equated-on _ h.so_far h.at _ c.equations_run-run.ensures c.requires.inside_bytes).0 in
    forwarded-more _ _ h.last h.so_far _ h.at _ _ (equations-passed _ _ h.so_far h.at run p c.requires c.equations_run-run.ensures) (rw (c.with_equations.ensures p) at c.past_moves.ensures)

pub returns : goal.returns
returns c = let h = c.args.h in
    let run = c.equations_run-run.result in
    let p = equations-kept h.so_far run (equated-on _ h.so_far h.at _ c.equations_run-run.ensures c.requires.inside_bytes).0 in
    rw (c.with_equations.ensures p) (_, _, refl, equations-passed _ _ h.so_far h.at run p c.requires c.equations_run-run.ensures)
