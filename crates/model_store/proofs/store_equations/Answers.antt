-- `model_store::store_equations` meets its contract. Assumes nothing.
use Rattle.std.proofs.Common.{sym, ◌∙◌}
use Rattle.model_judge.specs.PassingLaws.{equations-kept}
use Rattle.model_store.specs.RunLaws.{put-fewer, put-inside, equations-stored, stored_more}
use Rattle.model_store.proofs.store_equations.Goals as goal

pub with_equations-so_far-requires : goal.with_equations-so_far-requires
with_equations-so_far-requires c = let h = c.args.h in
    put-fewer _ h.so_far h.at _ _ _ c.requires c.put_equations-run.ensures

pub store_moves-requires : goal.store_moves-requires
store_moves-requires c = let h = c.args.h in
    let p = equations-kept h.so_far c.put_equations-run.result (put-fewer _ h.so_far h.at _ _ _ c.requires c.put_equations-run.ensures) in
    (rw (c.with_equations-so_far.ensures p) (put-inside _ h.so_far h.at _ _ p _ c.requires c.put_equations-run.ensures).2, sym c.moves_due.ensures ∙ c.if-moves_due.true)

pub returns-then-moves_due : goal.returns-then-moves_due
returns-then-moves_due c = let h = c.args.h in
    let p = equations-kept h.so_far c.put_equations-run.result (put-fewer _ h.so_far h.at _ _ _ c.requires c.put_equations-run.ensures) in
    let m = rw (c.with_equations-so_far.ensures p) at c.store_moves.ensures in
    λ ls. let r = m ls _ in
    (stored_more _ _ _ _ _ _ _ (equations-stored _ h.last h.so_far h.at ls _ _ _ p _ c.requires c.put_equations-run.ensures) r.0, r.1)

pub returns : goal.returns
returns c = let h = c.args.h in
    let p = equations-kept h.so_far c.put_equations-run.result (put-fewer _ h.so_far h.at _ _ _ c.requires c.put_equations-run.ensures) in
    let none = rw (c.with_equations-so_far.ensures p) at (sym c.moves_due.ensures ∙ c.if-moves_due.false) in
    λ ls. rw (c.with_equations-so_far.ensures p) (equations-stored _ h.last h.so_far h.at ls _ _ _ p _ c.requires c.put_equations-run.ensures, none)
