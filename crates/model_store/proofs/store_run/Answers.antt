-- `model_store::store_run` meets its contract. Assumes nothing.
use Rattle.std.proofs.Common.{sym, ◌∙◌}
use Rattle.model_store.specs.RunLaws.{none-stored}
use Rattle.model_store.proofs.store_run.Goals as goal

pub returns-in_err-h : goal.returns-in_err-h
returns-in_err-h c = rw (c.from_residual.ensures, c.in_err-h.was) (none-stored _ _ _, tt)

pub returns-then-x : goal.returns-then-x
returns-then-x c = rw c.in_ok-h.was (c.store_labels.ensures _ _)

pub returns-then-x-gt0 : goal.returns-then-x-gt0
returns-then-x-gt0 c = rw c.in_ok-h.was (c.store_equations.ensures _)

pub returns-then-moves_due : goal.returns-then-moves_due
returns-then-moves_due c = rw c.in_ok-h.was (c.store_moves.ensures _ _)

pub returns : goal.returns
returns c = let none = sym c.moves_due.ensures ∙ c.if-moves_due.false in
    rw c.in_ok-h.was (none-stored _ _ _, none)
