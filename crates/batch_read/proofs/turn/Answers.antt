-- Each sort of record is a turn of its own. Assumes nothing.
use mathlib.Core.Path.{sym, ◌∙◌}
use Rattle.batch_read.specs.ChangeTurns.{turned-broken, turned-insert, turned-delete, turned-end, turned-other}
use borrow.Enum.Refused.{opened}
use Rattle.batch_read.proofs.turn.Goals as goal

pub returns-in_default : goal.returns-in_default
returns-in_default c = let h = c.in_ok-h.h in
    rw (c.in_ok-h.was, c.refused.ensures) (λ s e n. turned-broken c.args.z s h.stamp h.count h.at (sym e ∙ c.in_default.is))

pub returns-in-Insert : goal.returns-in-Insert
returns-in-Insert c = let h = c.in_ok-h.h in
    rw (c.in_ok-h.was, c.change_turn.ensures) (λ s e n. turned-insert c.args.z s h.stamp h.count h.at c.in-Some.next c.in-Some.rec c.in-Insert.m (sym e ∙ c.in-Some.is) c.in-Insert.is)

pub returns-in-Delete : goal.returns-in-Delete
returns-in-Delete c = let h = c.in_ok-h.h in
    rw (c.in_ok-h.was, c.change_turn-in-Delete.ensures) (λ s e n. turned-delete c.args.z s h.stamp h.count h.at c.in-Some.next c.in-Some.rec c.in-Delete.m (sym e ∙ c.in-Some.is) c.in-Delete.is)

pub returns-in-End : goal.returns-in-End
returns-in-End c = let h = c.in_ok-h.h in
    rw (c.in_ok-h.was, c.end_turn.ensures) (λ s e n. rw n (turned-end c.args.z s h.stamp h.count h.at c.in-Some.next c.in-Some.rec (sym e ∙ c.in-Some.is) c.in-End.is))

pub returns-in_default-rec : goal.returns-in_default-rec
returns-in_default-rec c = let h = c.in_ok-h.h in
    rw (c.in_ok-h.was, c.refused-in_default-rec.ensures) (λ s e n. turned-other c.args.z s h.stamp h.count h.at c.in-Some.next c.in-Some.rec (sym e ∙ c.in-Some.is) (opened c.in_default-rec.in_default-rec-own.keys4))
