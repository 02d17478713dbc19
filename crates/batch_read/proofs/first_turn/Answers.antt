-- What is read at the front decides: nothing, the stamp, or another record. Assumes nothing.
use mathlib.Core.Path.{sym, ◌∙◌}
use Rattle.batch_read.specs.ChangeTurns.{first-stamp, first-broken, first-other}
use borrow.Enum.Refused.{opened}
use Rattle.batch_read.proofs.first_turn.Goals as goal

pub returns-in_default : goal.returns-in_default
returns-in_default c z s e = rw c.refused.ensures (first-broken z s (sym e ∙ c.in_default.is))

pub returns-in_default-rec : goal.returns-in_default-rec
returns-in_default-rec c z s e =
    rw c.refused-in_default-rec.ensures (first-other z s c.in-Some.at c.in-Some.rec (sym e ∙ c.in-Some.is) (opened c.in_default-rec.in_default-rec-own.keys2))

pub returns : goal.returns
returns c z s e = first-stamp z s c.in-Stamp.stamp c.in-Some.at c.in-Some.rec (sym e ∙ c.in-Some.is) c.in-Stamp.is
