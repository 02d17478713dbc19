-- `limits::moving_with` meets its contract. Assumes nothing.
use borrow.Author.Tests.{eq-eqb, ne_eqb}
use native.Mathlib.Numerals.{add-one}
use Rattle.limits.proofs.moving_with.Goals as goal

pub returns-then-here-n : goal.returns-then-here-n
returns-then-here-n c = rw (eq-eqb _ _ c.if-here-n.true, add-one)

pub returns : goal.returns
returns c = rw (ne_eqb _ _ c.if-here-n.false)
