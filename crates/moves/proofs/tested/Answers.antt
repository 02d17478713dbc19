-- The two ways the test goes. Assumes nothing.
use Rattle.std.proofs.Common.{sym, refl}
use Rattle.lists.specs.Tests.{cond_yes, cond_no, ltb-in, ltb_no}
use Rattle.moves.proofs.tested.Goals as goal

pub returns-then-from-key : goal.returns-then-from-key
returns-then-from-key c = (sym (cond_yes _ _ (ltb-in _ _ (rw c.from.ensures at c.if-from-key.true))), refl)

pub returns : goal.returns
returns c = (sym (cond_no _ _ ((ltb_no _ _).1 (rw c.from.ensures at c.if-from-key.false))), refl)
