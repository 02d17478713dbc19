-- By whether the change is an insert. Assumes nothing.

use Rattle.batch_apply.proofs.insert_one.Goals as goal

pub returns-then-inserts : goal.returns-then-inserts
returns-then-inserts c = rw (← c.inserts.ensures, c.if-inserts.true) (rw c.move_of.ensures at c.insert_move.ensures)

pub returns : goal.returns
returns c = rw (← c.inserts.ensures, c.if-inserts.false)
