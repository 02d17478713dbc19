-- By how many changes there are. Assumes nothing.
use Rattle.words.specs.Words.{changes_of}
use Rattle.batch_apply.specs.Orders.{ready-out}
use Rattle.batch_apply.proofs.delete_all.Goals as goal

pub delete_each-requires : goal.delete_each-requires
delete_each-requires c = let a = c.args in
    ready-out (changes_of a.changes.now) a.n a.moves.now c.requires
