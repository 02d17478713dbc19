-- The moves are in order before each change. Assumes nothing.
use Rattle.std.proofs.Common.{◌-◌, length, sym, subst, true}
use Rattle.batch_apply.specs.Kept.{kept, Orderly}
use Rattle.batch_apply.specs.Orders.{orderly_from}
use Rattle.batch_apply.proofs.insert_each.Goals as goal

pub insert_one-held-requires : goal.insert_one-held-requires
insert_one-held-requires c = let a = c.args in
    let s = c.loop-w in
    subst Orderly (sym s.invariant.1) (orderly_from true (length a.changes.now - length s.yielded) a.changes.now (kept a.moves.now a.n) c.requires)
