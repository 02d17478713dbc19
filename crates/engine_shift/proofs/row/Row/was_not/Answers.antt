-- The mark decides which of the two it is. Assumes nothing.
use Rattle.std.proofs.Common.{sym}
use Rattle.engine_shift.specs.ChangeSeeds.{was-turned, was-still}
use Rattle.engine_shift.proofs.row.Row.was_not.Goals as goal

pub returns-then-self-s : goal.returns-then-self-s
returns-then-self-s c = let r = c.args.self in
    sym (was-turned r.values.now r.marks.now r.earlier c.args.b c.args.s c.if-self-s.true)

pub returns : goal.returns
returns c = let r = c.args.self in
    sym (was-still r.values.now r.marks.now r.earlier c.args.b c.args.s c.if-self-s.false)
