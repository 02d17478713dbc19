-- The whole run in fresh rooms. Assumes nothing.
use Rattle.std.proofs.Common.{◌≡◌, refl, sym, rules, length}
use Rattle.lists.specs.Lists.{fill}
use Rattle.program.specs.Program.{printed}
use Rattle.program.specs.Whole.{fresh-run}
use Rattle.program.proofs.run.Goals.{After-print_all}
use Rattle.program.proofs.run.Goals as goal

-- What the pen leaves is what the input prints, in front of what stood there.
printed_all : (c : After-print_all) → (c.print_all.new.pen.out.now ≡ fill (printed c.args.input.now) c.args.out.now) × (c.print_all.new.pen.at ≡ length (printed c.args.input.now))
printed_all c = let p = c.print_all.ensures in
    let w = fresh-run c.args.input.now _ _ refl (rw c.fresh-rooms.ensures at p.0) p.1 c.requires.1 in
    (w.0, w.1)

pub returns-clause-out_after : goal.returns-clause-out_after
returns-clause-out_after c = let s = sym c.print_all.ensures.0.same in
    let w = (printed_all (goal.at.returns-clause-out_after c).After-print_all).0 in
    search (rules, s, w)

pub returns-clause-value : goal.returns-clause-value
returns-clause-value c = (printed_all (goal.at.returns-clause-value c).After-print_all).1
