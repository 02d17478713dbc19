-- The loop over the batches: what each turn takes and keeps. Assumes nothing.
use Rattle.std.proofs.Common.{sym, arith, ◌<◌, length}
use Rattle.lists.specs.Tests.{eqb_is, eqb_no}
use Rattle.program_cut.specs.CutLaws.{cut_most}
use Rattle.program.specs.Running.{Running, begins, goes_on_lem, all-printed}
use Rattle.program.specs.Steps.{rooms_in}
use Rattle.program.proofs.print_batches.Goals.{After-step-session}
use Rattle.program.proofs.print_batches.Goals as goal

-- A turn leaves fewer bytes, and what the loop keeps holds after it.
turn : (c : After-step-session) → (length c.split_at.result.1.now < length c.loop-rest.rest.now)
    × Running c.args.bytes.now c.args.first (rooms_in c.args.rooms.now) c.args.pen.now c.step-session.result (rooms_in c.step-session.new.rooms) c.split_at.result.1.now c.step-session.new.pen
turn c = let more = (eqb_no (length c.loop-rest.rest.now) 0).0 (sym c.loop-rest-test.ensures) in
    goes_on_lem _ _ _ _ _ _ c.loop-rest.rest.now _ c.loop-rest.invariant c.first_part.result c.split_at.result.0.now _ _ _ _ (omega arith) c.first_part.ensures c.split_at.ensures.front c.split_at.ensures.back c.step-session.ensures

pub loop-rest-init : goal.loop-rest-init
loop-rest-init c = begins _ _ _ _

pub split_at-requires : goal.split_at-requires
split_at-requires c = rw c.first_part.ensures (cut_most c.loop-rest.rest.now)

pub step-session-requires : goal.step-session-requires
step-session-requires c = omega (arith, c.loop-rest.invariant.bound, c.requires)

pub loop-rest-smaller : goal.loop-rest-smaller
loop-rest-smaller c = (turn (goal.at.loop-rest-smaller c).After-step-session).0

pub loop-rest-preserved : goal.loop-rest-preserved
loop-rest-preserved c = (turn (goal.at.loop-rest-preserved c).After-step-session).1

pub returns : goal.returns
returns c = let none = (eqb_is (length c.loop-rest.rest.now) 0).0 (sym c.loop-rest-test.ensures) in
    all-printed _ _ _ _ _ _ c.loop-rest.rest.now _ c.loop-rest.invariant (omega arith)
