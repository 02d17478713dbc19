-- One part: handed over, and its line written. Assumes nothing.
use Rattle.std.proofs.Common.{arith}
use Rattle.laws.specs.bytes.RecordLaws.{are-bytes}
use Rattle.program.specs.Steps.{rooms_in, stepped}
use Rattle.program.proofs.step.Goals as goal

pub returns : goal.returns
returns c = let a = c.args in
    let put = c.put_update.ensures in
    stepped a.session (rooms_in a.rooms.now) a.part.now (are-bytes a.part.now (λ i. omega (arith, c.type_inv.part i))) a.pen.now _ c.session_after.result _ c.batch-said.result c.batch-said.ensures put.0 put.1 c.session_after.ensures
