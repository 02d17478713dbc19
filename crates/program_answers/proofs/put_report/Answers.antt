-- `program_answers::put_report` meets its contract. Assumes nothing.
use Rattle.std.proofs.Common.{arith, to_z-of_z}
use Rattle.std.specs.Int.{w32}
use Rattle.program_answers.specs.AnswerLaws.{pairs-few, report-wrote}
use Rattle.program_answers.proofs.put_report.Goals as goal

pub returns : goal.returns
returns c = let a = c.args in
    let r = a.report in
    let few = pairs-few r.session.sizes (omega (arith, c.well_formed)) (omega (arith, c.well_formed)) in
    let w = rw (to_z-of_z {w = w32} {z = r.net} (record { sfits = omega (arith, c.well_formed) })) at c.put_batch.ensures in
    report-wrote a.pen.now _ r.session a.values.now _ c.totals_of-end.ensures few (omega (arith, c.well_formed)) r.net r.visits (omega (arith, c.well_formed)) (omega (arith, c.well_formed)) (omega (arith, c.well_formed)) w
