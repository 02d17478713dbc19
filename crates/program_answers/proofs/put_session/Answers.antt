-- `program_answers::put_session` meets its contract. Assumes nothing.
use Rattle.std.proofs.Common.{arith}
use Rattle.program_answers.specs.AnswerLaws.{pairs-few, session-wrote}
use Rattle.program_answers.proofs.put_session.Goals as goal

pub returns : goal.returns
returns c = let a = c.args in
    let few = pairs-few a.session.sizes (omega (arith, c.well_formed)) (omega (arith, c.well_formed)) in
    session-wrote a.pen.now _ a.session a.values.now _ c.totals_of.ensures few (omega (arith, c.well_formed)) c.put_loaded.ensures
