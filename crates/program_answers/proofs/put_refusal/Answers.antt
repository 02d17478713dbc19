-- `program_answers::put_refusal` meets its contract. Assumes nothing.
use Rattle.std.proofs.Common.{◌∙◌, arith}
use Rattle.program_answers.specs.AnswerLaws.{refusal-wrote}
use Rattle.program_answers.proofs.put_refusal.Goals as goal

pub returns : goal.returns
returns c = let a = c.args in
    refusal-wrote a.pen.now _ a.refused.why c.from.result a.refused.place (c.from.ensures ∙ c.number_of-number.ensures) (omega (arith, c.well_formed)) c.put_refused.ensures
