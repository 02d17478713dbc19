-- A refusal of the check is the answer; after a good one the rest of the call says what the rule does. Assumes nothing.
use Rattle.call_batch.specs.Moving.{sane}
use Rattle.call_batch.specs.BatchLaws.{measured, batch-stops, batch-goes}
use mathlib.Core.Path.{◌∙◌}
use Rattle.std.proofs.lemmas.Result.{err_from_is_err_and}
use Rattle.rules.specs.Rooms.{Rooms, rooms_with}
use Rattle.call_batch.proofs.batch.Goals.{Start}
use Rattle.call_batch.proofs.batch.Goals as goal

-- The rooms as they are lent.
abbrev lent : Start → Rooms
lent s =
    let a = s.args in
    rooms_with a.labels.now a.equations.now a.values.now a.marks.now a.moves.now a.index.now a.queue.now

pub read_on-requires : goal.read_on-requires
read_on-requires c = let s = c.args.session in
    let h = measured s (lent (goal.at.read_on-requires c).Start) c.session_refusal-found.result _ _ c.lengths_of.ensures c.work_ok-work.ensures c.session_refusal-found.ensures in
    sane s (lent (goal.at.read_on-requires c).Start) c.session_refusal-found.result h c.in_ok-found.was

pub returns-in_err-found : goal.returns-in_err-found
returns-in_err-found c = let s = c.args.session in
    let l = lent (goal.at.returns-in_err-found c).Start in
    let h = measured s l c.session_refusal-found.result _ _ c.lengths_of.ensures c.work_ok-work.ensures c.session_refusal-found.ensures in
    let p = err_from_is_err_and c.from_residual.result c.from_residual.ensures.1 in
    rw (p.1, p.2) (batch-stops s l c.args.bytes.now c.session_refusal-found.result h _ c.in_err-found.was)

pub returns : goal.returns
returns c = let s = c.args.session in
    let l = lent (goal.at.returns c).Start in
    let h = measured s l c.session_refusal-found.result _ _ c.lengths_of.ensures c.work_ok-work.ensures c.session_refusal-found.ensures in
    c.read_on.ensures ∙ batch-goes s l c.args.bytes.now c.session_refusal-found.result h c.in_ok-found.was
