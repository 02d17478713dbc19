-- A refusal of the judgement is the answer; a good batch is applied. Assumes nothing.
use Rattle.call_batch.specs.Reports.{judged-good, read-good, read-bad}
use Rattle.call_batch.specs.Moving.{able, sane-held}
use mathlib.Core.Path.{sym}
use Rattle.std.proofs.lemmas.Result.{err_from_is_err_and}
use native.Mathlib.Omega.{arith}
use lib.ListN.{length-map}
use lib.Seq.{length-take-le}
use Rattle.words.specs.Words.{change_of}
use Rattle.batch_judge.specs.Judging.{batch_in}
use Rattle.rules.specs.Rooms.{Rooms, rooms_with}
use Rattle.call_batch.proofs.judge_on.Goals.{Start}
use Rattle.call_batch.proofs.judge_on.Goals as goal

-- The rooms as they are lent.
abbrev lent : Start → Rooms
lent s =
    let a = s.args in
    rooms_with a.labels.now a.equations.now a.values.now a.marks.now a.moves.now a.index.now a.queue.now

pub slice_bounds-judge_batch-end-2 : goal.slice_bounds-judge_batch-end-2
slice_bounds-judge_batch-end-2 c = let a = c.args in
    sym (length-take-le a.session.moves a.moves.now c.requires.sane.fits.moves_room)

pub judge_batch-requires : goal.judge_batch-requires
judge_batch-requires c =
    record {
      changes_len_bound = c.requires.changes_len_bound.0;
      held = sane-held c.args.session (lent (goal.at.judge_batch-requires c).Start) c.requires.sane;
    }

pub move_on-requires : goal.move_on-requires
move_on-requires c = let a = c.args in
    let l = lent (goal.at.move_on-requires c).Start in
    let b = batch_in a.stamp a.changes.now in
    let n = length-map a.changes.now change_of in
    able a.session l b b c.requires.sane (omega (arith, c.requires.changes_len_bound.0)) c.requires.changes_len_bound.1 (judged-good a.session l b _ c.judge_batch.ensures c.in_ok-judge_batch.was)

pub returns-in_err-judge_batch : goal.returns-in_err-judge_batch
returns-in_err-judge_batch c = let a = c.args in
    let l = lent (goal.at.returns-in_err-judge_batch c).Start in
    let p = err_from_is_err_and c.from_residual.result c.from_residual.ensures.1 in
    rw (p.1, p.2) (read-bad a.session l (batch_in a.stamp a.changes.now) _ c.judge_batch.ensures _ c.in_err-judge_batch.was)

pub returns : goal.returns
returns c = let a = c.args in
    read-good a.session (lent (goal.at.returns c).Start) (batch_in a.stamp a.changes.now) _ c.judge_batch.ensures _ c.in_ok-judge_batch.was c.move_on.ensures
