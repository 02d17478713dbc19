-- Each way out leaves what the call is said to leave there; the rooms are cut as far as the counts tell. Assumes nothing.
use mathlib.Core.Path.{sym}
use native.Mathlib.Omega.{arith}
use lib.Seq.{length-take-le}
use Rattle.rules.specs.Rooms.{Rooms, rooms_of}
use Rattle.session_check.specs.Fitting.{Fits}
use Rattle.call_write.specs.WriteLaws.{says_refused, write-stops}
use Rattle.call_write.specs.Leaves.{good-fits, good-labels, good-equations, good-room, leaves-short, leaves-written}
use Rattle.call_write.proofs.write.Goals.{In_ok-session_refusal, Start}
use Rattle.call_write.proofs.write.Goals as goal

-- The rooms as the call has them, and what is known of them where the check finds nothing wrong.
abbrev rooms-of : Start → Rooms
rooms-of c = let a = c.args in rooms_of a.labels.now a.equations.now a.values.now a.marks.now a.moves.now

abbrev fits-of : (c : In_ok-session_refusal) → Fits c.args.session (let a = c.args in rooms_of a.labels.now a.equations.now a.values.now a.marks.now a.moves.now)
fits-of c =
    good-fits c.args.session (let a = c.args in rooms_of a.labels.now a.equations.now a.values.now a.marks.now a.moves.now) c.args.out.now c.session_refusal.result c.session_refusal.ensures c.in_ok-session_refusal.was

pub returns-in_err-session_refusal : goal.returns-in_err-session_refusal
returns-in_err-session_refusal c = let a = c.args in
    let said = says_refused c.from_residual.result _ c.from_residual.ensures.1 in
    rw said (write-stops a.session (rooms-of (goal.at.returns-in_err-session_refusal c).Start) a.out.now c.session_refusal.result c.session_refusal.ensures _ c.in_err-session_refusal.was)

pub slice_bounds-spelled_length-end : goal.slice_bounds-spelled_length-end
slice_bounds-spelled_length-end c = let a = c.args in
    sym (length-take-le a.session.sizes.states a.labels.now (fits-of (goal.at.slice_bounds-spelled_length-end c).In_ok-session_refusal).labels_room)

pub spelled_length-n-requires : goal.spelled_length-n-requires
spelled_length-n-requires c = let a = c.args in
    let l = rooms-of (goal.at.spelled_length-n-requires c).Start in
    let good = c.in_ok-session_refusal.was in
    good-labels a.session l a.out.now c.session_refusal.result c.session_refusal.ensures good

pub returns-then-out-n : goal.returns-then-out-n
returns-then-out-n c = let a = c.args in
    let l = rooms-of (goal.at.returns-then-out-n c).Start in
    let good = c.in_ok-session_refusal.was in
    rw c.into.ensures (leaves-short a.session l a.out.now c.session_refusal.result c.session_refusal.ensures good c.spelled_length-n.result c.spelled_length-n.ensures (omega arith))

pub slice_bounds-write_model-end-2 : goal.slice_bounds-write_model-end-2
slice_bounds-write_model-end-2 c = sym (length-take-le _ c.args.out.now (omega arith))

pub slice_bounds-write_model-end-3 : goal.slice_bounds-write_model-end-3
slice_bounds-write_model-end-3 c = let a = c.args in
    sym (length-take-le a.session.sizes.states a.labels.now (fits-of (goal.at.slice_bounds-write_model-end-3 c).In_ok-session_refusal).labels_room)

pub slice_bounds-write_model-end-4 : goal.slice_bounds-write_model-end-4
slice_bounds-write_model-end-4 c = let a = c.args in
    sym (length-take-le a.session.sizes.variables a.equations.now (fits-of (goal.at.slice_bounds-write_model-end-4 c).In_ok-session_refusal).equations_room)

pub slice_bounds-write_model-end-5 : goal.slice_bounds-write_model-end-5
slice_bounds-write_model-end-5 c = let a = c.args in
    sym (length-take-le a.session.moves a.moves.now (fits-of (goal.at.slice_bounds-write_model-end-5 c).In_ok-session_refusal).moves_room)

pub write_model-requires : goal.write_model-requires
write_model-requires c = let a = c.args in
    let l = rooms-of (goal.at.write_model-requires c).Start in
    let good = c.in_ok-session_refusal.was in
    let fewLabels = good-labels a.session l a.out.now c.session_refusal.result c.session_refusal.ensures good in
    let fewEquations = good-equations a.session l a.out.now c.session_refusal.result c.session_refusal.ensures good in
    record {
      labels_len_bound = (fewLabels, fewEquations);
      has_room = good-room a.session l a.out.now c.session_refusal.result c.session_refusal.ensures good c.spelled_length-n.result c.spelled_length-n.ensures (omega (arith, c.if-out-n.false));
    }

pub returns : goal.returns
returns c = let a = c.args in
    let l = rooms-of (goal.at.returns c).Start in
    let good = c.in_ok-session_refusal.was in
    leaves-written a.session l a.out.now c.session_refusal.result c.session_refusal.ensures good c.spelled_length-n.result c.spelled_length-n.ensures (omega (arith, c.if-out-n.false)) _ _ c.write_model.ensures
