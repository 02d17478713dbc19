-- A refusal of the reading is the answer; a batch that was read is judged. Assumes nothing.
use Rattle.call_batch.specs.Reports.{bytes_good, bytes-bad}
use Rattle.laws.specs.bytes.RecordLaws.{are-bytes}
use Rattle.call_batch.specs.Reads.{WasRead, good-read, bad-read}
use Rattle.call_batch.specs.Moving.{sane-sizes}
use Prim.Native.Nat.{◌≤◌}
use lib.ListN.{length, length-replicate}
use Rattle.rules.specs.Limits.{most_changes}
use native.Mathlib.Omega.{arith}
use mathlib.Core.Path.{sym, ◌∙◌}
use Rattle.std.proofs.lemmas.Result.{err_from_is_err_and}
use lib.Seq.{length-take-le}
use Rattle.rules.specs.Rooms.{Rooms, rooms_with}
use Rattle.call_batch.proofs.read_on.Goals.{After-read_batch, In_ok-read, Start}
use Rattle.call_batch.proofs.read_on.Goals as goal

-- The rooms as they are lent.
abbrev lent : Start → Rooms
lent s =
    let a = s.args in
    rooms_with a.labels.now a.equations.now a.values.now a.marks.now a.moves.now a.index.now a.queue.now

-- The room that the changes were put into has a place for each that a batch may have.
long : (c : After-read_batch) → most_changes ≤ length c.read_batch.new.changes
long c = let k = simp length-replicate at c.read_batch.auto.changes in omega (arith, k)

-- The batch that was read.
was_read : (c : In_ok-read) → let a = c.args in
    WasRead a.session.sizes a.bytes.now c.in_ok-read.read.stamp c.in_ok-read.read.changes c.read_batch.new.changes
was_read c =
    let a = c.args in
    good-read a.session.sizes a.bytes.now (sane-sizes a.session (rooms_with a.labels.now a.equations.now a.values.now a.marks.now a.moves.now a.index.now a.queue.now) c.requires)
    (are-bytes a.bytes.now (λ i. omega (arith, c.type_inv.bytes i)))
    _ _ _ _ c.read_batch.ensures (long (goal.at.slice_bounds-changes-end c).After-read_batch) c.in_ok-read.was

pub slice_bounds-changes-end : goal.slice_bounds-changes-end
slice_bounds-changes-end c = let w = was_read (goal.at.slice_bounds-changes-end c).In_ok-read in
    let k = long (goal.at.slice_bounds-changes-end c).After-read_batch in
    omega (arith, w.few, k)

pub slice_bounds-judge_on-end : goal.slice_bounds-judge_on-end
slice_bounds-judge_on-end c = let w = was_read (goal.at.slice_bounds-judge_on-end c).In_ok-read in
    let k = long (goal.at.slice_bounds-judge_on-end c).After-read_batch in
    sym (length-take-le c.in_ok-read.read.changes c.read_batch.new.changes (omega (arith, w.few, k)))

pub judge_on-requires : goal.judge_on-requires
judge_on-requires c = let w = was_read (goal.at.judge_on-requires c).In_ok-read in
    let k = long (goal.at.judge_on-requires c).After-read_batch in
    let n = length-take-le c.in_ok-read.read.changes c.read_batch.new.changes (omega (arith, w.few, k)) in
    record {
      sane = c.requires;
      changes_len_bound = (omega (arith, w.few, n), w.in_range);
    }

pub returns-in_err-read : goal.returns-in_err-read
returns-in_err-read c = let a = c.args in
    let l = lent (goal.at.returns-in_err-read c).Start in
    let p = err_from_is_err_and c.from_residual.result c.from_residual.ensures.1 in
    rw (p.1, p.2) (bytes-bad a.session l a.bytes.now _ _ (bad-read a.session.sizes a.bytes.now _ _ _ _ c.read_batch.ensures c.in_err-read.was))

pub returns : goal.returns
returns c = let a = c.args in
    let w = was_read (goal.at.returns c).In_ok-read in
    c.judge_on.ensures ∙ bytes_good a.session (lent (goal.at.returns c).Start) a.bytes.now _ w.read
