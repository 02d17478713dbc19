-- Where none of the places is bad, none of their pairs must turn, and the queue ends where it ended. A whole stretch is the part itself. Assumes
-- nothing.
use Rattle.std.specs.Prelude.{◌≡◌, List, ℕ, length, take}
use Rattle.std.proofs.Common.{sym, ◌∙◌, subst, arith, take_all, length-take-le}
use Rattle.engine_rows.specs.Rooms.{Bits}
use Rattle.engine_rows.specs.RowLoops.{bad_from, Queued}
use Rattle.engine_rows.specs.Queued.{part-over}
use Rattle.engine_rows.proofs.queue_part.Goals as goal

-- As many places as are tested at once are the whole part.
whole : (part : List ℕ) → length part ≡ 32 → take 32 part ≡ part
whole part e = take_all 32 part (omega arith)

pub returns-then-not-any_bad : goal.returns-then-not-any_bad
returns-then-not-any_bad c = let a = c.args in
    part-over a.y.0 a.part.now a.queue.now a.tail a.first.0 (sym c.any_bad.ensures ∙ c.if-not-any_bad.true)

pub slice_bounds-queue_some-end : goal.slice_bounds-queue_some-end
slice_bounds-queue_some-end c = let long = c.if-part-eq-TESTED_AT_ONCE.true in sym (length-take-le 32 c.args.part.now (omega arith))

pub queue_some-requires-clause-bits : goal.queue_some-requires-clause-bits
queue_some-requires-clause-bits c = subst Bits (sym (whole c.args.part.now c.if-part-eq-TESTED_AT_ONCE.true)) c.requires.bits

pub queue_some-requires-clause-y_lt_most_variables : goal.queue_some-requires-clause-y_lt_most_variables
queue_some-requires-clause-y_lt_most_variables c = rw (whole c.args.part.now c.if-part-eq-TESTED_AT_ONCE.true) c.requires.y_lt_most_variables

pub queue_some-requires-clause-first_in_bounds : goal.queue_some-requires-clause-first_in_bounds
queue_some-requires-clause-first_in_bounds c = rw (whole c.args.part.now c.if-part-eq-TESTED_AT_ONCE.true) c.requires.first_in_bounds

pub returns-then-part-eq-TESTED_AT_ONCE : goal.returns-then-part-eq-TESTED_AT_ONCE
returns-then-part-eq-TESTED_AT_ONCE c = let a = c.args in
    subst (λ (l : List ℕ). Queued a.y.0 (bad_from a.first.0 l) a.queue.now a.tail a.first.0 (length l) c.queue_some.result c.queue_some.new.queue)
    (whole a.part.now c.if-part-eq-TESTED_AT_ONCE.true) c.queue_some.ensures
