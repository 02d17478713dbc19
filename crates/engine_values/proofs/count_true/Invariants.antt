-- The loop keeps that the count so far and that of the pairs to come make the count of all. Assumes nothing.
use Rattle.std.specs.Prelude.{◌≡◌, ◌+◌, ◌≤◌, length, take}
use Rattle.engine_values.specs.Starts.{trues_in}
use Rattle.std.specs.Slice.Iter.{chunks_rest, chunks_size}
use Rattle.engine_values.proofs.count_true.Given as goal

abbrev pub invariant-loop-some : goal.invariant-loop-some
invariant-loop-some l =
    (goal.iterator-loop-some).can_next l.some-iterator ×
    (goal.iterator-loop-some).is_finite l.some-iterator ×
    (chunks_size l.some-iterator ≡ 224) ×
    (l.r + length (chunks_rest l.some-iterator) ≤ l.end) ×
    (l.r + trues_in (chunks_rest l.some-iterator) ≡ trues_in (take l.end l.values))
