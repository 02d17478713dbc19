-- The rooms to work in are cut to what is needed, and cleared again. Assumes nothing.
use mathlib.Core.Path.{sym, ap, ◌∙◌}
use Prim.Native.Nat.{ℕ}
use native.Mathlib.Omega.{arith}
use lib.ListN.{length, drop, replicate}
use lib.Seq.{length-take-le}
use mathlib.Core.List.{List, ◌++◌}
use Rattle.lists.specs.Lists.{fill}
use Rattle.rules.specs.Rooms.{index_needs, queue_needs, index_after, queue_after}
use lib.ListN.{get_or}
use Rattle.lists.specs.Entries.{zeros-at}
use Rattle.engine_table.specs.Limits.{limits}
use Rattle.engine.specs.Updates.{cleared-part, cleared-again, fill-over, joined-long, links-fit}
use Rattle.engine.proofs.move_in_rooms.Goals as goal

pub slice_bounds-move_values-end-2 : goal.slice_bounds-move_values-end-2
slice_bounds-move_values-end-2 c = let a = c.args in
    let links = c.index_needs-links.ensures.0 in
    let waiting = c.queue_needs-waiting.ensures.0 in
    let kept = c.set_first.auto.room in
    sym (length-take-le c.index_needs-links.result c.set_first.new.room (omega (arith, c.requires.moves_in_bounds.1.0)))

pub slice_bounds-move_values-end-4 : goal.slice_bounds-move_values-end-4
slice_bounds-move_values-end-4 c = let a = c.args in
    let links = c.index_needs-links.ensures.0 in
    let waiting = c.queue_needs-waiting.ensures.0 in
    let kept = c.set_first.auto.room in
    sym (length-take-le c.queue_needs-waiting.result a.queue.now (omega (arith, c.requires.moves_in_bounds.1.1)))

pub move_values-turns-requires : goal.move_values-turns-requires
move_values-turns-requires c = let a = c.args in
    let links = c.index_needs-links.ensures.0 in
    let waiting = c.queue_needs-waiting.ensures.0 in
    let kept = c.set_first.auto.room in
    let cut = length-take-le c.index_needs-links.result c.set_first.new.room (omega (arith, c.requires.moves_in_bounds.1.0)) in
    let zeros = cleared-part c.index_needs-links.result a.index.now _ c.set_first.ensures in
    let few = links-fit a.held.now.sizes a.room (length a.held.now.moves.now) c.requires.moves_in_bounds.0 (limits a.held.now.drawn).1.1.1 in
    let room = length-take-le c.queue_needs-waiting.result a.queue.now (omega (arith, c.requires.moves_in_bounds.1.1)) in
    record {
      changes_value = c.requires.changes_value;
      started = c.requires.started;
      sizes_in_bounds = c.requires.sizes_in_bounds;
      moves_in_bounds = ((omega arith, λ k h. ap (λ (l : List ℕ). get_or l k 0) zeros ∙ zeros-at c.index_needs-links.result k), omega arith);
    }

pub clear_work-requires : goal.clear_work-requires
clear_work-requires c = let a = c.args in
    let links = c.index_needs-links.ensures.0 in
    let waiting = c.queue_needs-waiting.ensures.0 in
    let kept = c.set_first.auto.room in
    let cut = length-take-le c.index_needs-links.result c.set_first.new.room (omega (arith, c.requires.moves_in_bounds.1.0)) in
    let part = c.move_values-turns.auto.index ∙ cut in
    let queued = c.move_values-turns.auto.queue ∙ length-take-le c.queue_needs-waiting.result a.queue.now (omega (arith, c.requires.moves_in_bounds.1.1)) in
    let one = joined-long c.index_needs-links.result c.move_values-turns.new.index c.set_first.new.room part in
    let two = joined-long c.queue_needs-waiting.result c.move_values-turns.new.queue a.queue.now queued in
    (omega (arith, one), omega (arith, two))

pub returns : goal.returns
returns c = let a = c.args in
    let links = c.index_needs-links.ensures.0 in
    let waiting = c.queue_needs-waiting.ensures.0 in
    let kept = c.set_first.auto.room in
    let part = c.move_values-turns.auto.index ∙ length-take-le c.index_needs-links.result c.set_first.new.room (omega (arith, c.requires.moves_in_bounds.1.0)) in
    let queued = c.move_values-turns.auto.queue ∙ length-take-le c.queue_needs-waiting.result a.queue.now (omega (arith, c.requires.moves_in_bounds.1.1)) in (
      c.move_values-turns.ensures,
      (
        cleared-again (index_needs a.held.now.sizes a.room) a.index.now c.set_first.new.room c.move_values-turns.new.index _ (c.set_first.ensures ∙ ap (λ (n : ℕ). fill (replicate n 0) a.index.now) links) (part ∙ links)
            (c.clear_work.ensures.0 ∙ ap (λ (n : ℕ). index_after a.held.now.sizes a.room (c.move_values-turns.new.index ++ drop n c.set_first.new.room)) links),
        c.clear_work.ensures.1 ∙ ap (λ (n : ℕ). queue_after a.held.now.sizes (c.move_values-turns.new.queue ++ drop n a.queue.now)) waiting
            ∙ fill-over (queue_needs a.held.now.sizes) a.queue.now c.move_values-turns.new.queue (queued ∙ waiting),
      ),
    )
