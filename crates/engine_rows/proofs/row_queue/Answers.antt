-- One part after the other. Assumes nothing.
use Rattle.std.specs.Prelude.{◌≡◌, refl, List, ℕ, ◌+◌, ◌++◌, ◌≤◌, length, drop}
use Rattle.std.proofs.Common.{sym, ap, ◌∙◌, arith, length-append, length-drop, drop-drop, drop_at}
use Rattle.std.specs.Slice.Iter.{chunks_rest}
use Rattle.engine_rows.specs.RowLoops.{bad_at}
use Rattle.engine_rows.specs.Queued.{queued-on, queued-room, part-room, part-queued}
use Rattle.engine_rows.proofs.row_queue.Goals as goal

-- A part and what comes after it are no longer than what was to come.
part-fits : (from : ℕ) (l : List ℕ) (part rest : List ℕ) → part ++ rest ≡ drop from l → from ≤ length l → from + length part ≤ length l
part-fits from l part rest e h =
    let long = ap length e in let one = length-append part rest in let two = length-drop from l in omega arith

pub queue_part-top-requires-clause-first_in_bounds : goal.queue_part-top-requires-clause-first_in_bounds
queue_part-top-requires-clause-first_in_bounds c = let a = c.args in
    let l = c.loop-part in
    let i = l.invariant in
    let part = c.in-Some.part.now in
    let rest = chunks_rest c.next.new.self in
    let e : part ++ rest ≡ drop l.from a.bad.now = sym c.in-Some.ensures.steps.1.0 ∙ i.3 in
    let fits = part-fits l.from a.bad.now part rest e i.4 in
    part-room l.from a.bad.now part rest e l.top (length l.queue)
    (queued-room a.y.0 (bad_at a.bad.now) a.queue.now a.tail 0 l.from l.from (length part) (length a.bad.now) l.top l.queue
    (omega arith) fits i.5 c.requires.bad_in_bounds)

pub loop-part-preserved : goal.loop-part-preserved
loop-part-preserved c = let a = c.args in
    let l = c.loop-part in
    let i = l.invariant in
    let part = c.in-Some.part.now in
    let rest = chunks_rest c.next.new.self in
    let size = c.in-Some.ensures.steps.0 ∙ i.2 in
    let e : part ++ rest ≡ drop l.from a.bad.now = sym c.in-Some.ensures.steps.1.0 ∙ i.3 in
    let fits = part-fits l.from a.bad.now part rest e i.4 in (
      omega arith,
      tt,
      size,
      sym (drop_at part rest (length part) refl) ∙ ap (drop (length part)) e ∙ drop-drop (length part) l.from a.bad.now,
      fits,
      queued-on a.y.0 (bad_at a.bad.now) a.queue.now a.tail 0 l.from l.from (length part) (l.from + length part) l.top _ l.queue _
          (omega arith) (omega arith) i.5 (part-queued l.from a.bad.now part rest e a.y.0 l.queue _ l.top _ c.queue_part-top.ensures),
    )
