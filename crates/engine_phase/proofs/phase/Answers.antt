use mathlib.Core.Path.{refl, ◌∙◌}
use native.Mathlib.Omega.{arith}
use Rattle.rules.specs.Rooms.{pairs_of}
use Rattle.words.specs.Words.{changes_of}
use Rattle.engine_table.specs.Limits.{pairs-few}
use Rattle.engine_turn.specs.Turns.{round_of}
use Rattle.engine_phase.specs.Phase.{leads-over}
use Rattle.engine_phase.specs.Levels.{level-room, levelled-by}
use Rattle.engine_phase.specs.Rounds.{Waiting, round-none, waiting-on, waiting_few, rounds-on, round-counted}
use Rattle.engine_phase.proofs.phase.Goals.{After-first_value-from, At-loop-front}
use Rattle.engine_phase.proofs.phase.Goals as goal

-- What waits where the first round begins.
first-waits : (c : After-first_value-from) →
    let a = c.args in
    Waiting a.known.now.sizes a.known.now.equations.now a.known.now.moves.now a.settling c.first_value-from.result 0
    (round_of a.values.now c.look_rows-tail.new.marks c.look_rows-tail.new.queue c.look_rows-tail.result a.so_far.visits)
first-waits c =
    let a = c.args in
    let some = c.requires.somewhere in
    let made = c.look_rows-tail.ensures in
    record {
      labels = a.labels.now;
      changes = changes_of a.changes.now;
      block = a.block;
      drawn = c.requires.drawn;
      low = c.requires.block_bound.0;
      on = record { start = some.start; index = some.index; on = made.1 some.start (a.so_far.visits, some.index) some.on };
      before = omega arith;
      packed = made.0;
      value = λ waits. c.first_value-from.ensures;
    }

-- What waits where a round begins.
waits-here : (c : At-loop-front) →
    let a = c.args in
    let l = c.loop-front in
    Waiting a.known.now.sizes a.known.now.equations.now a.known.now.moves.now a.settling c.first_value-from.result l.front (round_of l.values l.marks l.queue l.at.tail l.at.visits)
waits-here c =
    let l = c.loop-front in
    waiting-on (let a = c.args in let some = c.requires.somewhere in let made = c.look_rows-tail.ensures in record { labels = a.labels.now; changes = changes_of a.changes.now; block = a.block; drawn = c.requires.drawn; low = c.requires.block_bound.0; on = record { start = some.start; index = some.index; on = made.1 some.start (a.so_far.visits, some.index) some.on }; before = omega arith; packed = made.0; value = λ waits. c.first_value-from.ensures }) l.front (round_of l.values l.marks l.queue l.at.tail l.at.visits) l.invariant.1

pub look_rows-tail-requires : goal.look_rows-tail-requires
look_rows-tail-requires c = let sw = c.requires.somewhere in
    record {
      drawn = c.requires.drawn;
      changes_value = c.requires.named.1;
      block_bound = c.requires.block_bound;
      somewhere = record { start = sw.start; index = (c.args.so_far.visits, sw.index); on = sw.on };
    }

pub loop-front-init : goal.loop-front-init
loop-front-init c = ((refl, (refl, refl)), round-none (first-waits c))

pub turn_round-at-requires : goal.turn_round-at-requires
turn_round-at-requires c =
    record {
      named = c.requires.named.0;
      waiting = waits-here (goal.at.turn_round-at-requires c).At-loop-front;
    }

pub loop-front-smaller : goal.loop-front-smaller
loop-front-smaller c = omega (arith, c.loop-front-test.true, waiting_few (waits-here (goal.at.loop-front-smaller c).At-loop-front) c.loop-front-test.true)

pub loop-front-preserved : goal.loop-front-preserved
loop-front-preserved c = let l = c.loop-front in
    ((c.turn_round-at.auto.values ∙ l.invariant.0.0, (c.turn_round-at.auto.marks ∙ l.invariant.0.1.0, c.turn_round-at.auto.queue ∙ l.invariant.0.1.1)), rounds-on l.invariant.1 c.turn_round-at.ensures)

pub levelled-reached-requires : goal.levelled-reached-requires
levelled-reached-requires c = let a = c.args in
    let l = c.loop-front in
    let room = level-room a.known.now.sizes c.first_value-from.result l.front a.so_far.level a.values.now l.values c.requires.level (round-counted l.invariant.1) in
    (room.0, λ t. let h = room.1 t in omega (arith, pairs-few c.requires.drawn))

pub returns : goal.returns
returns c = let a = c.args in
    let cs = changes_of a.changes.now in
    let dr = c.requires.drawn in
    let low = c.requires.block_bound.0 in
    let l = c.loop-front in (
      λ vs other o. leads-over dr cs a.block a.settling low (pairs_of a.known.now.sizes) (omega arith) l.values l.marks l.queue l.front l.at.tail l.at.visits c.loop-front-test.false vs other
          (l.invariant.1.leads a.labels.now cs a.block dr low vs other (c.look_rows-tail.ensures.1 vs (a.so_far.visits, other) o)),
      levelled-by a.known.now.sizes c.first_value-from.result l.front a.so_far.level c.levelled-reached.result a.values.now l.values (round-counted l.invariant.1) c.levelled-reached.ensures,
    )
