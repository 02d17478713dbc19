-- The value is turned round, and then all who lean on the pair are visited. Assumes nothing.
use native.Mathlib.Omega.{arith}
use lib.ListN.{get_or, replicate}
use Rattle.engine_table.specs.Table.{waiter}
use Rattle.engine_turn.specs.Turns.{round_of}
use Rattle.engine_turn.specs.TurnRuns.{front-held, InFront, x-inside, q-inside, p-inside, turn-bounded, turn-room, turn-done}
use Rattle.engine_turn.proofs.turn.Goals.{After-pair_of-p}
use Rattle.engine_turn.proofs.turn.Goals as goal

in-front : (c : After-pair_of-p) → (let a = c.args in
    InFront a.known.now.sizes a.known.now.equations.now a.known.now.moves.now a.values.now a.queue.now a.at.tail a.front c.variable_of-x.result.0 c.state_of-s.result.0 c.pair_of-p.result)
in-front c =
    record {
      sketched = record { labels = replicate c.args.known.now.sizes.states 0; drawn = c.args.known.now.drawn };
      bits = c.requires.bits.0;
      long = c.requires.values_len.0;
      packed = c.requires.bits.1.0;
      waits = c.requires.bits.1.1;
      is_x = c.variable_of-x.ensures;
      is_q = c.state_of-s.ensures;
      is_p = c.pair_of-p.ensures;
    }

pub offset_bounds-queue-front : goal.offset_bounds-queue-front
offset_bounds-queue-front c = record { fits = omega (arith, c.requires.bits.1.1, c.requires.bounded_at.0) }

pub bounds-queue-front : goal.bounds-queue-front
bounds-queue-front c = let a = c.args in
    let h = front-held a.known.now.sizes a.known.now.equations.now a.known.now.moves.now a.settling a.front _ (round_of a.values.now a.marks.now a.queue.now a.at.tail a.at.visits) c.requires.room_for in
    omega (arith, c.requires.bits.1.1)

pub overflow_sub-values : goal.overflow_sub-values
overflow_sub-values c = let a = c.args in
    let b = c.requires.bits.0 (waiter a.known.now.sizes (get_or a.queue.now a.front 0)) in
    omega (arith, b, c.requires.from_value_2)

pub bounds-values-p : goal.bounds-values-p
bounds-values-p c = let k = p-inside (in-front c) in omega arith

pub visit_leaners-requires : goal.visit_leaners-requires
visit_leaners-requires c = let a = c.args in
    let f = in-front (goal.at.visit_leaners-requires c).After-pair_of-p in
    record {
      x_lt_variables = (x-inside f, (q-inside f, (c.requires.values_len.1, turn-bounded f a.at.visits c.requires.bounded_at)));
      room = turn-room f a.settling c.requires.from_value a.from c.requires.from_value_2 a.marks.now a.at.visits c.requires.room_for;
    }

pub returns : goal.returns
returns c = let a = c.args in
    turn-done (in-front (goal.at.returns c).After-pair_of-p) a.settling c.requires.from_value a.from c.requires.from_value_2 a.marks.now a.at.visits _ _ _ _ c.visit_leaners.ensures
