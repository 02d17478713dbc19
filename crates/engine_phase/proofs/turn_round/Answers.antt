use mathlib.Core.Path.{◌≡◌, refl, ◌∙◌, subst}
use Prim.Native.Nat.{ℕ, ◌<◌}
use native.Mathlib.Omega.{arith}
use Rattle.engine_turn.specs.Turns.{round_of}
use Rattle.engine_phase.specs.Rounds.{Waiting, Rounded, round-none, waiting-on, waiting-values, waiting-marks, waiting-bits, waiting-from, waiting-bounded, waiting-room, round-one, rounds-on}
use Rattle.engine_phase.proofs.turn_round.Goals.{At-loop-f, In-loop-f}
use Rattle.engine_phase.proofs.turn_round.Goals as goal

-- What waits at each turn, and that a pair waits.
waits-here : (c : At-loop-f) →
    let a = c.args in
    let l = c.loop-f in
    Waiting a.known.now.sizes a.known.now.equations.now a.known.now.moves.now a.settling a.from l.f (round_of l.values l.marks l.queue l.r.tail l.r.visits)
waits-here c =
    let l = c.loop-f in
    waiting-on c.requires.waiting l.f (round_of l.values l.marks l.queue l.r.tail l.r.visits) l.invariant.1.1

one-waits : (c : In-loop-f) → c.loop-f.f < c.loop-f.r.tail
one-waits c = omega (arith, c.loop-f.invariant.1.1.grown, c.loop-f-test.true)

pub loop-f-init : goal.loop-f-init
loop-f-init c = ((refl, (refl, refl)), (c.requires.waiting.before, round-none c.requires.waiting))

pub turn-r-requires : goal.turn-r-requires
turn-r-requires c = let w = waits-here (goal.at.turn-r-requires c).At-loop-f in
    let waits = one-waits (goal.at.turn-r-requires c).In-loop-f in
    record {
      named = c.requires.named;
      values_len = (waiting-values w, waiting-marks w);
      bits = (waiting-bits w, (w.packed, waits));
      from_value = waiting-from w waits;
      bounded_at = waiting-bounded w waits;
      from_value_2 = w.value waits;
      room_for = waiting-room w waits;
    }

pub loop-f-preserved : goal.loop-f-preserved
loop-f-preserved c = let l = c.loop-f in
    let r = c.turn-r.result in
    let b = round_of c.turn-r.new.values c.turn-r.new.marks c.turn-r.new.queue r.tail r.visits in (
      (c.turn-r.auto.values ∙ l.invariant.0.0, (c.turn-r.auto.marks ∙ l.invariant.0.1.0, c.turn-r.auto.queue ∙ l.invariant.0.1.1)),
      (omega (arith, c.loop-f-test.true), rounds-on l.invariant.1.1 (round-one (waits-here (goal.at.loop-f-preserved c).At-loop-f) (one-waits (goal.at.loop-f-preserved c).In-loop-f) b c.turn-r.ensures)),
    )

pub returns : goal.returns
returns c = let a = c.args in
    let l = c.loop-f in
    subst (λ (n : ℕ). Rounded a.known.now.sizes a.known.now.equations.now a.known.now.moves.now a.settling a.from a.front n (round_of a.values.now a.marks.now a.queue.now a.at.tail a.at.visits)
    (round_of l.values l.marks l.queue l.r.tail l.r.visits)) (let e : l.f ≡ a.at.tail = omega (arith, l.invariant.1.0, c.loop-f-test.false) in e) l.invariant.1.1
