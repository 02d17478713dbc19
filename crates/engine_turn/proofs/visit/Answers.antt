-- The pair waits where it has the value, is free and must turn. Assumes nothing.
use mathlib.Core.Path.{◌≡◌, refl, sym, ap, ◌∙◌}
use mathlib.Core.Bool.{false}
use Prim.Native.Nat.{ℕ, ◌+◌, ◌<◌}
use native.Mathlib.Omega.{arith}
use lib.ListN.{get_or}
use lib.Dec.{eqb}
use Rattle.lists.specs.Tests.{eqb-in, eqb_no}
use Rattle.rules.specs.Rooms.{pairs_of}
use Rattle.engine_table.specs.Table.{pair_in}
use Rattle.engine_table.specs.Limits.{limits}
use Rattle.engine_own.specs.Pairs.{pair-low}
use Rattle.engine_index.specs.Operands.{waits_in, owner_in}
use Rattle.engine_turn.specs.Scene.{Scene, scene_in, has_from, asks_for}
use Rattle.engine_turn.specs.VisitLaws.{asks-not, asks-by, leaner-of, pair_is, waits-is, visit-shut, visit-stays, visit-waits, visit-room}
use Rattle.engine_turn.specs.Inside.{standing-in}
use Rattle.engine_turn.proofs.visit.Goals.{After-must_turn, After-pair_in-p, Start}
use Rattle.engine_turn.proofs.visit.Goals as goal

-- What the engine sees from the start.
abbrev scene-of : Start → Scene
scene-of c = scene_in c.args.view.now

-- The state is one of a model's.
state-low : (c : Start) → c.args.s.0 < 1024
state-low c =
    let z = limits (standing-in c.args.view.now).drawn in
    omega (arith, c.requires.leans.1)

-- The pair that is read off is that of the operand's variable and the state.
pair-known : (c : After-pair_in-p) →
    let a = c.args in
    c.pair_in-p.result ≡ pair_in a.view.now.known.now.sizes (owner_in a.o) a.s.0
pair-known c =
    pair_is (scene_in c.args.view.now) c.requires.leans.0 c.args.s.0 c.pair_in-p.result c.pair_in-p.ensures

-- It is one of the model's pairs.
pair-low-known : (c : After-pair_in-p) → c.pair_in-p.result < pairs_of c.args.view.now.known.now.sizes
pair-low-known c =
    let a = c.args in
    let is = pair-known c in
    let low = pair-low a.view.now.known.now.sizes (owner_in a.o) a.s.0 c.requires.leans.0.variable c.requires.leans.1 in
    omega arith

-- What is found of a pair with the value is whether it must turn.
asked : (c : After-must_turn) →
    let a = c.args in
    c.must_turn.result ≡ asks_for (scene_in c.args.view.now) a.view.now.settling (owner_in a.o) a.s.0
asked c =
    let a = c.args in
    let has = ap (λ (q : ℕ). eqb (get_or a.view.now.values.now q 0) a.view.now.from) (sym (pair_is (scene_in c.args.view.now) c.requires.leans.0 c.args.s.0 c.pair_in-p.result c.pair_in-p.ensures)) ∙ eqb-in _ _ c.if-values-p.true in
    c.must_turn.ensures ∙ asks-by (scene_in c.args.view.now) a.view.now.settling a.asks a.o a.s.0 c.requires.leans.0 has

pub bounds-values-p : goal.bounds-values-p
bounds-values-p c = let low = pair-low-known (goal.at.bounds-values-p c).After-pair_in-p in
    let n = (standing-in c.args.view.now).long in
    omega arith

pub bounds-marks-p : goal.bounds-marks-p
bounds-marks-p c = let low = pair-low-known (goal.at.bounds-marks-p c).After-pair_in-p in
    let n = c.requires.marks_len.0 in
    omega arith

pub must_turn-requires : goal.must_turn-requires
must_turn-requires c =
    record {
      leaner = leaner-of (scene-of (goal.at.must_turn-requires c).Start) c.requires.leans.0 c.args.s.0 c.requires.leans.1;
      along = c.requires.along;
    }

pub next_mark-requires : goal.next_mark-requires
next_mark-requires c = sym c.is_free.ensures ∙ c.if-is_free.true

pub bounds-marks-p-then-must_turn : goal.bounds-marks-p-then-must_turn
bounds-marks-p-then-must_turn c = let low = pair-low-known (goal.at.bounds-marks-p-then-must_turn c).After-pair_in-p in
    let n = c.requires.marks_len.0 in
    omega arith

pub waiting_in-requires : goal.waiting_in-requires
waiting_in-requires c = let a = c.args in
    let z = limits (standing-in c.args.view.now).drawn in
    let w = c.requires.leans.0.waits in
    let y = c.requires.leans.0.variable in
    let s = c.requires.leans.1 in
    let k : waits_in a.o + a.s.0 < 65536 = omega arith in
    k

pub offset_bounds-queue-tail : goal.offset_bounds-queue-tail
offset_bounds-queue-tail c = record { fits = omega (arith, c.requires.marks_len.1.0) }

pub bounds-queue-tail : goal.bounds-queue-tail
bounds-queue-tail c = let a = c.args in
    visit-room (scene-of (goal.at.bounds-queue-tail c).Start) a.view.now.settling (owner_in a.o) a.s.0 (state-low (goal.at.bounds-queue-tail c).Start) a.marks.now a.queue.now a.at.tail a.at.visits c.pair_in-p.result _ c.is_free.result (pair-known (goal.at.bounds-queue-tail c).After-pair_in-p) refl c.is_free.ensures c.if-is_free.true
    c.must_turn.result (asked (goal.at.bounds-queue-tail c).After-must_turn) c.if-must_turn.true c.requires.room

pub overflow_add-end : goal.overflow_add-end
overflow_add-end c = record { fits = omega (arith, c.requires.marks_len.1.0) }

pub returns-then-must_turn : goal.returns-then-must_turn
returns-then-must_turn c = let a = c.args in
    visit-waits (scene-of (goal.at.returns-then-must_turn c).Start) a.view.now.settling (owner_in a.o) a.s.0 (state-low (goal.at.returns-then-must_turn c).Start) a.marks.now a.queue.now a.at.tail a.at.visits c.pair_in-p.result _ c.is_free.result (pair-known (goal.at.returns-then-must_turn c).After-pair_in-p) refl c.is_free.ensures c.if-is_free.true
    c.must_turn.result (asked (goal.at.returns-then-must_turn c).After-must_turn) c.if-must_turn.true c.next_mark.result c.waiting_in.result _ c.next_mark.ensures (waits-is (scene-of (goal.at.returns-then-must_turn c).Start) c.requires.leans.0 a.s.0 _ c.waiting_in.ensures) refl

pub returns-else-must_turn : goal.returns-else-must_turn
returns-else-must_turn c = let a = c.args in
    visit-stays (scene-of (goal.at.returns-else-must_turn c).Start) a.view.now.settling (owner_in a.o) a.s.0 (state-low (goal.at.returns-else-must_turn c).Start) a.marks.now a.queue.now a.at.tail a.at.visits c.must_turn.result (asked (goal.at.returns-else-must_turn c).After-must_turn) c.if-must_turn.false

pub returns-else-is_free : goal.returns-else-is_free
returns-else-is_free c = let a = c.args in
    visit-shut (scene-of (goal.at.returns-else-is_free c).Start) a.view.now.settling (owner_in a.o) a.s.0 (state-low (goal.at.returns-else-is_free c).Start) a.marks.now a.queue.now a.at.tail a.at.visits c.pair_in-p.result _ c.is_free.result (pair-known (goal.at.returns-else-is_free c).After-pair_in-p) refl c.is_free.ensures c.if-is_free.false

pub returns-else-values-p : goal.returns-else-values-p
returns-else-values-p c = let a = c.args in
    let scene = scene-of (goal.at.returns-else-values-p c).Start in
    let off : has_from scene (owner_in a.o) a.s.0 ≡ false = ap (λ (q : ℕ). eqb (get_or a.view.now.values.now q 0) a.view.now.from) (sym (pair-known (goal.at.returns-else-values-p c).After-pair_in-p)) ∙ (eqb_no _ _).1 c.if-values-p.false in
    visit-stays scene a.view.now.settling (owner_in a.o) a.s.0 (state-low (goal.at.returns-else-values-p c).Start) a.marks.now a.queue.now a.at.tail a.at.visits false (asks-not scene a.view.now.settling (owner_in a.o) a.s.0 off) refl
