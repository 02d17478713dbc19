-- Rooms on the course of an update, as loops find them: rows are looked at or passed by, pairs turn, phases end. Assumes nothing.
use Rattle.std.specs.Prelude.{◌≡◌, refl, Bool, false, not, cond, get_or, set, ltb}
use Rattle.std.proofs.Math.Path.{sym, ap, subst}
use Rattle.std.proofs.Common.{◌∙◌, add-zero}
use Rattle.std.proofs.Math.Logic.{inl, inr}
use Rattle.std.proofs.Math.Bool.{true}
use mathlib.Core.List.{List, ◌++◌}
use Prim.Native.Nat.{ℕ, suc, ◌+◌, ◌-◌, ◌*◌, ◌≤◌, ◌<◌}
use Rattle.std.proofs.Math.Nat.{mul-le-mul_right}
use native.Mathlib.Omega.{arith}
use Rattle.std.proofs.Math.ListN.{length}
use Rattle.lists.specs.Tests.{tell, ltb-in, ltb-out, ltb_no, cond_yes, cond_no}
use Rattle.systems.specs.solution.System.{Frame}
use Rattle.systems.specs.machine.Machine.{free, next_mark, asks}
use Rattle.systems.specs.lists.ListMachine.{val_of, marks_in, between, Pile, Job, pair_from, seek, phases, moved, emptied, turned, spread_l, turn_l, seek_l, first_l}
use Rattle.systems.specs.lists.ListCourse.{Underway, Turning}
use Rattle.systems.specs.lists.ListKeeps.{way-old, way-still, way-free, way-room}
use Rattle.systems.specs.lists.ListsMove.{way-start}
use Rattle.systems.specs.lists.Midst.{way-odd}
use Rattle.systems.specs.moving.MarkTurns.{flip, odd}
use Rattle.systems.specs.lists.Places.{seek-stays, onward, next_phase}
use Rattle.systems.specs.lists.Rows.{hits, row_marks, look_row}
use Rattle.systems.specs.lists.RowLaws.{row-marks, row_kept, row-tail, row-queue}
use Rattle.systems.specs.lists.Loops.{loop-skip, loop-over, loop-end, loop-queue, loop-turn, loop-row}
use Rattle.systems.specs.slices.Slices.{refilled}
use Rattle.rules.specs.Model.{blocks_of}
use Rattle.rules.specs.Rooms.{pairs_of}
use Rattle.rules.specs.Batch.{Change}
use Rattle.rules.specs.Values.{block_of, leanings}
use Rattle.laws.specs.model.ModelSystem.{frame}
use Rattle.laws.specs.model.ModelLeaners.{leaners_of}
use Rattle.laws.specs.model.LookTest.{look_test}
use Rattle.laws.specs.model.MachineRules.{Answers}
use Rattle.rules.specs.Update.{turn_all}
use Rattle.rules.specs.Calls.{value_at}
use Rattle.engine_table.specs.Table.{Table, model_of, Drawn, word_at}
use Rattle.engine_table.specs.EquationWords.{block-word, pair_inside}
use Rattle.engine_table.specs.Limits.{limits, pairs-few}
use Rattle.engine_rows.specs.Rooms.{Bits, Told}
use Rattle.engine_phase.specs.Started.{Started, way_of, way_finds, way-agrees, way-few, way-answers}
use Rattle.engine_phase.specs.LeanersFew.{most_leaners, leaners-few}

-- The lists d, from which the next look or turn is sought, are on the course of the update of the table t by the changes cs from the
-- values vs; and the visits so far are no more than the units allow.
pub record On (t : Table) (cs : List Change) (vs : List ℕ) (d : Job) : Type 0 where
  pub started : Started (model_of t) cs vs
  pub units : ℕ
  pub under : Underway (way_of (model_of t) cs vs started) (leaners_of (model_of t)) units (seek_l (frame (model_of t)) d)
  pub shifts : d.shift_visits ≤ most_leaners * units
  pub settles : d.settle_visits ≤ most_leaners * units

-- What is sought next has the same values and marks, the same room for a queue, and no longer a queue.
module _ (F : Frame) (d : Job) where
  seek-by : {A : Type 0} (f : Job → A) → f (moved (record { block = d.block; settling = d.settling; place = pair_from F d.block d.place }) d.pile d) ≡ f d
      → f (moved (seek F (phases (F.blocks - d.block) d.settling) d.block d.settling d.place) (emptied d.pile) d) ≡ f d → f (seek_l F d) ≡ f d
  unfolding seek_l
  seek-by f a b = elim (tell true (ltb d.pile.from d.pile.tail)) [
    | inl e ↦ ap f (cond_yes _ _ e) ∙ a
    | inr e ↦ ap f (cond_no _ _ e) ∙ b
  ]

  seek-vals : (seek_l F d).vals ≡ d.vals
  seek-vals = seek-by (λ (c : Job). c.vals) refl refl

  seek-marks : (seek_l F d).pile.marks ≡ d.pile.marks
  seek-marks = seek-by (λ (c : Job). c.pile.marks) refl refl

  seek-queue : (seek_l F d).pile.queue ≡ d.pile.queue
  seek-queue = seek-by (λ (c : Job). c.pile.queue) refl refl

-- No more wait than there are pairs.
room-left : (t : Table) (cs : List Change) (vs : List ℕ) (s : Started (model_of t) cs vs) {n : ℕ} (c : Job)
    → Underway (way_of (model_of t) cs vs s) (leaners_of (model_of t)) n (seek_l (frame (model_of t)) c) → c.pile.from < c.pile.tail → c.pile.tail ≤ pairs_of t.sizes
unfolding way_of seek_l
room-left t cs vs s c w l =
    let F = frame (model_of t) in
    let h = way-room {u = way_of (model_of t) cs vs s} w in
    let k = ap (λ (x : Job). x.pile.tail) (cond_yes (moved (record { block = c.block; settling = c.settling; place = pair_from F c.block c.place }) c.pile c)
    (moved (seek F (phases (F.blocks - c.block) c.settling) c.block c.settling c.place) (emptied c.pile) c) (ltb-in c.pile.from c.pile.tail l)) in
    omega arith

module _ {t : Table} (dr : Drawn t) {cs : List Change} {vs : List ℕ} (d : Job) (o : On t cs vs d) where
  abbrev F : Frame
  F = frame (model_of t)

  -- The lists are as long as there are pairs, and hold values and marks.
  pub on-vals : length d.vals ≡ pairs_of t.sizes
  unfolding way_of
  on-vals = ap length (sym (seek-vals F d)) ∙ o.under.formed.vals

  pub on-bits : Bits d.vals
  on-bits p = subst (λ (l : List ℕ). get_or l p 0 ≤ 1) (seek-vals F d) (o.under.formed.bits p)

  pub on-marks : length d.pile.marks ≡ pairs_of t.sizes
  unfolding way_of
  on-marks = ap length (sym (seek-marks F d)) ∙ o.under.formed.marks

  pub on-small : (p : ℕ) → get_or d.pile.marks p 0 ≤ 3
  on-small p = subst (λ (l : List ℕ). get_or l p 0 ≤ 3) (seek-marks F d) (o.under.formed.small p)

  pub on-queue : pairs_of t.sizes ≤ length d.pile.queue
  unfolding way_of
  on-queue = let e = ap length (seek-queue F d) in let h = o.under.formed.queue in omega arith

  -- No more wait than there are pairs.
  pub on_room : d.pile.from < d.pile.tail → d.pile.tail ≤ pairs_of t.sizes
  on_room l = room-left t cs vs o.started d o.under l

  -- The row of the variable y is next, and y is of the block.
  module _ (y : ℕ) (lt : y < t.sizes.variables) (low : d.block < blocks_of (model_of t)) (place : d.place ≡ y * t.sizes.states) (fresh : d.pile.from ≡ 0) where
    row-pair : (s : ℕ) → s < t.sizes.states → d.place + s < pairs_of t.sizes
    row-pair s h = let k = pair_inside dr y s lt h in omega arith

    row_block : (s : ℕ) → s < t.sizes.states → block_of (model_of t) (d.place + s) ≡ (word_at t y).block
    row_block s h = ap (λ (p : ℕ). block_of (model_of t) (p + s)) place ∙ block-word dr y s lt h

    some : 0 < t.sizes.states
    some = let l = limits dr in omega arith

    -- The row of a variable of another block is passed by.
    pub on-pass : ((word_at t y).block ≡ d.block → ⊥) → On t cs vs (onward t.sizes.states d)
    unfolding way_of
    on-pass other = record {
      started = o.started;
      units = o.units;
      under = loop-skip {u = way_of (model_of t) cs vs o.started} d o.under t.sizes.states low
          (let k = mul-le-mul_right t.sizes.states lt in omega arith) (λ s h e. other (sym (row_block s h) ∙ e));
      shifts = o.shifts;
      settles = o.settles;
    }

    module _ (own : (word_at t y).block ≡ d.block) where
      first : block_of (model_of t) d.place ≡ d.block
      first = subst (λ (p : ℕ). block_of (model_of t) p ≡ d.block) (add-zero d.place) (row_block 0 some ∙ own)

      at_row : d.place < pairs_of t.sizes
      at_row = subst (λ (p : ℕ). p < pairs_of t.sizes) (add-zero d.place) (row-pair 0 some)

      -- The lists stand at the row.
      here : Underway (way_of (model_of t) cs vs o.started) (leaners_of (model_of t)) o.units d
      here = subst (Underway (way_of (model_of t) cs vs o.started) (leaners_of (model_of t)) o.units)
          (seek-stays F d low at_row first (λ l. (fresh, omega arith))) o.under

      -- While shifting, the old values of all pairs can be told.
      pub on-told : d.settling ≡ false → Told t d.vals d.pile.marks y
      unfolding way_of
      on-told ph = record {
        still = λ q l. way-old {u = way_of (model_of t) cs vs o.started} here q
            ∙ sym (way-still {u = way_of (model_of t) cs vs o.started} here low at_row ph q (let e = first in omega arith));
        turned = λ q l. way-odd {u = way_of (model_of t) cs vs o.started} here low q (omega arith)
            ∙ ap (λ (b : Bool). flip (odd (marks_in d.pile.marks q)) b) (sym (way-old {u = way_of (model_of t) cs vs o.started} here q));
      }

      -- The pairs of the row may wait.
      pub on-free : (s : ℕ) → s < t.sizes.states → free d.settling (marks_in d.pile.marks (d.place + s)) ≡ true
      unfolding way_of
      on-free s h = way-free {u = way_of (model_of t) cs vs o.started} here low at_row (d.place + s) (omega arith) (row_block s h ∙ own)

      -- The row is looked at, where f says which of its pairs must turn.
      module _ (f : ℕ → Bool) (says : (s : ℕ) → s < t.sizes.states → look_test (model_of t) cs d.settling (val_of d.vals) (marks_in d.pile.marks) (d.place + s) ≡ f (d.place + s)) where
        looked : Underway (way_of (model_of t) cs vs o.started) (leaners_of (model_of t)) (o.units + t.sizes.states) (seek_l F (look_row f t.sizes.states d))
        unfolding way_of
        looked =
            let e : suc (t.sizes.states - 1) ≡ t.sizes.states = let z = some in omega arith in
            subst (λ (k : ℕ). Underway (way_of (model_of t) cs vs o.started) (leaners_of (model_of t)) (o.units + k) (seek_l F (look_row f k d))) e
            (loop-row {u = way_of (model_of t) cs vs o.started} (way_finds (model_of t) cs vs o.started) (look_test (model_of t) cs) (way-agrees (model_of t) cs vs o.started)
            d o.under f (t.sizes.states - 1) low fresh (let k = row-pair (t.sizes.states - 1) (omega arith) in omega arith)
            (λ s h. row_block s (omega arith) ∙ own) (λ s h. says s (omega arith)))

        -- The queue has room for them.
        pub on-hits : d.pile.tail + length (hits f d.place t.sizes.states) ≤ pairs_of t.sizes
        unfolding look_row
        on-hits =
            let e = row-tail f (next_mark d.settling) d.place t.sizes.states d.pile in
            let k = (row_kept f (next_mark d.settling) d.place t.sizes.states d.pile).from in
            let kt = (row_kept f (next_mark d.settling) d.place t.sizes.states d.pile).tail in
            elim (tell true (ltb 0 (d.pile.tail + length (hits f d.place t.sizes.states)))) [
              | inl y ↦
                  let l = ltb-out 0 (d.pile.tail + length (hits f d.place t.sizes.states)) y in
                  let h = room-left t cs vs o.started (look_row f t.sizes.states d) looked (omega arith) in
                  omega arith
              | inr y ↦ let l = (ltb_no 0 (d.pile.tail + length (hits f d.place t.sizes.states))).0 y in omega arith
            ]

        -- What the row leaves: the next marks at these pairs, and they wait behind the others. What else the room of the queue
        -- holds does not matter.
        pub on_row : (marks queue : List ℕ) (tail : ℕ) → marks ≡ row_marks f (next_mark d.settling) d.place t.sizes.states d.pile.marks
            → tail ≡ d.pile.tail + length (hits f d.place t.sizes.states) → pairs_of t.sizes ≤ length queue
            → between queue 0 tail ≡ between d.pile.queue 0 d.pile.tail ++ hits f d.place t.sizes.states
            → On t cs vs (record {
              block = d.block;
              settling = d.settling;
              place = d.place + t.sizes.states;
              vals = d.vals;
              pile = record { marks = marks; queue = queue; from = 0; tail = tail };
              shift_visits = d.shift_visits;
              settle_visits = d.settle_visits;
            })
        unfolding way_of look_row
        on_row marks queue tail is-marks is-tail room waits =
            let n = t.sizes.states in
            let next = next_mark d.settling in
            let c = look_row f n d in
            let kf = (row_kept f next d.place n d.pile).from in
            let kt = row-tail f next d.place n d.pile in
            let q = on-queue in
            let h = on-hits in
            let from_is : c.pile.from ≡ 0 = omega arith in
            let tail_is : c.pile.tail ≡ tail = omega arith in
            let w = loop-queue {u = way_of (model_of t) cs vs o.started} c looked queue room (omega arith)
            (ap (λ (k : ℕ). between queue k (c.pile.tail - k)) from_is ∙ ap (λ (k : ℕ). between queue 0 k) (let z : c.pile.tail - 0 ≡ tail = omega arith in z) ∙ waits
            ∙ ap (λ (k : ℕ). between d.pile.queue 0 k ++ hits f d.place n) (let z : d.pile.tail ≡ d.pile.tail - 0 = omega arith in z)
            ∙ ap (λ (k : ℕ). between d.pile.queue k (d.pile.tail - k) ++ hits f d.place n) (sym fresh)
            ∙ sym (row-queue f next d.place n d.pile (omega arith) (omega arith))) in
            record {
              started = o.started;
              units = o.units + n;
              under = subst (λ (x : Job). Underway (way_of (model_of t) cs vs o.started) (leaners_of (model_of t)) (o.units + n) (seek_l F x))
                  (ap (λ (k : ℕ). refilled queue k c.pile.tail c) from_is ∙ ap (λ (k : ℕ). refilled queue 0 k c) tail_is
                  ∙ ap (λ (l : List ℕ). moved (record { block = d.block; settling = d.settling; place = d.place + n }) (record { marks = l; queue = queue; from = 0; tail = tail }) d)
                  (row-marks f next d.place n d.pile ∙ sym is-marks)) w;
              shifts = let a = o.shifts in omega arith;
              settles = let a = o.settles in omega arith;
            }

-- All rows of the phase have been looked at.
module _ {t : Table} (dr : Drawn t) {cs : List Change} {vs : List ℕ} (d : Job) (o : On t cs vs d) (low : d.block < blocks_of (model_of t)) (past : pairs_of t.sizes ≤ d.place) where
  abbrev front : ℕ
  front = get_or d.pile.queue d.pile.from 0

  -- Where none waits, the next phase begins.
  pub on-over : d.pile.tail ≤ d.pile.from → On t cs vs (next_phase d)
  unfolding way_of
  on-over h = record {
    started = o.started;
    units = o.units;
    under = loop-over {u = way_of (model_of t) cs vs o.started} d o.under low past h;
    shifts = o.shifts;
    settles = o.settles;
  }

  module _ (waits : d.pile.from < d.pile.tail) where
    turned_on : Turning (frame (model_of t)) d
        × Underway (way_of (model_of t) cs vs o.started) (leaners_of (model_of t)) (suc o.units) (seek_l (frame (model_of t)) (turn_l (frame (model_of t)) (leanings (model_of t)) (leaners_of (model_of t)) d))
    unfolding way_of
    turned_on = loop-turn {u = way_of (model_of t) cs vs o.started} (way_finds (model_of t) cs vs o.started) (look_test (model_of t) cs)
        (way-agrees (model_of t) cs vs o.started) d o.under low past waits

    -- The pair in front is one of the block, with the value that pairs turn from.
    pub on-turning : Turning (frame (model_of t)) d
    on-turning = turned_on.0

    -- It turns, and those that lean on it are visited.
    pub on-turn : (values : List ℕ) (pile : Pile) (shifts settles : ℕ) → values ≡ set d.vals front (turned (get_or d.vals front 0))
        → pile ≡ spread_l (free d.settling) (next_mark d.settling) (asks (frame (model_of t)) (leanings (model_of t)) d.settling (val_of values)) (leaners_of (model_of t) front)
        (record { marks = d.pile.marks; queue = d.pile.queue; from = suc d.pile.from; tail = d.pile.tail })
        → shifts ≡ d.shift_visits + cond d.settling 0 (length (leaners_of (model_of t) front))
        → settles ≡ d.settle_visits + cond d.settling (length (leaners_of (model_of t) front)) 0
        → On t cs vs (record { block = d.block; settling = d.settling; place = d.place; vals = values; pile = pile; shift_visits = shifts; settle_visits = settles })
    unfolding turn_l
    on-turn values pile shifts settles is-values is-pile is-shifts is-settles = record {
      started = o.started;
      units = suc o.units;
      under = subst (λ (x : Job). Underway (way_of (model_of t) cs vs o.started) (leaners_of (model_of t)) (suc o.units) (seek_l (frame (model_of t)) x))
          (sym (rw (is-pile, is-values, is-shifts, is-settles) refl)) turned_on.1;
      shifts = let a = o.shifts in let b = grows (not d.settling) in let e = is-shifts ∙ ap (λ (k : ℕ). d.shift_visits + k) (swapped d.settling) in omega arith;
      settles = let a = o.settles in let b = grows d.settling in omega arith;
    }
      where
        few : length (leaners_of (model_of t) front) ≤ most_leaners
        few = let l = limits dr in leaners-few (model_of t) front (omega arith) (omega arith)

        grows : (b : Bool) → cond b (length (leaners_of (model_of t) front)) 0 ≤ most_leaners
        grows true = few
        grows false = omega arith

        swapped : (b : Bool) → cond b 0 (length (leaners_of (model_of t) front)) ≡ cond (not b) (length (leaners_of (model_of t) front)) 0
        swapped true = refl
        swapped false = refl

-- The start, and the end.
module _ {t : Table} {cs : List Change} {vs : List ℕ} (s : Started (model_of t) cs vs) where
  pub on-begins : (queue : List ℕ) → pairs_of t.sizes ≤ length queue → On t cs vs (first_l (frame (model_of t)) vs queue)
  unfolding way_of
  on-begins queue room = record {
    started = s;
    units = 0;
    under = way-start (way_of (model_of t) cs vs s) (leaners_of (model_of t)) vs queue s.long s.small room (λ p. refl);
    shifts = omega arith;
    settles = omega arith;
  }

pub on-ends : {t : Table} {cs : List Change} {vs : List ℕ} (d : Job) → On t cs vs d → blocks_of (model_of t) ≤ d.block → d.pile.from ≡ 0 → d.pile.tail ≡ 0
    → Answers (model_of t) (turn_all (model_of t) cs (value_at vs)) d
unfolding way_of
on-ends {t} {cs} {vs} d o b f e =
    way-answers (model_of t) cs vs o.started (loop-end {u = way_of (model_of t) cs vs o.started} d o.under b f e) b

-- Visits stay far below what a number holds.
pub on-few : {t : Table} → Drawn t → {cs : List Change} {vs : List ℕ} (d : Job) → On t cs vs d
    → (d.shift_visits + most_leaners < 4294967296) × (d.settle_visits + most_leaners < 4294967296)
on-few {t} dr {cs} {vs} d o =
    let a = way-few (model_of t) cs vs o.started o.under in
    let p = pairs-few dr in
    let x = o.shifts in
    let y = o.settles in
    (omega arith, omega arith)
