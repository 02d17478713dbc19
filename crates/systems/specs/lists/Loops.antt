-- The course of an update as loops go it. A loop is at a place, from which the next look or turn is sought: it begins at the first
-- pair, passes by rows of other blocks, looks at rows of the block, turns pairs until none waits, goes on to the next phase, and
-- ends past the last block.
-- Assumes nothing.
use Rattle.std.specs.Prelude.{◌≡◌, refl, Bool, List, ℕ, suc, ◌+◌, ◌-◌, ◌≤◌, ◌<◌, ltb, length}
use Rattle.std.proofs.Common.{sym, ◌∙◌, add-zero, arith}
use Rattle.std.proofs.Math.Path.{ap, subst}
use Rattle.std.proofs.Math.Logic.{inl, inr}
use Rattle.std.proofs.Math.Bool.{true}
use Rattle.lists.specs.Tests.{tell, ltb-in, ltb-out, ltb_no, cond_yes, cond_no}
use Rattle.lists.specs.Counts.{times}
use Rattle.systems.specs.machine.Machine.{Finds}
use Rattle.systems.specs.machine.Phases.{Update}
use Rattle.systems.specs.lists.ListMachine.{val_of, marks_in, between, Job, Test, Agrees, turn_l, look_l, Place, pair_from, seek, phases, moved, emptied, seek_l, step_l}
use Rattle.systems.specs.lists.ListCourse.{Underway, Turning}
use Rattle.systems.specs.lists.ListKeeps.{way-turn}
use Rattle.systems.specs.lists.ListsMove.{way-unit}
use Rattle.systems.specs.lists.Places.{seek-stays, onward, next_phase, seek-passes, seek-turn, seek-over, seek-done}
use Rattle.systems.specs.lists.Rows.{look_row}
use Rattle.systems.specs.lists.RowRuns.{way-row, way-part}
use Rattle.systems.specs.slices.Slices.{refilled, way-refill}

module _ {u : Update} {on : ℕ → List ℕ} (d : Job) {n : ℕ} (w : Underway u on n (seek_l u.F d)) where
  open u use {F}

  -- The next k pairs are of other blocks.
  pub loop-skip : (k : ℕ) → d.block < F.blocks → d.place + k ≤ F.pairs → ((j : ℕ) → j < k → F.block (d.place + j) ≡ d.block → ⊥)
      → Underway u on n (seek_l F (onward k d))
  loop-skip k b h z = subst (Underway u on n) (seek-passes F d k b h z) w

  -- All pairs of the phase have been looked at, and none waits.
  pub loop-over : d.block < F.blocks → F.pairs ≤ d.place → d.pile.tail ≤ d.pile.from → Underway u on n (seek_l F (next_phase d))
  loop-over b h z = subst (Underway u on n) (seek-over F d b h z) w

  -- The last block is done.
  pub loop-end : F.blocks ≤ d.block → d.pile.from ≡ 0 → d.pile.tail ≡ 0 → Underway u on n d
  loop-end b f t = subst (Underway u on n) (seek-done F d b f t) w

  -- What lies in the queue's list outside of what waits does not matter.
  pub loop-queue : (queue : List ℕ) → F.pairs ≤ length queue → d.pile.from ≤ d.pile.tail
      → between queue d.pile.from (d.pile.tail - d.pile.from) ≡ between d.pile.queue d.pile.from (d.pile.tail - d.pile.from)
      → Underway u on n (seek_l F (refilled queue d.pile.from d.pile.tail d))
  unfolding seek_l
  loop-queue queue room order e =
      let h = d.pile in
      let other = refilled queue h.from h.tail d in
      let p : Place = record { block = d.block; settling = d.settling; place = pair_from F d.block d.place } in
      let s : Place = seek F (phases (F.blocks - d.block) d.settling) d.block d.settling d.place in
      elim (tell true (ltb h.from h.tail)) [
        | inl y ↦
            let l = ltb-out h.from h.tail y in
            subst (Underway u on n) (sym (cond_yes (moved p other.pile d) (moved s (emptied other.pile) d) y))
            (way-refill {c = moved p h d} (subst (Underway u on n) (cond_yes (moved p h d) (moved s (emptied h) d) y) w) queue h.from h.tail room order (omega arith)
            (λ z. absurd (omega arith)) (λ q. ap (times q) e))
        | inr y ↦
            subst (Underway u on n) (sym (cond_no (moved p other.pile d) (moved s (emptied other.pile) d) y))
            (way-refill {c = moved s (emptied h) d} (subst (Underway u on n) (cond_no (moved p h d) (moved s (emptied h) d) y) w) queue 0 0 room (omega arith) (omega arith)
            (λ z. (refl, refl)) (λ q. refl))
      ]

module _ {u : Update} {on : ℕ → List ℕ} (finds : Finds u.F u.M on) (test : Test) (agrees : Agrees u.F u.L u.M u.old test)
    (d : Job) {n : ℕ} (w : Underway u on n (seek_l u.F d)) where
  open u use {F, L, M, old}

  -- All pairs of the phase have been looked at, and some wait: the one in front turns.
  pub loop-turn : d.block < F.blocks → F.pairs ≤ d.place → d.pile.from < d.pile.tail → Turning F d × Underway u on (suc n) (seek_l F (turn_l F M on d))
  loop-turn b h l =
      let a = subst (Underway u on n) (seek-turn F d h l) w in (
        way-turn a b h,
        subst (Underway u on (suc n))
            (cond_yes (seek_l F (step_l F M test on d)) d (ltb-in d.block F.blocks b)
            ∙ ap (seek_l F) (cond_no (look_l test d) (turn_l F M on d) ((ltb_no d.place F.pairs).1 h)))
            (way-unit finds test agrees a b),
      )

  module _ (f : ℕ → Bool) where
    -- The next pairs are of the block, and none has turned in the phase: f says which of them must turn.
    pub loop-row : (k : ℕ) → d.block < F.blocks → d.pile.from ≡ 0 → d.place + suc k ≤ F.pairs
        → ((j : ℕ) → j < suc k → F.block (d.place + j) ≡ d.block)
        → ((j : ℕ) → j < suc k → test d.settling (val_of d.vals) (marks_in d.pile.marks) (d.place + j) ≡ f (d.place + j))
        → Underway u on (n + suc k) (seek_l F (look_row f (suc k) d))
    loop-row k b z l h e =
        let first : F.block d.place ≡ d.block = subst (λ (p : ℕ). F.block p ≡ d.block) (add-zero d.place) (h 0 (omega arith)) in
        (way-row finds test agrees f k (subst (Underway u on n) (seek-stays F d b (omega arith) first (λ y. (z, omega arith))) w) b l h e).1
