-- A run as loops go it, for any lists, well formed or not: from a place, rows of other blocks are passed by (`seek-passes`), a row of the
-- block is looked at in as many units as it has pairs, a pair turns in one, and past the last block nothing happens. What lies in the
-- queue's list outside of what waits changes nothing.
-- Assumes nothing.
use Rattle.std.specs.Prelude.{◌≡◌, refl, Bool, ◌&&◌, List, ℕ, zero, suc, ◌+◌, ◌≤◌, ◌<◌, length}
use Rattle.std.proofs.Common.{ap, ◌∙◌, subst, add-zero, arith}
use Rattle.lists.specs.Tests.{ltb-in, ltb_no, cond_yes, cond_no}
use Rattle.systems.specs.solution.System.{Frame, Leans}
use Rattle.systems.specs.machine.Machine.{free}
use Rattle.systems.specs.lists.ListMachine.{val_of, marks_in, Job, Test, turn_l, look_l, seek_l, step_l, run_l}
use Rattle.systems.specs.lists.ListsMove.{run-add, unit-idle}
use Rattle.systems.specs.lists.Steady.{Steady}
use Rattle.systems.specs.lists.Places.{seek-stays, seek-turn}
use Rattle.systems.specs.lists.Rows.{look_row}
use Rattle.systems.specs.lists.RowRuns.{row-run, row-part, steady-row}

module _ (F : Frame) (M : Leans) (test : Test) (on : ℕ → List ℕ) where
  -- Past the last block nothing happens.
  pub run-idle : (j : ℕ) (c : Job) → F.blocks ≤ c.block → run_l F M test on j c ≡ c
  run-idle zero c b = refl
  run-idle (suc j) c b = ap (run_l F M test on j) (unit-idle F M test on c b) ∙ run-idle j c b

  -- Past all pairs, where some wait, the first of them turns in one unit.
  pub run-turn : (j : ℕ) (d : Job) → d.block < F.blocks → F.pairs ≤ d.place → d.pile.from < d.pile.tail
      → run_l F M test on (suc j) (seek_l F d) ≡ run_l F M test on j (seek_l F (turn_l F M on d))
  run-turn j d b h l =
      ap (run_l F M test on (suc j)) (seek-turn F d h l)
      ∙ ap (run_l F M test on j) (cond_yes (seek_l F (step_l F M test on d)) d (ltb-in d.block F.blocks b)
      ∙ ap (seek_l F) (cond_no (look_l test d) (turn_l F M on d) ((ltb_no d.place F.pairs).1 h)))

  module _ (steady : Steady test) (f : ℕ → Bool) (d : Job) (b : d.block < F.blocks) (z : d.pile.from ≡ 0) where
    -- A row of the block is looked at in as many units as it has pairs: f says which of them are free and must turn.
    pub run_row : (k j : ℕ) → d.place + suc k ≤ F.pairs → F.pairs ≤ length d.pile.marks
        → ((i : ℕ) → i < suc k → F.block (d.place + i) ≡ d.block)
        → ((i : ℕ) → i < suc k → (free d.settling (marks_in d.pile.marks (d.place + i)) && test d.settling (val_of d.vals) (marks_in d.pile.marks) (d.place + i)) ≡ f (d.place + i))
        → run_l F M test on (suc k + j) (seek_l F d) ≡ run_l F M test on j (seek_l F (look_row f (suc k) d))
    run_row k j l o h e =
        let first : F.block d.place ≡ d.block = subst (λ (p : ℕ). F.block p ≡ d.block) (add-zero d.place) (h 0 (omega arith)) in
        let level : d.pile.tail ≤ d.pile.from → (d.pile.from ≡ 0) × (d.pile.tail ≡ 0) = λ y. (z, omega arith) in
        let r = steady-row steady f d F (suc k) b l (omega arith) h e in
        ap (run_l F M test on (suc k + j)) (seek-stays F d b (omega arith) first level) ∙ run-add F M test on (suc k) j d
        ∙ ap (run_l F M test on j) (row-run F M test on f d level k r)

    -- A run may stop inside a row.
    pub run-part : (k : ℕ) → d.place + k < F.pairs → F.pairs ≤ length d.pile.marks
        → ((i : ℕ) → i < suc k → F.block (d.place + i) ≡ d.block)
        → ((i : ℕ) → i < k → (free d.settling (marks_in d.pile.marks (d.place + i)) && test d.settling (val_of d.vals) (marks_in d.pile.marks) (d.place + i)) ≡ f (d.place + i))
        → run_l F M test on k (seek_l F d) ≡ look_row f k d
    run-part k l o h e =
        let first : F.block d.place ≡ d.block = subst (λ (p : ℕ). F.block p ≡ d.block) (add-zero d.place) (h 0 (omega arith)) in
        let level : d.pile.tail ≤ d.pile.from → (d.pile.from ≡ 0) × (d.pile.tail ≡ 0) = λ y. (z, omega arith) in
        let r = steady-row steady f d F k b (omega arith) (omega arith) (λ i y. h i (omega arith)) e in
        ap (run_l F M test on k) (seek-stays F d b (omega arith) first level) ∙ row-part F M test on f d level k r l (h k (omega arith))
