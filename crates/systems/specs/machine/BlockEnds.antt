-- From phase to phase and from block to block: where nothing is left to look at and nothing waits, a block that has
-- shifted is ready to settle, and one that has settled has been moved.
-- Assumes nothing.
use Rattle.std.specs.Prelude.{◌≡◌, refl, not, [], ℕ, suc, ◌<◌}
use Rattle.std.proofs.Math.Path.{sym, ap}
use Rattle.std.proofs.Common.{◌∙◌, arith}
use Rattle.std.proofs.Math.Bool.{Bool, true, false, cond}
use Rattle.std.proofs.Math.Decide.{ℕ_discrete, dec_lt}
use Rattle.lists.specs.Marks.{mark_of}
use Rattle.lists.specs.Tests.{◌∈◌, cond_no}
use Rattle.lists.specs.Sets.{none}
use Rattle.systems.specs.solution.System.{Values, settled, shifted, move_to}
use Rattle.systems.specs.moving.Marks.{shift_of, mark}
use Rattle.systems.specs.moving.UpTo.{shift-at, settle-at}
use Rattle.systems.specs.machine.Worklist.{Waiting}
use Rattle.systems.specs.machine.WorklistEnds.{work_start, work-end}
use Rattle.systems.specs.machine.Machine.{next_mark, pairs_of}
use Rattle.systems.specs.machine.Looks.{pairs-here, pairs-in}
use Rattle.systems.specs.machine.Phases.{Update, base, rule, turning, marks_to, marks_of, plan, Doing}
use Rattle.systems.specs.machine.PhaseKeeps.{rule-monotone, rule-here, turning-off, marks-before, marks-later}

module _ (u : Update) where
  open u use {F, L, M, old}

  -- The marks after the two phases of a block are those of one block more.
  marks-suc : {i : ℕ} → i < F.blocks → (p : ℕ)
      → cond (turning u true i p) (next_mark true (marks_of u true i p)) (marks_of u true i p) ≡ marks_to u (suc i) p
  unfolding mark marks_of turning rule base shifted settled
  marks-suc {i} lt p =
      elim (ℕ_discrete (F.block p) i) [
        | yes e ↦
            ap (λ (m : ℕ). cond t (next_mark true (cond s 1 m)) (cond s 1 m)) (marks-later u i p (omega arith))
            ∙ four s t ∙ ap (λ (b : Bool). mark_of b t) (sym (shift-at F L M old i p e)) ∙ ap (mark_of (shift_of F L M old p)) (sym (settle-at F L M old i p e))
            ∙ sym (marks-before u (suc i) p (omega arith))
        | no e ↦
            cond_no (next_mark true (cond s 1 (marks_to u i p))) (cond s 1 (marks_to u i p)) (turning-off u lt p true e)
            ∙ cond_no 1 (marks_to u i p) (turning-off u lt p false e) ∙ elim (dec_lt (F.block p) i) [
              | yes h ↦ marks-before u i p h ∙ sym (marks-before u (suc i) p (omega arith))
              | no h ↦ marks-later u i p (omega arith) ∙ sym (marks-later u (suc i) p (omega arith))
            ]
      ]
    where
      s : Bool
      s = turning u false i p

      t : Bool
      t = turning u true i p

      four : (s t : Bool) → cond t (next_mark true (cond s 1 0)) (cond s 1 0) ≡ mark_of s t
      four true true = refl
      four true false = refl
      four false true = refl
      four false false = refl

  -- What the rule asks for of itself is among the pairs of the block.
  first-in : (ph : Bool) {i : ℕ} → i < F.blocks → (p : ℕ) → rule u ph i none p ≡ true → p ∈ pairs_of F i
  first-in ph {i} lt p e = pairs-in F i p ((rule-monotone u ph lt).inside none p e) (rule-here u ph i none p e)

  -- A block shifts from the values and marks of the blocks that have been moved.
  pub to-shifting : {i : ℕ} {v : Values} {w : Waiting} → i < F.blocks → ((p : ℕ) → v p ≡ move_to F L M old i p)
      → ((p : ℕ) → w.marks p ≡ marks_to u i p) → w.queue ≡ [] → Doing u false i none none (pairs_of F i) v w
  unfolding marks_of base
  to-shifting {i} {v} {w} lt h m e = record {
    lt = lt;
    here = pairs-here F i;
    work = work_start (plan u false i) w (pairs_of F i) m e (first-in false lt);
    vals = h;
  }

module _ {u : Update} {i : ℕ} {x t : ℕ → Bool} {v : Values} {w : Waiting} where
  open u use {F, L, M, old}

  -- At the end of a phase exactly those have been marked and turned that turn in it.
  pub phase-ends : (ph : Bool) → Doing u ph i x t [] v w → w.queue ≡ [] → (p : ℕ) → (x p ≡ t p) × (t p ≡ turning u ph i p)
  unfolding turning
  phase-ends ph d e = work-end (rule-monotone u ph d.lt) d.work e

  -- A block that has shifted is ready to settle.
  pub to-settling : Doing u false i x t [] v w → w.queue ≡ [] → Doing u true i none none (pairs_of F i) v w
  unfolding marks_of base turning rule shifted
  to-settling d e = record {
    lt = d.lt;
    here = pairs-here F i;
    work = work_start (plan u true i) w (pairs_of F i)
        (λ p. d.work.stage.marked p ∙ ap (λ (b : Bool). cond b 1 (marks_to u i p)) (let k = phase-ends false d e p in k.0 ∙ k.1)) e
        (first-in u true d.lt);
    vals = λ p. d.vals p ∙ ap (λ (b : Bool). cond b (F.great i) (move_to F L M old i p)) (phase-ends false d e p).1;
  }

  -- A block that has settled has the values of one block more.
  pub block-values : Doing u true i x t [] v w → w.queue ≡ [] → (p : ℕ) → v p ≡ move_to F L M old (suc i) p
  unfolding move_to base turning rule settled
  block-values d e p = d.vals p ∙ ap (λ (b : Bool). cond b (not (F.great i)) (base u true i p)) (phase-ends true d e p).1

  -- A block that has settled has the marks of one block more.
  pub block-marks : Doing u true i x t [] v w → w.queue ≡ [] → (p : ℕ) → w.marks p ≡ marks_to u (suc i) p
  block-marks d e p =
      d.work.stage.marked p
      ∙ ap (λ (b : Bool). cond b (next_mark true (marks_of u true i p)) (marks_of u true i p)) (let k = phase-ends true d e p in k.0 ∙ k.1)
      ∙ marks-suc u d.lt p
