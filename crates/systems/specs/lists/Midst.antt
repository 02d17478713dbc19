-- Until an update on lists is done, it is in the midst of the phase of the block that its lists name; and what is known there of the
-- blocks that are done.
-- Assumes nothing.
use Rattle.std.specs.Prelude.{◌≡◌, Bool, List, [], ◌∷◌, ℕ, suc, ◌-◌, ◌<◌, ltb}
use Rattle.std.proofs.Math.Path.{refl, sym}
use Rattle.std.proofs.Common.{ap, ◌∙◌, subst, inl, inr, le_refl, arith}
use Rattle.std.proofs.Math.Bool.{true, false}
use mathlib.Core.List.Memᴰ
use Rattle.lists.specs.Tests.{tell, no_way, ltb-out, ltb_no, cond_no}
use Rattle.systems.specs.solution.System.{Frame, Values, move_to, move}
use Rattle.systems.specs.moving.Marks.{mark}
use Rattle.systems.specs.moving.MoveSolution.{move_to-done}
use Rattle.systems.specs.moving.MarkTurns.{flip, odd, mark-turns}
use Rattle.systems.specs.machine.Worklist.{Waiting}
use Rattle.systems.specs.machine.Machine.{Step, sight, turns, State}
use Rattle.systems.specs.machine.Phases.{Update, base, marks_to, marks_of, Doing}
use Rattle.systems.specs.machine.PhaseKeeps.{turning-off, base-still, marks-before, marked-here, unmarked-still, still-val, unmarked-mark}
use Rattle.systems.specs.machine.Course.{At, to-look, to-turn, done}
use Rattle.systems.specs.machine.Dues.{phase_in}
use Rattle.systems.specs.lists.ListMachine.{val_of, marks_in, pile_of, Job, todo_at, job_of}
use Rattle.systems.specs.lists.Seeks.{seek-here, seek-turns}
use Rattle.systems.specs.lists.ListCourse.{Underway}
use Rattle.systems.specs.lists.ListsMove.{some_left}

-- The block of the first step that is left.
abbrev block_in : Frame → List Step → ℕ
block_in F (sight ph p ∷ l) = F.block p
block_in F (turns ph i ∷ l) = i
block_in F [] = 0

-- In the midst of some phase of a block.
pub record Midst (u : Update) (ph : Bool) (i : ℕ) (v : Values) (w : Waiting) : Type 0 where
  pub x : ℕ → Bool
  pub t : ℕ → Bool
  pub rest : List ℕ
  pub doing : Doing u ph i x t rest v w

at-midst : {u : Update} {on : ℕ → List ℕ} {n : ℕ} {s : State} → At u on n s → (s.todo ≡ [] → ⊥) → Midst u (phase_in s.todo) (block_in u.F s.todo) s.val s.held
at-midst (done r) f = absurd (f r.todo)
at-midst {u} {s = s} (to-look ph i k x q rest g) f =
    subst (λ (y : Bool). Midst u y (block_in u.F s.todo) s.val s.held) (sym (ap phase_in g.todo))
    (subst (λ (j : ℕ). Midst u ph j s.val s.held) (sym (ap (block_in u.F) g.todo ∙ g.doing.here q (Memᴰ.head refl)))
    (record { x = x; t = λ p. false; rest = q ∷ rest; doing = g.doing }))
at-midst {u} {s = s} (to-turn ph i k x t q queue g e) f =
    subst (λ (y : Bool). Midst u y (block_in u.F s.todo) s.val s.held) (sym (ap phase_in g.todo))
    (subst (λ (j : ℕ). Midst u ph j s.val s.held) (sym (ap (block_in u.F) g.todo)) (record { x = x; t = t; rest = []; doing = g.doing }))

-- Until all is done, the lists are in the midst of the phase of the block that they name.
pub way-midst : {u : Update} {on : ℕ → List ℕ} {n : ℕ} {c : Job} → Underway u on n c → c.block < u.F.blocks
    → Midst u c.settling c.block (val_of c.vals) (pile_of c.pile)
unfolding job_of
way-midst {u} {c = c} w b =
    elim (tell true (ltb c.place F.pairs)) [
      | inl e ↦
          let l = ltb-out c.place F.pairs e in
          let h = w.sits.here b l in
          told (t ∙ seek-here F c.block k c.settling c.place l h) refl h (at-midst w.at (some_left w.sits b))
      | inr e ↦
          told (t ∙ seek-turns F c.block k c.settling c.place ((ltb_no c.place F.pairs).0 e)) refl refl (at-midst w.at (some_left w.sits b))
    ]
  where
    F : Frame
    F = u.F

    k : ℕ
    k = F.blocks - suc c.block

    t : todo_at F c.block (F.blocks - c.block) c.settling c.place ≡ todo_at F c.block (suc k) c.settling c.place
    t = ap (λ (n : ℕ). todo_at F c.block n c.settling c.place) (let z : F.blocks - c.block ≡ suc (F.blocks - suc c.block) = omega arith in z)

    told : {l : List Step} → todo_at F c.block (F.blocks - c.block) c.settling c.place ≡ l → phase_in l ≡ c.settling → block_in F l ≡ c.block
        → Midst u (phase_in (job_of F c).todo) (block_in F (job_of F c).todo) (val_of c.vals) (pile_of c.pile) → Midst u c.settling c.block (val_of c.vals) (pile_of c.pile)
    told e f g m =
        subst (λ (j : ℕ). Midst u c.settling j (val_of c.vals) (pile_of c.pile)) (ap (block_in F) e ∙ g)
        (subst (λ (y : Bool). Midst u y (block_in F (job_of F c).todo) (val_of c.vals) (pile_of c.pile)) (ap phase_in e ∙ f) m)

module _ {u : Update} {i : ℕ} {x t : ℕ → Bool} {rest : List ℕ} {v : Values} {w : Waiting} where
  open u use {F, L, M, old, fits, fits'}

  -- In the midst of a phase, a pair of an earlier block has the value and the mark that it will keep.
  doing-done : (ph : Bool) → Doing u ph i x t rest v w → (q : ℕ) → F.block q < i → (v q ≡ move F L M old q) × (w.marks q ≡ mark F L M old q)
  unfolding base marks_of move
  doing-done ph d q l =
      let n : x q ≡ false = no_way (x q) (λ e. let h = marked-here d q e in omega arith) in
      let m : move_to F L M old i q ≡ move_to F L M old F.blocks q =
      sym (move_to-done fits fits' old F.blocks i (let z = d.lt in omega arith) (le_refl F.blocks) q l) in
      (still-val d q (unmarked-still d q n) ∙ values ph d.lt ∙ m, unmarked-mark d q n ∙ marks ph d.lt ∙ marks-before u i q l)
    where
      values : (ph : Bool) → i < F.blocks → base u ph i q ≡ move_to F L M old i q
      values false lt = refl
      values true lt = base-still u lt q (turning-off u lt q false (λ e. omega arith))

      marks : (ph : Bool) → i < F.blocks → marks_of u ph i q ≡ marks_to u i q
      marks false lt = refl
      marks true lt = cond_no 1 (marks_to u i q) (turning-off u lt q false (λ e. omega arith))

-- A pair of a block that is done has the value that it had before, turned round where its mark is odd.
pub way-odd : {u : Update} {on : ℕ → List ℕ} {n : ℕ} {c : Job} → Underway u on n c → c.block < u.F.blocks → (q : ℕ) → u.F.block q < c.block
    → val_of c.vals q ≡ flip (odd (marks_in c.pile.marks q)) (u.old q)
way-odd {u} {c = c} w b q l =
    let d = (way-midst w b).doing in
    let e = doing-done c.settling d q l in
    e.0 ∙ mark-turns u.F u.L u.M u.fits u.fits' u.old q (omega arith) ∙ ap (λ (k : ℕ). flip (odd k) (u.old q)) (sym e.1)
