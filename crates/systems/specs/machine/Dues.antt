-- What is known of a state on the course where a look or a turn is due.
-- Assumes nothing.
use Rattle.std.specs.Prelude.{◌≡◌, Bool, true, not, ◌&&◌, cond, List, [], ◌∷◌, ℕ, ◌≤◌, ◌<◌}
use Rattle.std.proofs.Math.Path.{refl, ap, subst}
use Rattle.std.proofs.Common.{sym, ◌∙◌, inl, inr}
use Rattle.std.proofs.Math.Bool.{false}
use mathlib.Core.List.Memᴰ
use native.Mathlib.Omega.{arith}
use Rattle.std.proofs.Math.ListN.{length}
use Rattle.lists.specs.Lists.{bit}
use Rattle.lists.specs.Tests.{◌∈◌, tell, not-not}
use Rattle.lists.specs.Sets.{none, weight-none}
use Rattle.lists.specs.Counts.{times-out}
use Rattle.systems.specs.solution.System.{Frame}
use Rattle.systems.specs.machine.Machine.{own, free, Step, sight, turns, State}
use Rattle.systems.specs.machine.Phases.{Update, base, Doing}
use Rattle.systems.specs.machine.PhaseKeeps.{still-val, unmarked-mark}
use Rattle.systems.specs.moving.MoveSolution.{move_to-later}
use Rattle.systems.specs.machine.UnitKeeps.{free-before, in_front, front-waits, front-here, front-value}
use Rattle.systems.specs.machine.Course.{At, to-look, to-turn, done}

-- Is the first step that is left a look? 1 for yes.
abbrev looked : List Step → ℕ
looked (sight ph p ∷ l) = 1
looked (turns ph i ∷ l) = 0
looked [] = 0

-- The phase of the first step that is left.
abbrev pub phase_in : List Step → Bool
phase_in (sight ph p ∷ l) = ph
phase_in (turns ph i ∷ l) = ph
phase_in [] = false

-- The pair or the block of the first step that is left.
abbrev number_in : List Step → ℕ
number_in (sight ph p ∷ l) = p
number_in (turns ph i ∷ l) = i
number_in [] = 0

-- The pair in front, where the turns of a phase of block i are due: it is of the block, and has the value that pairs turn
-- from.
pub record Front (F : Frame) (ph : Bool) (i : ℕ) (s : State) : Type 0 where
  pub pair : ℕ
  pub others : List ℕ
  pub queue : s.held.queue ≡ pair ∷ others
  pub here : F.block pair ≡ i
  pub value : s.val pair ≡ cond ph (own F pair) (not (own F pair))

module _ {u : Update} {on : ℕ → List ℕ} where
  open u use {F, old, fits, fits'}

  -- Where the turns of a phase are due, a pair waits.
  pub turn-due : {n : ℕ} {s : State} {ph : Bool} {i : ℕ} {todo : List Step} → At u on n s → s.todo ≡ turns ph i ∷ todo → Front F ph i s
  turn-due (done r) f = let e = ap length (sym r.todo ∙ f) in absurd (omega arith)
  turn-due (to-look ph i k x p rest g) f = let e = ap looked (sym g.todo ∙ f) in absurd (omega arith)
  turn-due {s = s} {ph} {i} (to-turn ph' i' k x t q queue g e) f =
      subst (λ (j : ℕ). Front F ph j s) (ap number_in (sym g.todo ∙ f)) (subst (λ (y : Bool). Front F y i' s) (ap phase_in (sym g.todo ∙ f))
      (record { pair = q; others = queue; queue = e; here = front-here ph' d; value = still-val d q (front-waits ph' d).1 ∙ from ph' d }))
    where
      d : Doing u ph' i' x t [] s.val (in_front s.held.marks q queue)
      d = subst (λ (l : List ℕ). Doing u ph' i' x t [] s.val (record { marks = s.held.marks; queue = l })) e g.doing

      from : (ph : Bool) → Doing u ph i' x t [] s.val (in_front s.held.marks q queue) → base u ph i' q ≡ cond ph (own F q) (not (own F q))
      from false e = sym (not-not (base u false i' q)) ∙ ap not (front-value false e) ∙ ap (λ (j : ℕ). not (F.great j)) (sym (front-here false e))
      from true e =
          sym (not-not (base u true i' q)) ∙ ap not (front-value true e) ∙ not-not (F.great i') ∙ ap F.great (sym (front-here true e))

  -- Where a look at p is due, p is a pair of some block; and while shifting, the pairs of its block and of later ones have
  -- their old values.
  pub look-due : {n : ℕ} {s : State} {ph : Bool} {p : ℕ} {todo : List Step} → At u on n s → s.todo ≡ sight ph p ∷ todo
      → (F.block p < F.blocks) × (ph ≡ false → (q : ℕ) → F.block p ≤ F.block q → s.val q ≡ old q)
  unfolding base
  look-due (done r) f = let e = ap length (sym r.todo ∙ f) in absurd (omega arith)
  look-due (to-turn ph i k x t q queue g e) f = let z = ap looked (sym g.todo ∙ f) in absurd (omega arith)
  look-due {s = s} {ph} {p} (to-look ph' i k x p' rest g) f =
      let b : F.block p ≡ i = subst (λ (y : ℕ). F.block y ≡ i) (ap number_in (sym g.todo ∙ f)) (g.doing.here p' (Memᴰ.head refl)) in (
        let l = g.doing.lt in omega arith,
        λ z q h. shifting (subst (λ (y : Bool). Doing u y i x none (p' ∷ rest) s.val s.held) (ap phase_in (sym g.todo ∙ f) ∙ z) g.doing) q (omega arith),
      )
    where
      shifting : Doing u false i x none (p' ∷ rest) s.val s.held → (q : ℕ) → i ≤ F.block q → s.val q ≡ old q
      shifting d q h = still-val d q refl ∙ move_to-later fits fits' old i (let l = d.lt in omega arith) q h

  -- Where a look is due, none has turned in the phase.
  pub look-gone : {n : ℕ} {s : State} {ph : Bool} {p : ℕ} {todo : List Step} → At u on n s → s.todo ≡ sight ph p ∷ todo → s.gone ≡ 0
  look-gone (done r) f = r.gone
  look-gone (to-turn ph i k x t q queue g e) f = let z = ap looked (sym g.todo ∙ f) in absurd (omega arith)
  look-gone (to-look ph i k x p rest g) f = let a = g.gone in let b = weight-none F.pairs (λ p. 1) none (λ p. refl) in omega arith

  -- Where a look is due, a pair of the block that does not wait is free.
  pub look-free : {n : ℕ} {s : State} {ph : Bool} {p : ℕ} {todo : List Step} → At u on n s → s.todo ≡ sight ph p ∷ todo
      → (r : ℕ) → F.block r ≡ F.block p → (r ∈ s.held.queue → ⊥) → free ph (s.held.marks r) ≡ true
  look-free (done r) f = let e = ap length (sym r.todo ∙ f) in absurd (omega arith)
  look-free (to-turn ph i k x t q queue g e) f = let z = ap looked (sym g.todo ∙ f) in absurd (omega arith)
  look-free {s = s} {ph} {p} (to-look ph' i k x p' rest g) f = λ r e m.
      let b : F.block p ≡ i = subst (λ (y : ℕ). F.block y ≡ i) (ap number_in (sym g.todo ∙ f)) (g.doing.here p' (Memᴰ.head refl)) in
      unmarked (subst (λ (y : Bool). Doing u y i x none (p' ∷ rest) s.val s.held) (ap phase_in (sym g.todo ∙ f)) g.doing) r (e ∙ b) m
    where
      unmarked : Doing u ph i x none (p' ∷ rest) s.val s.held → (r : ℕ) → F.block r ≡ i → (r ∈ s.held.queue → ⊥) → free ph (s.held.marks r) ≡ true
      unmarked d r e m =
          elim (tell true (x r)) [
            | inr h ↦ ap (free ph) (unmarked-mark d r h) ∙ free-before u ph i r e
            | inl h ↦
                let a = d.work.stage.queued r in
                let c : bit (x r && true) ≡ 1 = ap (λ (y : Bool). bit (y && true)) h in
                absurd (m (times-out r s.held.queue (omega arith)))
          ]
