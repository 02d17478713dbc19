-- Tests of looks that pushes do not change: a pair that is free and must turn gets its next mark, and the test says of every pair what it
-- said before. The machine's test is one, for any values and marks.
-- Assumes nothing.
use Rattle.std.specs.Prelude.{◌≡◌, refl, Bool, true, false, not, ℕ}
use Rattle.std.proofs.Common.{sym, ap, ◌∙◌}
use Rattle.std.proofs.Math.Path.{fun_ext}
use Rattle.std.proofs.Math.Decide.{ℕ_discrete}
use Rattle.lists.specs.Sets.{none}
use Rattle.systems.specs.solution.System.{Frame, Leans, Values, shifts}
use Rattle.systems.specs.moving.ShiftRule.{shifts-out}
use Rattle.systems.specs.machine.Worklist.{upd}
use Rattle.systems.specs.machine.WorklistEnds.{upd_same, upd_other}
use Rattle.systems.specs.machine.Machine.{own, past_of, past, free, next_mark, looks}
use Rattle.systems.specs.lists.ListMachine.{Test}

-- Pushes do not change the test.
abbrev pub Steady : Test → Type 0
Steady test = (ph : Bool) (v : Values) (m : ℕ → ℕ) (r : ℕ) → free ph (m r) ≡ true → test ph v m r ≡ true
    → (p : ℕ) → test ph v (upd m r (next_mark ph (m r))) p ≡ test ph v m p

-- A pair without a mark that had not its block's own value is marked to shift: the old values that are told stay.
pub past-steady : (F : Frame) (v : Values) (m : ℕ → ℕ) (r : ℕ) → free false (m r) ≡ true → past F v m r ≡ not (own F r)
    → ◌≡◌ {A = Values} (past F v (upd m r (next_mark false (m r)))) (past F v m)
past-steady F v m r f e = fun_ext (λ q. elim (ℕ_discrete q r) [
  | yes z ↦ rw z (ap (past_of (own F r) (v r)) (upd_same m r (next_mark false (m r))) ∙ sym e)
  | no z ↦ ap (past_of (own F q) (v q)) (upd_other m r (next_mark false (m r)) q z)
])

-- The machine's test is not changed by pushes.
pub looks-steady : (F : Frame) (L M : Leans) → Steady (looks F L M)
unfolding looks
looks-steady F L M true v m r f e p = refl
looks-steady F L M false v m r f e p =
    ap (λ (w : Values). shifts F L M (F.block p) w v none p)
    (past-steady F v m r f (shifts-out F L M (F.block r) (past F v m) v none r e).was)
