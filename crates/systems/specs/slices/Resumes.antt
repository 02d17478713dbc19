-- Any lists may be gone on with: a queue that holds once each pair that is told to wait, and no other, is fair.
-- Assumes nothing.
use Rattle.std.specs.Prelude.{◌≡◌, refl, true, false, not, cond, ◌&&◌, List, ltb, length}
use Rattle.std.proofs.Common.{sym, ap, ◌∙◌, inl, inr}
use Rattle.std.proofs.Math.Path.{subst}
use Rattle.std.proofs.Math.Bool.{Bool}
use Prim.Native.Nat.{ℕ, ◌-◌, ◌≤◌, ◌<◌}
use native.Mathlib.Omega.{arith}
use Rattle.std.proofs.Math.Dec.{eqb}
use Rattle.lists.specs.Lists.{is, bit}
use Rattle.lists.specs.Tests.{◌∈◌, tell, is-out, not-not, and_left, and_right, eqb-out}
use Rattle.lists.specs.Sums.{bit_le}
use Rattle.lists.specs.Counts.{times, times-in}
use Rattle.systems.specs.solution.System.{Frame}
use Rattle.systems.specs.machine.Machine.{own, free}
use Rattle.systems.specs.lists.ListMachine.{val_of, marks_in, between, Job, seek_l}
use Rattle.systems.specs.slices.Slices.{marked_by, turns_from, waits, refilled}
use Rattle.systems.specs.slices.Fair.{Fair}
use Rattle.systems.specs.slices.FairRuns.{FairJob, seek-fair}

-- A pair that has been put in the queue is not free.
marked-shut : (ph : Bool) (m : ℕ) → marked_by ph m ≡ true → free ph m ≡ false
marked-shut false m e = ap (λ (y : ℕ). eqb y 0) (eqb-out m 1 e)
marked-shut true m e = sym (not-not (ltb m 2)) ∙ ap not e

from_is : (ph b : Bool) → turns_from ph b ≡ cond ph b (not b)
from_is true b = refl
from_is false b = refl

module _ (F : Frame) (c : Job) (queue : List ℕ) (tail : ℕ) (long : length c.pile.marks ≡ F.pairs) (room : F.pairs ≤ length queue)
    (told : (p : ℕ) → times p (between queue 0 tail) ≡ bit (waits F c.settling c.block (val_of c.vals) (marks_in c.pile.marks) p)) where
  -- What stands in the queue is told to wait.
  is-told : (q : ℕ) → q ∈ between queue 0 tail → waits F c.settling c.block (val_of c.vals) (marks_in c.pile.marks) q ≡ true
  is-told q m =
      elim (tell true (waits F c.settling c.block (val_of c.vals) (marks_in c.pile.marks) q)) [
        | inl e ↦ e
        | inr e ↦ let a = times-in q m in let b = told q in let d = ap bit e in absurd (omega arith)
      ]

  -- Such a queue is fair.
  pub refill-fair : Fair F c.settling c.block (val_of c.vals) (refilled queue 0 tail c).pile
  unfolding waits
  refill-fair =
      let ph = c.settling in
      let v = val_of c.vals in
      let m = marks_in c.pile.marks in
      let x : ℕ → Bool = λ q. eqb (F.block q) c.block in
      let y : ℕ → Bool = λ q. marked_by ph (m q) in
      let z : ℕ → Bool = λ q. is (turns_from ph (own F q)) (v q) in
      record {
        long = long;
        room = room;
        order = omega arith;
        once = λ p. let a = told p in let b = bit_le (waits F ph c.block v m p) in omega arith;
        here = λ q k. eqb-out (F.block q) c.block (and_left (x q) (y q && z q) (is-told q k));
        shut = λ q k. marked-shut ph (m q) (and_left (y q) (z q) (and_right (x q) (y q && z q) (is-told q k)));
        value = λ q k.
            let i : q ∈ between queue 0 tail = subst (λ (n : ℕ). q ∈ between queue 0 n) (let e : tail - 0 ≡ tail = omega arith in e) k in
            is-out (turns_from ph (own F q)) (v q) (and_right (y q) (z q) (and_right (x q) (y q && z q) (is-told q i))) ∙ from_is ph (own F q);
      }

  -- From there the next look or turn is sought.
  pub resume-fair : length c.vals ≡ F.pairs → c.block < F.blocks → c.place ≤ F.pairs → FairJob F (seek_l F (refilled queue 0 tail c))
  resume-fair l b p = seek-fair F (refilled queue 0 tail c) b p l refill-fair
