-- Visits: no more than there are leanings; and counted by the pair that is leant on, as the machine counts them, they are
-- the same.
-- Assumes nothing.
use Rattle.std.specs.Prelude.{◌≡◌, refl, Bool, ◌&&◌, List, ℕ, ◌≤◌, ◌<◌, length}
use Rattle.std.proofs.Math.Path.{sym, ap}
use Rattle.std.proofs.Common.{◌∙◌, arith}
use Rattle.std.proofs.Math.Logic.{inl, inr}
use Rattle.std.proofs.Math.Bool.{true, false, cond}
use Rattle.std.proofs.Math.Dec.{eqb}
use Rattle.lists.specs.Lists.{count, sum}
use Rattle.lists.specs.Tests.{tell, and-true, and_no, eqb-out, cond_yes, cond_no}
use Rattle.lists.specs.Sums.{sum-le, sum-ext, sum_zeros}
use Rattle.lists.specs.Sets.{weight}
use Rattle.lists.specs.Counts.{count-le, count-ext, count_none, counts-by, times, times-all}
use Rattle.systems.specs.solution.System.{Frame, Leans, Fits, Full}
use Rattle.systems.specs.moving.Marks.{visits, leanings}
use Rattle.systems.specs.machine.Machine.{Finds}
use Rattle.systems.specs.machine.Leaners.{found-out}

-- The visits are no more than the leanings.
pub visits-le : (F : Frame) (M : Leans) (s : ℕ → Bool) → visits F M s ≤ leanings F M
unfolding visits leanings
visits-le F M s = sum-le F.pairs _ _ (λ p. count-le (λ q. eqb (F.block q) (F.block p) && s q) (M p))

module _ {F : Frame} {M : Leans} (fits : Fits F M) (full : Full F) {on : ℕ → List ℕ} (finds : Finds F M on)
    (s : ℕ → Bool) where
  -- The leanings of p, inside one block, on q if it is in s.
  here : ℕ → ℕ → ℕ → Bool
  here q p r = eqb r q && (eqb (F.block r) (F.block p) && s r)

  visits-on : (q : ℕ) → q < F.pairs → sum F.pairs (λ p. count (here q p) (M p)) ≡ cond (s q) (length (on q)) 0
  unfolding here
  visits-on q l =
      elim (tell true (s q)) [
        | inl e ↦
            sum-ext F.pairs (λ p. count (here q p) (M p)) (λ p. times p (on q))
            (λ p k. count-ext (here q p) (λ r. eqb r q && eqb (F.block r) (F.block p)) (M p) (λ r. at-q p true e r ∙ ap (λ (b : Bool). eqb r q && b) (and-true (eqb (F.block r) (F.block p))))
            ∙ sym (finds.counted q p (full q l)))
            ∙ times-all F.pairs (on q) (λ r m. let o = found-out finds q r (full q l) m in let h = full q l in fits.inside r (omega (arith, o.0)))
            ∙ sym (cond_yes (length (on q)) 0 e)
        | inr e ↦
            sum-ext F.pairs (λ p. count (here q p) (M p)) (λ p. 0)
            (λ p k. count_none (here q p) (M p) (λ r. at-q p false e r ∙ and_no (eqb r q) (and_no (eqb (F.block r) (F.block p)) refl)))
            ∙ sum_zeros F.pairs ∙ sym (cond_no (length (on q)) 0 e)
      ]
    where
      at-q : (p : ℕ) (c : Bool) → s q ≡ c → (r : ℕ) → here q p r ≡ (eqb r q && (eqb (F.block r) (F.block p) && c))
      at-q p c e r =
          elim (tell true (eqb r q)) [
            | inl z ↦ ap (λ (b : Bool). eqb r q && (eqb (F.block r) (F.block p) && b)) (ap s (eqb-out r q z) ∙ e)
            | inr z ↦ ap (λ (b : Bool). b && (eqb (F.block r) (F.block p) && s r)) z ∙ sym (ap (λ (b : Bool). b && (eqb (F.block r) (F.block p) && c)) z)
          ]

  -- The visits are the sum, over the pairs of s, of how many lean on each.
  pub visits-weight : visits F M s ≡ weight F.pairs (λ q. length (on q)) s
  unfolding visits weight here
  visits-weight =
      counts-by F.pairs (λ p q. eqb (F.block q) (F.block p) && s q) M
      (λ p l r m. let h = full p l in let k = fits.earlier p r m in fits.inside r (omega arith))
      ∙ sum-ext F.pairs (λ q. sum F.pairs (λ p. count (here q p) (M p))) (λ q. cond (s q) (length (on q)) 0) visits-on
