-- The entries of a list of numbers: after a store, and in a list of zeros.
-- Assumes nothing.
use Rattle.std.specs.Prelude.{◌≡◌, refl, List, ℕ, zero, suc, ◌≤◌, length, get_or, set, replicate}
use Rattle.std.proofs.Common.{ap, arith, get_or-set_same, get_or-set_other}
use Rattle.std.proofs.Math.Decide.{ℕ_discrete, dec_lt}
use Rattle.std.proofs.Math.Seq.{set_out}

-- Where all entries are at most k, they still are after a number of at most k has been stored.
pub set-le : (k : ℕ) (l : List ℕ) (r x : ℕ) → x ≤ k → ((p : ℕ) → get_or l p 0 ≤ k) → (p : ℕ) → get_or (set l r x) p 0 ≤ k
set-le k l r x h f p =
    elim (ℕ_discrete p r) [
      | no z ↦ let y = get_or-set_other l r p x 0 z in let w = f p in omega arith
      | yes z ↦ elim (dec_lt r (length l)) [
        | yes a ↦ let y = get_or-set_same l r x 0 a in let v = ap (λ (q : ℕ). get_or (set l r x) q 0) z in omega arith
        | no a ↦ let y = ap (λ (q : List ℕ). get_or q p 0) (set_out l r x (omega arith)) in let w = f p in omega arith
      ]
    ]

-- Each entry of a list of zeros is 0, and so is what lies past it.
pub zeros-at : (n p : ℕ) → ◌≡◌ {A = ℕ} (get_or (replicate n 0) p 0) 0
zeros-at zero p = refl
zeros-at (suc n) zero = refl
zeros-at (suc n) (suc p) = zeros-at n p
