-- Sums over the numbers below n: how they compare, and how they are added and swapped.
-- Assumes nothing.
use Rattle.std.specs.Prelude.{◌≡◌, refl, Bool, true, false, ◌&&◌, ℕ, zero, suc, ◌+◌, ◌≤◌, ◌<◌, eqb}
use Rattle.std.proofs.Common.{sym, ap, ◌∙◌, inl, inr, eq-or-lt_of_le, le_of_suc-le-suc, not-suc-le-zero, arith}
use Rattle.lists.specs.Lists.{bit, sum}
use Rattle.lists.specs.Tests.{eqb-in, eqb_no, eqb-off}

-- A truth value counts once at most.
pub bit_le : (b : Bool) → bit b ≤ 1
bit_le true = omega arith
bit_le false = omega arith

-- Smaller terms have a smaller sum.
pub sum-le : (n : ℕ) (f g : ℕ → ℕ) → ((p : ℕ) → f p ≤ g p) → sum n f ≤ sum n g
sum-le zero f g h = omega arith
sum-le (suc n) f g h = let k = sum-le n f g h in let l = h n in omega arith

-- Equal terms have equal sums.
pub sum-ext : (n : ℕ) (f g : ℕ → ℕ) → ((p : ℕ) → p < n → f p ≡ g p) → sum n f ≡ sum n g
sum-ext zero f g h = refl
sum-ext (suc n) f g h = let k = sum-ext n f g (λ p l. h p (omega arith)) in let l = h n (omega arith) in omega arith

-- The sum of n zeros is 0.
pub sum_zeros : (n : ℕ) → sum n (λ p. 0) ≡ 0
sum_zeros zero = refl
sum_zeros (suc n) = let h = sum_zeros n in omega arith

-- The sum of n ones is n.
pub sum_ones : (n : ℕ) → sum n (λ p. 1) ≡ n
sum_ones zero = refl
sum_ones (suc n) = let h = sum_ones n in omega arith

-- The sum of sums of two terms is the sum of the two sums.
pub sum-add : (n : ℕ) (f g : ℕ → ℕ) → sum n (λ p. f p + g p) ≡ sum n f + sum n g
sum-add zero f g = refl
sum-add (suc n) f g = let h = sum-add n f g in omega arith

-- A table has one sum, by rows or by columns.
pub sum-swap : (n m : ℕ) (f : ℕ → ℕ → ℕ) → sum n (λ p. sum m (λ q. f p q)) ≡ sum m (λ q. sum n (λ p. f p q))
sum-swap zero m f = sym (sum_zeros m)
sum-swap (suc n) m f = let h = sum-swap n m f in let k = sum-add m (λ q. sum n (λ p. f p q)) (f n) in omega arith

-- Where the term at r alone can count, the sum is that term.
pub sum_one : (n r : ℕ) (b : Bool) → r < n → sum n (λ p. bit (eqb r p && b)) ≡ bit b
sum_one zero r b h = absurd (not-suc-le-zero h)
sum_one (suc n) r b h =
    elim (eq-or-lt_of_le (le_of_suc-le-suc h)) [
      | inl e ↦
          let z : sum n (λ p. bit (eqb r p && b)) ≡ 0 =
          sum-ext n (λ p. bit (eqb r p && b)) (λ p. 0) (λ p l. ap (λ (x : Bool). bit (x && b)) ((eqb_no r p).1 (λ y. omega arith))) ∙ sum_zeros n in
          let w : bit (eqb r n && b) ≡ bit b = ap (λ (x : Bool). bit (x && b)) (eqb-in r n e) in
          omega arith
      | inr l ↦
          let z = sum_one n r b l in
          let w : bit (eqb r n && b) ≡ 0 = ap (λ (x : Bool). bit (x && b)) (eqb-off r n l) in
          omega arith
    ]
