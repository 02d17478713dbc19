-- Sets of numbers below n as one number: a larger set has no smaller number, and the number tells the set.
-- Assumes nothing.
use Rattle.std.specs.Prelude.{◌≡◌, refl, ◌⊎◌, Bool, true, false, cond, ◌||◌, ℕ, zero, suc, ◌+◌, ◌-◌, ◌*◌, ◌/◌, ◌%◌, ◌^◌, ◌≤◌, ◌<◌, eqb}
use Rattle.std.proofs.Common.{sym, ap, ap₂, ◌∙◌, inl, inr, le_refl, eq-or-lt_of_le, le_of_suc-le-suc, not-suc-le-zero, pow-suc, mul_assoc, add_comm, arith, pow_pos, pow-add}
use Rattle.std.proofs.lemmas.Bool.{false≢true}
use Rattle.std.proofs.Math.Nat.{add-mul-div_right, add-mul-mod_self_right}
use Rattle.std.proofs.Math.Arith.{digits_div}
use Rattle.std.specs.Int.Bits.{bit_or}
use Rattle.std.proofs.lemmas.Nat.{or_block}
use Rattle.lists.specs.Lists.{bit, mask}
use Rattle.lists.specs.Sums.{sum-le, sum-ext}
use Rattle.lists.specs.Sets.{Sub}
use Rattle.lists.specs.Tests.{eqb-in, eqb_no, eqb-off}

-- A larger set has no smaller number.
pub mask-mono : (n : ℕ) (s t : ℕ → Bool) → Sub s t → mask n s ≤ mask n t
mask-mono n s t h = sum-le n (λ p. cond (s p) (2 ^ p) 0) (λ p. cond (t p) (2 ^ p) 0) (λ p. one (s p) (t p) (2 ^ p) (h p))
  where
    one : (x y : Bool) (k : ℕ) → (x ≡ true → y ≡ true) → cond x k 0 ≤ cond y k 0
    one true true k f = omega arith
    one true false k f = absurd (false≢true (f refl))
    one false y k f = omega arith

-- The number of a set has n bits.
pub mask_lt : (n : ℕ) (s : ℕ → Bool) → mask n s < 2 ^ n
mask_lt zero s = omega arith
mask_lt (suc n) s =
    let h = mask_lt n s in
    let p = pow-suc 2 n in
    let c = most (s n) (2 ^ n) in
    omega arith
  where
    most : (b : Bool) (k : ℕ) → cond b k 0 ≤ k
    most true k = omega arith
    most false k = omega arith

-- Sets with the same number have the same members below n.
pub mask-own : (n : ℕ) (s t : ℕ → Bool) → mask n s ≡ mask n t → (p : ℕ) → p < n → s p ≡ t p
mask-own zero s t e p h = absurd (not-suc-le-zero h)
mask-own (suc n) s t e p h = last (mask-own n s t) (s n) (t n) refl refl (eq-or-lt_of_le (le_of_suc-le-suc h)) e
  where
    last : (mask n s ≡ mask n t → (p : ℕ) → p < n → s p ≡ t p) → (x y : Bool) → s n ≡ x → t n ≡ y → (p ≡ n) ⊎ (p < n)
        → mask n s + cond x (2 ^ n) 0 ≡ mask n t + cond y (2 ^ n) 0 → s p ≡ t p
    last ih true true a b (inl k) e = ap s k ∙ a ∙ sym b ∙ ap t (sym k)
    last ih true true a b (inr k) e = ih (omega arith) p k
    last ih false false a b (inl k) e = ap s k ∙ a ∙ sym b ∙ ap t (sym k)
    last ih false false a b (inr k) e = ih (omega arith) p k
    last ih true false a b k e = let c = mask_lt n t in absurd (omega arith)
    last ih false true a b k e = let c = mask_lt n s in absurd (omega arith)

-- A bit times a number, and the number of a set by its highest bit.
top : (b : Bool) (k : ℕ) → cond b k 0 ≡ bit b * k
top true k = omega arith
top false k = omega arith

mask-suc : (n : ℕ) (s : ℕ → Bool) → mask (suc n) s ≡ bit (s n) * 2 ^ n + mask n s
mask-suc n s = let e = top (s n) (2 ^ n) in omega arith

-- The number of a union has the bits of both.
pub mask-or : (n : ℕ) (s t : ℕ → Bool) → bit_or (mask n s) (mask n t) ≡ mask n (λ p. s p || t p)
mask-or zero s t = refl
mask-or (suc n) s t =
    ap₂ bit_or (mask-suc n s) (mask-suc n t)
    ∙ or_block n (bit (s n)) (bit (t n)) (mask n s) (mask n t) (mask_lt n s) (mask_lt n t)
    ∙ ap₂ (λ (x y : ℕ). x * 2 ^ n + y) (one (s n) (t n)) (mask-or n s t)
    ∙ sym (mask-suc n (λ p. s p || t p))
  where
    one : (x y : Bool) → bit_or (bit x) (bit y) ≡ bit (x || y)
    one true true = refl
    one true false = refl
    one false true = refl
    one false false = refl

-- The empty set has number 0.
pub mask-none : (n : ℕ) (s : ℕ → Bool) → ((p : ℕ) → p < n → s p ≡ false) → mask n s ≡ 0
mask-none zero s h = refl
mask-none (suc n) s h =
    let a = mask-none n s (λ p l. h p (omega arith)) in
    let b = ap (λ (x : Bool). cond x (2 ^ n) 0) (h n (le_refl (suc n))) in
    omega arith

-- The set of x alone has number 2 ^ x.
pub mask_one : (n x : ℕ) → x < n → mask n (λ y. eqb x y) ≡ 2 ^ x
mask_one zero x h = absurd (not-suc-le-zero h)
mask_one (suc n) x h =
    elim (eq-or-lt_of_le (le_of_suc-le-suc h)) [
      | inl e ↦
          let a = mask-none n (λ y. eqb x y) (λ p l. (eqb_no x p).1 (λ q. omega arith)) in
          let b = ap (λ (c : Bool). cond c (2 ^ n) 0) (eqb-in x n e) in
          let c = ap (λ (k : ℕ). 2 ^ k) e in
          omega arith
      | inr l ↦
          let a = mask_one n x l in
          let b = ap (λ (c : Bool). cond c (2 ^ n) 0) (eqb-off x n l) in
          omega arith
    ]

-- Sets with the same members below n have the same number.
pub mask-same : (n : ℕ) (s t : ℕ → Bool) → ((p : ℕ) → p < n → s p ≡ t p) → mask n s ≡ mask n t
mask-same n s t h = sum-ext n (λ p. cond (s p) (2 ^ p) 0) (λ p. cond (t p) (2 ^ p) 0) (λ p l. ap (λ (b : Bool). cond b (2 ^ p) 0) (h p l))

-- Bit p of the number tells whether p is in the set.
pub mask-bit : (n : ℕ) (s : ℕ → Bool) (p : ℕ) → p < n → eqb (mask n s / 2 ^ p % 2) 1 ≡ s p
mask-bit zero s p h = absurd (not-suc-le-zero h)
mask-bit (suc n) s p h =
    elim (eq-or-lt_of_le (le_of_suc-le-suc h)) [
      | inl e ↦
          let a : mask (suc n) s / 2 ^ p ≡ bit (s n) =
          ap₂ (λ (m k : ℕ). m / 2 ^ k) (mask-suc n s) e ∙ digits_div (bit (s n)) (mask_lt n s) in
          rw a (low (s n)) ∙ ap s (sym e)
      | inr l ↦
          let d = n - suc p in
          let e : n ≡ suc d + p = omega arith in
          let c : bit (s n) * 2 ^ n ≡ bit (s n) * 2 ^ d * 2 * 2 ^ p =
          ap (λ (k : ℕ). bit (s n) * 2 ^ k) e ∙ ap (λ (k : ℕ). bit (s n) * k) (pow-add 2 (suc d) p)
          ∙ ap (λ (k : ℕ). bit (s n) * (k * 2 ^ p)) (pow-suc 2 d)
          ∙ sym (mul_assoc (bit (s n)) (2 ^ d * 2) (2 ^ p)) ∙ ap (λ (k : ℕ). k * 2 ^ p) (sym (mul_assoc (bit (s n)) (2 ^ d) 2)) in
          let f : mask (suc n) s ≡ mask n s + bit (s n) * 2 ^ d * 2 * 2 ^ p =
          mask-suc n s ∙ ap (λ (k : ℕ). k + mask n s) c ∙ add_comm (bit (s n) * 2 ^ d * 2 * 2 ^ p) (mask n s) in
          let g : mask (suc n) s / 2 ^ p ≡ mask n s / 2 ^ p + bit (s n) * 2 ^ d * 2 =
          ap (λ (k : ℕ). k / 2 ^ p) f ∙ add-mul-div_right (mask n s) (bit (s n) * 2 ^ d * 2) (pow_pos p) in
          let i : mask (suc n) s / 2 ^ p % 2 ≡ mask n s / 2 ^ p % 2 =
          ap (λ (k : ℕ). k % 2) g ∙ add-mul-mod_self_right (mask n s / 2 ^ p) (bit (s n) * 2 ^ d) 2 in
          ap (λ (k : ℕ). eqb k 1) i ∙ mask-bit n s p l
    ]
  where
    low : (b : Bool) → eqb (bit b % 2) 1 ≡ b
    low true = refl
    low false = refl
