-- The fewest digits that hold a number are its decimal digits. Assumes nothing.
use Rattle.std.specs.Prelude.{◌≡◌, refl, true, [], ◌∷◌, ℕ, zero, suc, ◌+◌, ◌-◌, ◌/◌, ◌%◌, ◌^◌, ◌≤◌, ◌<◌, ltb, length}
use Rattle.std.proofs.Common.{inl, inr, pow-suc, arith, length-append}
use Rattle.io.specs.Digits.{hex_digit_ascii, last_digits, IsDigitCount}
use Rattle.lists.specs.Tests.{tell, ltb-in, ltb_no}
use Rattle.program_lines.specs.Lines.{digits_by, decimal}

-- Ten to a power is not 0.
ten-pow : (k : ℕ) → 1 ≤ 10 ^ k
ten-pow zero = omega arith
ten-pow (suc k) = let h = ten-pow k in let e = pow-suc 10 k in omega arith

-- A digit below ten is written as itself.
glyph-is : (n : ℕ) → hex_digit_ascii (n % 10) ≡ 48 + n % 10
glyph-is n = let h : n % 10 < 10 = omega arith in rw (ltb-in (n % 10) 10 h) refl

-- The last k digits, where k is the fewest that hold n.
digits_are : (most k n : ℕ) → n < most → IsDigitCount 10 1 n k → last_digits 10 k n ≡ digits_by most n
digits_are zero k n h f = absurd (omega arith)
digits_are (suc most) zero n h f = absurd (omega (arith, f.0))
digits_are (suc most) (suc zero) n h f =
    let l : n < 10 = f.1 in
    let e : n % 10 ≡ n = omega arith in
    rw (ltb-in n 10 l, glyph-is n, e) refl
digits_are (suc most) (suc (suc j)) n h f =
    let p = ten-pow j in
    let e = pow-suc 10 j in
    let g = pow-suc 10 (suc j) in
    let y : suc (suc j) - 1 ≡ suc j = omega arith in
    let z : suc j - 1 ≡ j = omega arith in
    let low : 10 ^ suc j ≤ n = rw y at (f.2 (omega arith)) in
    let high = f.1 in
    let t : 10 ≤ n = omega arith in
    let small : n / 10 < 10 ^ suc j = omega arith in
    let i = digits_are most (suc j) (n / 10) (omega arith) (omega arith, small, λ l. rw z (omega arith)) in
    rw ((ltb_no n 10).1 t, glyph-is n, ← i) refl

-- They are its decimal digits.
pub decimal-is : (k n : ℕ) → IsDigitCount 10 1 n k → last_digits 10 k n ≡ decimal n
unfolding decimal
decimal-is k n f = digits_are (suc n) k n (omega arith) f

-- A number below 10 ^ k has at most k digits.
digits-few : (most k n : ℕ) → 0 < k → n < 10 ^ k → length (digits_by most n) ≤ k
digits-few zero k n h l = omega arith
digits-few (suc most) zero n h l = absurd (omega arith)
digits-few (suc most) (suc zero) n h l = rw (ltb-in n 10 l) (omega arith)
digits-few (suc most) (suc (suc j)) n h l =
    let e = pow-suc 10 (suc j) in
    let r = digits-few most (suc j) (n / 10) (omega arith) (omega arith) in
    let k = length-append (digits_by most (n / 10)) ((48 + n % 10) ∷ []) in
    elim (tell true (ltb n 10)) [ inl t ↦ rw t (omega arith) | inr t ↦ rw (t, k) (omega arith) ]

-- And so for all of its digits.
pub decimal-few : (k n : ℕ) → 0 < k → n < 10 ^ k → length (decimal n) ≤ k
unfolding decimal
decimal-few k n h l = digits-few (suc n) k n h l
