-- The difference of two counts: it is small enough for the word that holds it, and the same where both have as many more. Assumes nothing.
use Rattle.std.specs.Prelude.{◌≡◌, refl, ℕ, zero, suc, ◌+◌, ◌-◌, ◌<◌, ◌^◌, Bool, true, false, cond, ltb, pos, negsuc, ◌-ℤ◌}
use Rattle.std.proofs.Common.{sym, ap, ◌∙◌, inl, inr, arith}
use Rattle.std.specs.Int.Signed.{mag}
use Rattle.lists.specs.Tests.{tell, ltb-in, ltb-out, ltb_no, cond_yes, cond_no}

mag-by : (a n : ℕ) (t : Bool) → a < 65536 → n < 65536 → mag (cond t (negsuc (suc n - suc a)) (pos (a - suc n))) < 2 ^ 31
mag-by a n true h g = omega arith
mag-by a n false h g = omega arith

-- The difference of two small numbers is small.
pub mag-sub : (a b : ℕ) → a < 65536 → b < 65536 → mag (pos a -ℤ pos b) < 2 ^ 31
mag-sub a zero h g = omega arith
mag-sub a (suc n) h g = mag-by a n (ltb a (suc n)) h (omega arith)

-- A difference by which of the two is less.
by_less : (a b : ℕ) → pos a -ℤ pos b ≡ cond (ltb a b) (negsuc (b - suc a)) (pos (a - b))
by_less a zero = rw ((ltb_no a 0).1 (omega arith)) (ap pos (let e : a + 0 ≡ a - 0 = omega arith in e))
by_less a (suc n) = refl

-- Equal differences, told by sums.
pub sub_same : (a b c d : ℕ) → a + d ≡ b + c → pos a -ℤ pos b ≡ pos c -ℤ pos d
sub_same a b c d e =
    by_less a b ∙ elim (tell true (ltb a b)) [
      | inl t ↦
          let l = ltb-out a b t in
          let k : b - suc a ≡ d - suc c = omega arith in
          cond_yes _ _ t ∙ ap negsuc k ∙ sym (cond_yes _ _ (ltb-in c d (omega arith)))
      | inr t ↦
          let l = (ltb_no a b).0 t in
          let k : a - b ≡ c - d = omega arith in
          cond_no _ _ t ∙ ap pos k ∙ sym (cond_no _ _ ((ltb_no c d).1 (omega arith)))
    ] ∙ sym (by_less c d)
