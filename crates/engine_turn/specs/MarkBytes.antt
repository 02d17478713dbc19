-- Whether a mark leaves a pair free, and the mark by which it waits, by the byte of the phase: no branch. Assumes nothing.
use Rattle.std.specs.Prelude.{◌≡◌, refl, Bool, true, false, ℕ, zero, suc, ◌+◌, ◌-◌, ◌*◌, ◌≤◌, ltb}
use Rattle.std.proofs.Common.{sym, ◌∙◌, arith}
use mir.Val.{bool_byte}
use Rattle.lists.specs.Tests.{ltb-is, ltb_no, eqb_no}
use Rattle.systems.specs.machine.Machine.{free, next_mark}

-- A pair is free where its mark is below one more than the byte of the phase.
pub free-byte : (ph : Bool) (m : ℕ) → ltb m (1 + bool_byte ph) ≡ free ph m
free-byte true m = refl
free-byte false zero = refl
free-byte false (suc m) = (ltb_no (suc m) 1).1 (omega arith) ∙ sym ((eqb_no (suc m) 0).1 (λ e. absurd (omega arith)))

-- The mark of a free pair is not over one more than twice that byte, and the next mark is the difference.
pub free-small : (ph : Bool) (m : ℕ) → free ph m ≡ true → m ≤ 1 + 2 * bool_byte ph
free-small true m h = let k = (ltb-is m 2).0 h in omega arith
free-small false zero h = omega arith
free-small false (suc m) h = let k = (ltb-is (suc m) 1).0 (free-byte false (suc m) ∙ h) in omega arith

pub next-byte : (ph : Bool) (m : ℕ) → free ph m ≡ true → 1 + 2 * bool_byte ph - m ≡ next_mark ph m
next-byte true zero h = refl
next-byte true (suc zero) h = refl
next-byte true (suc (suc m)) h = let k = (ltb-is (suc (suc m)) 2).0 h in absurd (omega arith)
next-byte false zero h = refl
next-byte false (suc m) h = let k = (ltb-is (suc m) 1).0 (free-byte false (suc m) ∙ h) in absurd (omega arith)
