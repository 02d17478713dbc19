-- A number that may lie below zero is written by its sign and its size. Assumes nothing.
use Rattle.std.specs.Prelude.{◌≡◌, refl, true, false, [], ◌∷◌, ◌++◌, ℤ, pos, negsuc, nat_abs}
use Rattle.std.proofs.Common.{sym, arith}
use Rattle.std.proofs.lemmas.Bool.{false≢true}
use Rattle.std.specs.Int.Signed.{lt_z}
use Rattle.lists.specs.Tests.{ltb-is}
use Rattle.program_lines.specs.Lines.{decimal, signed}

-- A number below zero is a minus sign and its size.
pub signed-below : (z : ℤ) → lt_z z (pos 0) ≡ true → signed z ≡ (45 ∷ []) ++ decimal (nat_abs z)
signed-below (pos n) h = let l = (ltb-is n 0).0 h in absurd (omega arith)
signed-below (negsuc n) h = refl

-- Any other is its size alone.
pub signed-above : (z : ℤ) → lt_z z (pos 0) ≡ false → signed z ≡ decimal (nat_abs z)
signed-above (pos n) h = refl
signed-above (negsuc n) h = absurd (false≢true (sym h))
