-- A byte times a number of two bytes fits. Assumes nothing.
use mathlib.Core.Path.{refl}
use Prim.Native.Nat.{ℕ, ◌*◌, ◌≤◌, ◌<◌}
use native.Mathlib.Nat.{mul-le-mul}
use native.Mathlib.Omega.{arith}
use Rattle.limits.specs.Lent.{products_end}
use Rattle.limits.proofs.product.Goals as goal

-- It lies below the least number that none reaches.
below : (k n : ℕ) → k < 256 → n < 65536 → k * n < products_end
below k n a b = let h : k * n ≤ 255 * 65535 = mul-le-mul {n₁ = k} {m₁ = n} {n₂ = 255} {m₂ = 65535} (omega arith) (omega arith) in omega arith

pub overflow_mul-result : goal.overflow_mul-result
overflow_mul-result c = let h = below c.args.k c.args.n (omega arith) (omega arith) in record { fits = omega arith }

pub returns : goal.returns
returns c = (refl, below c.args.k c.args.n (omega arith) (omega arith))
