-- The highest bit of a set, by leading zeros. Assumes nothing.
use Rattle.std.specs.Prelude.{◌≡◌, ℕ, suc, ◌-◌, ◌^◌, ◌≤◌, ◌<◌, ltb, leb}
use Rattle.std.proofs.Common.{sym, ◌∙◌, pow-suc, arith, lt-ltb, le-ltb, le-leb}
use Rattle.std.proofs.Math.Nat.{pow-le-pow_right}
use Rattle.std.proofs.Math.Decide.{dec_le}
use Rattle.std.specs.Int.Count.{count_leading_zeros}
use Rattle.std.proofs.lemmas.Nat.{leading_length}
use Rattle.std.proofs.lemmas.Bool.{lt-leb}

-- 32 less the leading zeros of v is at most k just where v lies below 2 to the k.
pub highest-bit : (v k : ℕ) → v < 2 ^ 32 → leb (32 - count_leading_zeros 32 v) k ≡ ltb v (2 ^ k)
highest-bit v k h =
    let s = leading_length 32 v h in
    let m = s.0 in
    let e : 32 - count_leading_zeros 32 v ≡ m = omega arith in
    elim (dec_le m k) [
      | yes l ↦
          let p : 2 ^ m ≤ 2 ^ k = pow-le-pow_right (omega arith) {i = m} {j = k} l in
          le-leb (32 - count_leading_zeros 32 v) k (omega arith) ∙ sym (lt-ltb v (2 ^ k) (omega arith))
      | no l ↦
          let p : 2 ^ suc k ≤ 2 ^ m = pow-le-pow_right (omega arith) {i = suc k} {j = m} (omega arith) in
          let q = rw pow-suc at p in
          lt-leb (32 - count_leading_zeros 32 v) k (omega arith) ∙ sym (le-ltb v (2 ^ k) (omega arith))
    ]
