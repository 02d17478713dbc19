-- What is put into the word of an operand is read from it again. Assumes nothing.
use Rattle.std.specs.Prelude.{◌≡◌, refl, Bool, cond, ℕ, ◌+◌, ◌*◌, ◌/◌, ◌%◌, ◌≤◌, ◌<◌, eqb}
use Rattle.std.proofs.Common.{ap, subst, mul-le-mul, arith}
use Rattle.lists.specs.Sums.{bit_le}
use Rattle.lists.specs.TableLaws.{bit-back}
use Rattle.lists.specs.Lists.{bit}
use Rattle.rules.specs.Limits.{most_states}
use Rattle.rules.specs.declared.Equation.{Equation}
use Rattle.rules.specs.declared.Sizes.{Sizes}
use Rattle.engine_index.specs.Operands.{is_step, easy_bit, slot_word, link_in, step_in, easy_in, waits_in, owner_in, row_in, heads_in}

-- The parts of a word.
pub record Parts (o link : ℕ) (step : Bool) (easy y row heads : ℕ) : Type 0 where
  pub is_link : link_in o ≡ link
  pub is_step : step_in o ≡ step
  pub is_easy : easy_in o ≡ eqb easy 1
  pub is_waits : waits_in o ≡ 1024 * y
  pub is_owner : owner_in o ≡ y
  pub is_row : row_in o ≡ row
  pub is_heads : heads_in o ≡ heads

-- The two lowest bytes, and what stands above them.
lower : (o link step easy high : ℕ) → link < 256 → step ≤ 1 → easy ≤ 1 → o ≡ link + 256 * (1 + 2 * step + 4 * easy) + 65536 * high
    → (o % 256 ≡ link) × (o / 512 % 2 ≡ step) × (o / 1024 % 2 ≡ easy) × (o / 65536 ≡ high)
lower o link step easy high hl hs he e = (omega arith, omega arith, omega arith, omega arith)

higher : (o y row heads : ℕ) → y < 64 → row < 65536 → o / 65536 ≡ 1024 * y + 65536 * (row + 65536 * heads)
    → (waits_in o ≡ 1024 * y) × (owner_in o ≡ y) × (row_in o ≡ row) × (heads_in o ≡ heads)
higher o y row heads hy hr e = (omega arith, omega arith, omega arith, omega arith)

parts : (o link step easy y row heads : ℕ) → link < 256 → step ≤ 1 → easy ≤ 1 → y < 64 → row < 65536
    → o ≡ link + 256 * (1 + 2 * step + 4 * easy) + 67108864 * y + 4294967296 * row + 281474976710656 * heads → Parts o link (eqb step 1) easy y row heads
parts o link step easy y row heads hl hs he hy hr e =
    let low = lower o link step easy (1024 * y + 65536 * (row + 65536 * heads)) hl hs he (omega arith) in
    let high = higher o y row heads hy hr low.3 in
    record {
      is_link = low.0;
      is_step = ap (λ (n : ℕ). eqb n 1) low.1;
      is_easy = ap (λ (n : ℕ). eqb n 1) low.2;
      is_waits = high.0;
      is_owner = high.1;
      is_row = high.2;
      is_heads = high.3;
    }

-- Those of a slot's word.
pub slot-parts : (z : Sizes) (e : Equation) (y link : ℕ) → z.states ≤ most_states → y < 64 → link < 256
    → Parts (slot_word z e y link) link (is_step e) (easy_bit e) y (y * z.states) (cond (is_step e) (e.first * z.states) 0)
unfolding slot_word
slot-parts z e y link low hy hl =
    let row : y * z.states ≤ 64 * most_states = mul-le-mul {n₂ = 64} {m₂ = most_states} (omega arith) low in
    subst (λ (b : Bool). Parts (slot_word z e y link) link b (easy_bit e) y (y * z.states) (cond (is_step e) (e.first * z.states) 0)) (bit-back (is_step e))
    (parts (slot_word z e y link) link (bit (is_step e)) (easy_bit e) y (y * z.states) (cond (is_step e) (e.first * z.states) 0) hl (bit_le (is_step e)) (omega arith) hy (omega arith) refl)
