-- The pairs of a set that lie in the blocks before a given one; and that the shifted and the settled pairs of one block
-- more are those of that block besides.
-- Assumes nothing.
use Rattle.std.specs.Prelude.{◌≡◌, Bool, false, ◌&&◌, ◌||◌, ℕ, suc, ◌≤◌, ◌<◌, ltb}
use Rattle.std.proofs.Common.{sym, ◌∙◌, arith}
use Rattle.std.proofs.Math.Path.{ap}
use Rattle.std.proofs.Math.Decide.{ℕ_discrete, dec_lt}
use Rattle.lists.specs.Tests.{and_in, and_left, and_right, or-false, ltb-out, ltb-in, ltb_no}
use Rattle.lists.specs.Sets.{Sub}
use Rattle.systems.specs.solution.System.{Frame, Leans, Values, Fits, settled, shifted, move_to, lifted}
use Rattle.systems.specs.moving.Marks.{shift_of, settle_of}
use Rattle.systems.specs.moving.SettleRule.{settled-off}
use Rattle.systems.specs.moving.ShiftRule.{shifted-off}

-- The pairs of d in the blocks before i.
abbrev pub up_to : Frame → (ℕ → Bool) → ℕ → ℕ → Bool
up_to F d i p = ltb (F.block p) i && d p

module _ (F : Frame) (d : ℕ → Bool) where
  -- In an earlier block it is the pairs of d.
  pub up_in : (i p : ℕ) → F.block p < i → up_to F d i p ≡ d p
  up_in i p h = ap (λ (b : Bool). b && d p) (ltb-in (F.block p) i h)

  -- In a later block it is none.
  pub up-off : (i p : ℕ) → i ≤ F.block p → up_to F d i p ≡ false
  up-off i p h = ap (λ (b : Bool). b && d p) ((ltb_no (F.block p) i).1 h)

  -- More blocks have more pairs.
  pub up-mono : {i j : ℕ} → i ≤ j → Sub (up_to F d i) (up_to F d j)
  up-mono {i} {j} l p e =
      let h = ltb-out (F.block p) i (and_left (ltb (F.block p) i) (d p) e) in
      and_in (ltb-in (F.block p) j (omega arith)) (and_right (ltb (F.block p) i) (d p) e)

  -- With the pairs of block i, which are those of s, it is one block more.
  up_suc : (s : ℕ → Bool) (i : ℕ) → ((p : ℕ) → F.block p ≡ i → d p ≡ s p) → ((p : ℕ) → (F.block p ≡ i → ⊥) → s p ≡ false)
      → (p : ℕ) → (up_to F d i p || s p) ≡ up_to F d (suc i) p
  up_suc s i here off p =
      elim (ℕ_discrete (F.block p) i) [
        | yes e ↦ ap (λ (b : Bool). b || s p) (up-off i p (omega arith)) ∙ sym (here p e) ∙ sym (up_in (suc i) p (omega arith))
        | no e ↦ ap (λ (b : Bool). up_to F d i p || b) (off p e) ∙ or-false (up_to F d i p) ∙ elim (dec_lt (F.block p) i) [
          | yes h ↦ up_in i p h ∙ sym (up_in (suc i) p (omega arith))
          | no h ↦ up-off i p (omega arith) ∙ sym (up-off (suc i) p (omega arith))
        ]
      ]

module _ (F : Frame) (L M : Leans) (old : Values) where
  -- A pair of block i shifts if it is in the shifted set of the block.
  pub shift-at : (i p : ℕ) → F.block p ≡ i → shift_of F L M old p ≡ shifted F L M i old (move_to F L M old i) p
  unfolding shift_of
  shift-at i p e = ap (λ (j : ℕ). shifted F L M j old (move_to F L M old j) p) e

  -- A pair of block i settles if it is in the settled set of the block.
  pub settle-at : (i p : ℕ) → F.block p ≡ i → settle_of F L M old p ≡ settled F M i (lifted F L M old i) p
  unfolding settle_of
  settle-at i p e = ap (λ (j : ℕ). settled F M j (lifted F L M old j) p) e

  -- With the shifted set of block i, the pairs that shift are those of one block more.
  pub shift_suc : Fits F L → {i : ℕ} → i < F.blocks → (p : ℕ)
      → (up_to F (shift_of F L M old) i p || shifted F L M i old (move_to F L M old i) p) ≡ up_to F (shift_of F L M old) (suc i) p
  shift_suc fits {i} lt =
      up_suc F (shift_of F L M old) (shifted F L M i old (move_to F L M old i)) i (shift-at i) (shifted-off fits M lt old (move_to F L M old i))

  -- With the settled set of block i, the pairs that settle are those of one block more.
  pub settle-suc : Fits F M → {i : ℕ} → i < F.blocks → (p : ℕ)
      → (up_to F (settle_of F L M old) i p || settled F M i (lifted F L M old i) p) ≡ up_to F (settle_of F L M old) (suc i) p
  settle-suc fits {i} lt =
      up_suc F (settle_of F L M old) (settled F M i (lifted F L M old i)) i (settle-at i) (settled-off fits lt (lifted F L M old i))
