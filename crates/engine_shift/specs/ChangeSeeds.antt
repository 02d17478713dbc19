-- What the changes of a batch seed. Assumes nothing.
use Rattle.std.specs.Prelude.{◌≡◌, Bool, true, false, not, ◌&&◌, List, [], ◌∷◌, ℕ, zero, suc, ◌/◌, ◌<◌, length, get_or, eqb}
use Rattle.std.proofs.Math.Path.{refl}
use mathlib.Core.Bool.{beq}
use Rattle.std.proofs.Common.{not-suc-le-zero, le_of_suc-le-suc, arith}
use Rattle.lists.specs.Lists.{is}
use Rattle.lists.specs.Tests.{tests, and_is}
use Rattle.rules.specs.Moves.{source, action, target}
use Rattle.rules.specs.Model.{move_ok}
use Rattle.rules.specs.Batch.{changes_ok}
use Rattle.rules.specs.declared.Sizes.{Sizes}
use Rattle.words.specs.Words.{changes_of}
use Rattle.engine_shift.specs.Seeds.{odd_at, was_not}

-- Each change is of a move from a state to a state.
change-ok : (z : Sizes) (l : List ℕ) (i : ℕ) → changes_ok z (changes_of l) ≡ true → i < length l
    → move_ok z (source (get_or l i 0 / 2)) (action (get_or l i 0 / 2)) (target (get_or l i 0 / 2)) ≡ true
change-ok z [] i h k = absurd (not-suc-le-zero k)
change-ok z (w ∷ l) zero h k = (simp and_is at h).0
change-ok z (w ∷ l) (suc i) h k = change-ok z l i (simp and_is at h).1 (le_of_suc-le-suc k)

pub change-inside : (z : Sizes) (l : List ℕ) (i : ℕ) → changes_ok z (changes_of l) ≡ true → i < length l
    → (source (get_or l i 0 / 2) < z.states) × (target (get_or l i 0 / 2) < z.states)
unfolding move_ok
change-inside z l i h k = let f = simp tests at (change-ok z l i h k) in (omega arith, omega arith)

-- Was the old value not k? It is turned round where the pair is of an earlier block and its mark is odd.
module _ (values marks : List ℕ) (earlier : Bool) (k q : ℕ) where
  pub was-turned : (earlier && odd_at marks q) ≡ true → was_not values marks earlier k q ≡ eqb (get_or values q 0) k
  unfolding was_not
  was-turned e = rw e refl

  pub was-still : (earlier && odd_at marks q) ≡ false → was_not values marks earlier k q ≡ not (eqb (get_or values q 0) k)
  unfolding was_not
  was-still e = rw e refl

-- Does a diamond or a box turn by what it gains: a diamond of a greatest block, and a box of a least one?
pub gains-is : (x y : Bool) → not (beq x y) ≡ is (not y) x
gains-is true true = refl
gains-is true false = refl
gains-is false true = refl
gains-is false false = refl
