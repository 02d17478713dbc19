-- The equations one by one: what is asked of each. Assumes nothing.
use Rattle.std.specs.Prelude.{◌≡◌, Bool, ◌&&◌, List, length, drop, eqb}
use Rattle.std.proofs.Math.Path.{refl}
use Rattle.std.proofs.Common.{sym, ap, ◌∙◌, drop_of_length-le}
use Rattle.std.proofs.Math.Bool.{and_assoc}
use Prim.Native.Nat.{ℕ, suc, ◌+◌, ◌≤◌, ◌<◌}
use Rattle.std.proofs.Math.Numerals.{add-one}
use native.Mathlib.Omega.{arith}
use Rattle.rules.specs.Model.{nothing, equation_in, run_of, equations_ok}
use Rattle.rules.specs.declared.Equation.{Equation}
use Rattle.rules.specs.declared.Sizes.{Sizes}
use Rattle.session_check.specs.Tested.{goes_on, equation_ok}
use Rattle.session_check.specs.FrontWalk.{left-more}

module _ (es : List Equation) (i : ℕ) where
  -- What is asked of the equations from i on is what is asked of the one at i, and of the others.
  pub equations-more : (z : Sizes) (b k : ℕ) → i < length es → let e = equation_in es i in
      equations_ok z i b k (drop i es)
      ≡ (equation_ok z b k (i + 1 + run_of (e.block + 1) (drop (i + 1) es)) e && equations_ok z (i + 1) (e.block + 1) e.kind (drop (i + 1) es))
  unfolding equation_ok goes_on
  equations-more z b k h =
      let e : (r : ℕ) → i + 1 + r ≡ i + suc r = λ r. omega arith in
      rw (left-more es i nothing h, e, add-one (equation_in es i).block, add-one i) refl

  -- With what was found before, for the equation e at i whose block ends at `end`.
  pub equations-turn : (z : Sizes) (b k : ℕ) (e : Equation) (end : ℕ) (ok here whole : Bool) → e ≡ equation_in es i
      → end ≡ i + 1 + run_of (e.block + 1) (drop (i + 1) es) → here ≡ equation_ok z b k end e → i < length es
      → (ok && equations_ok z i b k (drop i es)) ≡ whole
      → (ok && here && equations_ok z (i + 1) (e.block + 1) e.kind (drop (i + 1) es)) ≡ whole
  equations-turn z b k e end ok here whole f d r h v =
      rw (r, d, f) (and_assoc ok _ _ ∙ ap (λ (x : Bool). ok && x) (sym (equations-more z b k h)) ∙ v)

  -- At the end all variables and all blocks are there.
  pub equations-over : (z : Sizes) (b k : ℕ) → length es ≤ i → equations_ok z i b k (drop i es) ≡ (eqb i z.variables && eqb b z.blocks)
  equations-over z b k h = rw (drop_of_length-le es h) refl
