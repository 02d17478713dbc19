-- Which operators have which shape. Assumes nothing.
use native.Mathlib.Omega.{arith}
use Rattle.std.specs.Prelude.{◌≡◌, ◌⊎◌, ℕ, ◌≤◌, ◌<◌}
use Rattle.std.proofs.Common.{inl, inr}
use Rattle.engine_table.specs.declared.shapes.Shape.{Shape}
use Rattle.engine_table.specs.declared.shapes.Shape.TheVariants.{Constant, Label, Join, Step}

-- The operator is one of an equation of the shape.
abbrev pub Shaped : ℕ → Shape → Type 0
Shaped o Constant = o < 2
Shaped o Label = (2 ≤ o) × (o < 4)
Shaped o Join = (4 ≤ o) × (o < 6)
Shaped o Step = 6 ≤ o

-- That of a constant or a proposition.
pub shaped-low : (o : ℕ) (s : Shape) → Shaped o s → (s ≡ Constant) ⊎ (s ≡ Label) → o < 4
shaped-low o Constant h e = omega arith
shaped-low o Label h e = h.1
shaped-low o Join h (inl e) = cc
shaped-low o Join h (inr e) = cc
shaped-low o Step h (inl e) = cc
shaped-low o Step h (inr e) = cc
