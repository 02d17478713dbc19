-- A model inside the limits has at most 32 blocks or components. Assumes nothing.
use Rattle.std.specs.Prelude.{◌≡◌, true, List, [], ◌∷◌, ℕ, zero, suc, ◌≤◌, ◌<◌, length, eqb}
use Rattle.std.proofs.Common.{inl, inr, le_of_suc-le-suc, not-suc-le-zero, arith}
use Rattle.lists.specs.Tests.{tell, and_is, eqb_is, ltb-is}
use Rattle.lists.specs.Sets.{size-le}
use Rattle.rules.specs.Chains.{stands}
use Rattle.rules.specs.Model.{Model, equations_ok, signed, names_in, component_in, style_ok, blocks_in, blocks_of, well_formed, WellFormed}
use Rattle.rules.specs.declared.Equation.{Equation}
use Rattle.rules.specs.declared.Sizes.{Sizes}
use Rattle.laws.specs.bytes.Walks.{small}
use Rattle.laws.specs.chains.Components.{component-below}
use Rattle.laws.specs.chains.ComponentCount.{blocks-le}
use Rattle.laws.specs.chains.Placed.{signs-out}
use Rattle.laws.specs.chains.Named.{block_at, signs-inside}

-- An equation's block is one of the blocks that the sizes give.
first_below : (z : Sizes) (i b k : ℕ) (e : Equation) (es : List Equation) → equations_ok z i b k (e ∷ es) ≡ true → b ≤ z.blocks → e.block < z.blocks
first_below z i b k e es h o =
    let f = simp and_is at h in
    elim (tell true (eqb (suc e.block) b)) [
      | inl t ↦ let c = (eqb_is (suc e.block) b).0 t in omega arith
      | inr t ↦
          let g = simp and_is at (rw t at f.0.0.0) in
          let c = (eqb_is e.block b).0 g.0.0 in
          let d = (ltb-is b z.blocks).0 g.0.1 in
          omega arith
    ]

block-below : (z : Sizes) (i b k : ℕ) (es : List Equation) (j : ℕ) → equations_ok z i b k es ≡ true → b ≤ z.blocks → j < length es → block_at es j < z.blocks
block-below z i b k [] j h o l = absurd (not-suc-le-zero l)
block-below z i b k (e ∷ es) zero h o l = first_below z i b k e es h o
block-below z i b k (e ∷ es) (suc j) h o l =
    block-below z (suc i) (suc e.block) e.kind es j (simp and_is at h).1 (first_below z i b k e es h o) (le_of_suc-le-suc l)

-- Of either style.
style-few : (z : Sizes) (es : List Equation) → z.variables ≤ 32 → z.blocks ≤ 8 → style_ok z es ≡ true → blocks_in es ≤ 32
unfolding style_ok component_in
style-few z es v b h =
    elim (tell true (signed z)) [
      | inr t ↦ blocks-le es 32 (λ x l. let k = block-below z 0 0 0 es x (rw t at h) (omega arith) l in omega arith)
      | inl t ↦
          let s = signs-out z es (rw t at h) in
          let inside = signs-inside z es s.count s.good in
          blocks-le es 32 (λ x l.
          let a = s.block x l in
          let c = s.count in
          let k = component-below (length es) (names_in es) inside x l in
          let n = size-le (length es) (stands (length es) (names_in es)) in
          omega arith)
    ]

-- A model inside the limits has at most 32 blocks or components.
pub blocks-few : (m : Model) → WellFormed m → blocks_of m ≤ 32
unfolding well_formed
blocks-few m w =
    let k = simp and_is at w in
    let z = small m.sizes k.0.0.0.0.0 in
    style-few m.sizes m.equations (omega arith) (omega arith) k.0.0.1
