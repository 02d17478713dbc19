-- Chains of variables: which variable leads to which by the names in the equations, closed chains that hold both signs,
-- and the components, with their numbers. Definitions only.
use Rattle.std.specs.Prelude.{Bool, not, ◌&&◌, ◌||◌, List, ℕ, eqb, ltb}
use Rattle.lists.specs.Lists.{any, bit, sum, mask, some_below}
use Rattle.lists.specs.Smallest.{Rule, at, smallest}

-- The variables that the equation of each variable names.
abbrev pub Names : Type 0
Names = ℕ → List ℕ

-- Of n variables, those that lead to y: y itself, and each that names one that does.
abbrev pub lead_rule : ℕ → Names → ℕ → Rule
lead_rule n names y s x = ltb x n && (eqb x y || any s (names x))

-- x leads to y, in any number of steps or in none.
unfoldable pub leads : ℕ → Names → ℕ → ℕ → Bool
leads n names x y = at (smallest n (lead_rule n names y)) x

-- A component: variables that lead to one another.
unfoldable pub together : ℕ → Names → ℕ → ℕ → Bool
together n names x y = leads n names x y && leads n names y x

-- x lies on a closed chain that holds both signs: its component has a variable of the other sign.
unfoldable pub mixed : ℕ → Names → (ℕ → ℕ) → ℕ → Bool
mixed n names sign x = some_below n (λ y. together n names x y && not (eqb (sign x) (sign y)))

-- The variables that x leads to, as one number: bit y for variable y. What x names leads to no more than x does, so that
-- its number is no larger.
unfoldable pub reach : ℕ → Names → ℕ → ℕ
reach n names x = mask n (leads n names x)

-- The lowest variable of its component stands for it.
unfoldable pub stands : ℕ → Names → ℕ → Bool
stands n names x = not (some_below x (together n names x))

-- The number of x's component: how many components have a smaller reach. So each comes after those that it names.
unfoldable pub component : ℕ → Names → ℕ → ℕ
component n names x = sum n (λ y. bit (stands n names y && ltb (reach n names y) (reach n names x)))
