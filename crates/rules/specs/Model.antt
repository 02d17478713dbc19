-- What a model is, and which models are inside the limits. Definitions only.
use Rattle.std.specs.Prelude.{◌≡◌, Bool, true, not, cond, ◌&&◌, List, [], ◌∷◌, ℕ, suc, ◌+◌, ◌^◌, max, length, get_or, eqb, ltb, leb}
use Rattle.lists.specs.Lists.{any, all, some_below, each_below}
use Rattle.rules.specs.Limits.{most_moves, sizes_ok}
use Rattle.rules.specs.Moves.{source, action, target}
use Rattle.rules.specs.Chains.{Names, mixed, component}
use Rattle.rules.specs.declared.Equation.{Equation}
use Rattle.rules.specs.declared.Sizes.{Sizes}

-- Whether the model is live (1) or not (0), a set of propositions for each state (bit p for proposition p), an equation for
-- each variable, and the moves, ascending, each as one number.
pub record Model : Type 0 where
  pub sizes : Sizes
  pub live : ℕ
  pub labels : List ℕ
  pub equations : List Equation
  pub moves : List ℕ

-- The highest proposition of the set lies below the proposition count.
unfoldable pub label_ok : Sizes → ℕ → Bool
label_ok z v = ltb v (2 ^ z.propositions)

-- Source, action and target lie below their counts.
unfoldable pub move_ok : Sizes → ℕ → ℕ → ℕ → Bool
move_ok z s a t = ltb s z.states && ltb a z.actions && ltb t z.states

-- The operator is at most 7, what it uses lies below its count, and what it does not use is 0.
unfoldable pub operands_ok : Sizes → ℕ → ℕ → ℕ → Bool
operands_ok z o a b =
    cond (ltb o 2) (eqb a 0 && eqb b 0)
    (cond (ltb o 4) (ltb a z.propositions && eqb b 0)
    (cond (ltb o 6) (ltb a z.variables && ltb b z.variables)
    (ltb o 8 && ltb a z.actions && ltb b z.variables)))

-- The variables that an equation names lie below `end`, the first variable after its block.
unfoldable pub names_ok : ℕ → ℕ → ℕ → ℕ → Bool
names_ok end o a b = cond (ltb o 4) true (cond (ltb o 6) (ltb a end && ltb b end) (ltb b end))

-- How many equations, from the first on, stand in the block with number b - 1.
abbrev pub run_of : ℕ → List Equation → ℕ
run_of b [] = 0
run_of b (e ∷ l) = cond (eqb (suc e.block) b) (suc (run_of b l)) 0

-- The equations from number i on, after b blocks of which the last has kind k: each goes on with that block or begins
-- the next, and in the end all variables and all blocks are there.
abbrev pub equations_ok : Sizes → ℕ → ℕ → ℕ → List Equation → Bool
equations_ok z i b k [] = eqb i z.variables && eqb b z.blocks
equations_ok z i b k (e ∷ l) =
    cond (eqb (suc e.block) b) (eqb e.kind k) (eqb e.block b && ltb b z.blocks && leb e.kind 1)
    && operands_ok z e.operator e.first e.second
    && names_ok (i + suc (run_of (suc e.block) l)) e.operator e.first e.second
    && equations_ok z (suc i) (suc e.block) e.kind l

-- The equations have signs of their own: the sizes give blocks as 0.
abbrev pub signed : Sizes → Bool
signed z = eqb z.blocks 0

-- What stands where there is no equation. It names nothing.
abbrev pub nothing : Equation
nothing = record { operator = 0; first = 0; second = 0; block = 0; kind = 0 }

-- The equation of variable x.
abbrev pub equation_in : List Equation → ℕ → Equation
equation_in es x = get_or es x nothing

-- The variables that an equation names.
abbrev pub names_of : Equation → List ℕ
names_of e = cond (ltb e.operator 4) [] (cond (ltb e.operator 6) (e.first ∷ e.second ∷ []) (e.second ∷ []))

-- The variables that the equation of each variable names.
abbrev pub names_in : List Equation → Names
names_in es x = names_of (equation_in es x)

-- Equation x lies on a closed chain that holds both signs.
unfoldable pub guilty : List Equation → ℕ → Bool
guilty es x = mixed (length es) (names_in es) (λ y. (equation_in es y).kind) x

-- The number of the component of variable x.
unfoldable pub component_in : List Equation → ℕ → ℕ
component_in es x = component (length es) (names_in es) x

-- The equations from number i on, each with the number that `at` gives for its block.
abbrev pub numbered : (ℕ → ℕ) → ℕ → List Equation → List Equation
numbered at i [] = []
numbered at i (e ∷ l) =
    record { operator = e.operator; first = e.first; second = e.second; block = at i; kind = e.kind } ∷ numbered at (suc i) l

-- Each equation with its component for its block.
unfoldable pub placed : List Equation → List Equation
placed es = numbered (component_in es) 0 es

-- An equation with a sign of its own: 0 or 1, and its numbers in range.
abbrev pub sign_ok : Sizes → Equation → Bool
sign_ok z e = leb e.kind 1 && operands_ok z e.operator e.first e.second

-- Equations with signs: one for each variable, in range; no closed chain holds both signs; and each one's block is its
-- component.
unfoldable pub signs_ok : Sizes → List Equation → Bool
signs_ok z es =
    eqb (length es) z.variables && each_below (length es) (λ x. sign_ok z (equation_in es x))
    && not (some_below (length es) (guilty es)) && each_below (length es) (λ x. eqb (equation_in es x).block (component_in es x))

-- How many blocks or components there are: one more than the highest number, in equations and in a model.
abbrev pub blocks_in : List Equation → ℕ
blocks_in [] = 0
blocks_in (e ∷ l) = max (suc e.block) (blocks_in l)

abbrev pub blocks_of : Model → ℕ
blocks_of m = blocks_in m.equations

-- The equations are well formed in the style that the sizes tell.
unfoldable pub style_ok : Sizes → List Equation → Bool
style_ok z es = cond (signed z) (signs_ok z es) (equations_ok z 0 0 0 es)

-- The moves are in range and strictly ascend, the first from `least` on.
abbrev pub moves_ok : Sizes → ℕ → List ℕ → Bool
moves_ok z least [] = true
moves_ok z least (q ∷ l) = leb least q && move_ok z (source q) (action q) (target q) && moves_ok z (suc q) l

-- Some move leaves the state, by whatever action.
abbrev pub has_move : List ℕ → ℕ → Bool
has_move ms s = any (λ q. eqb (source q) s) ms

-- Each of n states has a move.
unfoldable pub none_hangs : ℕ → List ℕ → Bool
none_hangs n ms = each_below n (has_move ms)

-- In a live model each state has a move. Of any other nothing is asked.
unfoldable pub live_ok : ℕ → ℕ → List ℕ → Bool
live_ok live n ms = cond (eqb live 1) (none_hangs n ms) true

-- A model inside the limits.
unfoldable pub well_formed : Model → Bool
well_formed m =
    sizes_ok m.sizes && eqb (length m.labels) m.sizes.states && all (label_ok m.sizes) m.labels
    && style_ok m.sizes m.equations && moves_ok m.sizes 0 m.moves
    && (leb (length m.moves) most_moves && (leb m.live 1 && live_ok m.live m.sizes.states m.moves))

abbrev pub WellFormed : Model → Type 0
WellFormed m = well_formed m ≡ true
