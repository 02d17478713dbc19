-- What the equations say: leanings, what an equation gives, and the values of a model, block by block. Where equations have
-- signs, a block is a component. Definitions only.
use Rattle.std.specs.Prelude.{◌≡◌, Bool, true, false, not, cond, ◌&&◌, ◌||◌, List, [], ◌∷◌, map, ℕ, zero, suc, ◌+◌, ◌*◌, ◌/◌, ◌%◌, ◌^◌, ◌<◌, get_or, eqb, ltb}
use Rattle.lists.specs.Marks.{put}
use Rattle.lists.specs.Lists.{is, any, all}
use Rattle.lists.specs.Smallest.{table, at, smallest}
use Rattle.rules.specs.Moves.{source, action, target}
use Rattle.rules.specs.Model.{Model, nothing, blocks_of}
use Rattle.rules.specs.declared.Equation.{Equation}
use Rattle.rules.specs.Rooms.{pairs_of}
use Rattle.rules.specs.declared.State.{State}
use Rattle.rules.specs.declared.Action.{Action}
use Rattle.rules.specs.declared.Variable.{Variable}
use Rattle.rules.specs.declared.Sizes.{Sizes}

-- A value for each pair.
abbrev pub Values : Type 0
Values = ℕ → Bool

abbrev pub state : ℕ → State
state n = record { 0 = n }

abbrev pub variable : ℕ → Variable
variable n = record { 0 = n }

-- The number of the pair of a state and a variable; and the state and the variable of a pair's number.
abbrev pub pair : Sizes → State → Variable → ℕ
pair z s x = x.0 * z.states + s.0

abbrev pub state_of : Sizes → ℕ → State
state_of z p = state (p % z.states)

abbrev pub variable_of : Sizes → ℕ → Variable
variable_of z p = variable (p / z.states)

-- What an equation is. The truth value tells true from false, p from not p, and from or, box from diamond.
pub data Term : Type 0 where
  constant : Bool → Term
  proposition : Bool → ℕ → Term
  join : Bool → Variable → Variable → Term
  step : Bool → Action → Variable → Term

-- The operators 0 to 7: false, true, proposition, not, or, and, diamond, box.
abbrev pub terms : ℕ → ℕ → List Term
terms a b =
    constant false
    ∷ constant true
    ∷ proposition true a
    ∷ proposition false a
    ∷ join false (variable a) (variable b)
    ∷ join true (variable a) (variable b)
    ∷ step false (record { 0 = a }) (variable b)
    ∷ step true (record { 0 = a }) (variable b)
    ∷ []

abbrev pub term_of : Equation → Term
term_of e = get_or (terms e.first e.second) e.operator (constant false)

-- The equation of a variable.
abbrev pub equation_at : Model → Variable → Equation
equation_at m x = get_or m.equations x.0 nothing

-- The equation of a pair.
unfoldable pub term_at : Model → ℕ → Term
term_at m p = term_of (equation_at m (variable_of m.sizes p))

-- The block of a pair. What is no pair lies past the last block.
unfoldable pub block_of : Model → ℕ → ℕ
block_of m p = cond (ltb p (pairs_of m.sizes)) (equation_at m (variable_of m.sizes p)).block (blocks_of m)

-- Is block i greatest? Its equations say so.
abbrev pub greatest_in : ℕ → List Equation → Bool
greatest_in i [] = false
greatest_in i (e ∷ l) = (eqb e.block i && eqb e.kind 1) || greatest_in i l

unfoldable pub greatest : Model → ℕ → Bool
greatest m i = greatest_in i m.equations

-- Does the proposition hold at the state, by the labels?
abbrev pub holds : List ℕ → State → ℕ → Bool
holds labels s q = eqb (get_or labels s.0 0 / 2 ^ q % 2) 1

-- Is the move one of the state's moves with the action? And where these go.
abbrev pub own : State → Action → ℕ → Bool
own s a q = eqb (source q) s.0 && eqb (action q) a.0

abbrev pub targets : State → Action → List ℕ → List ℕ
targets s a [] = []
targets s a (q ∷ l) = cond (own s a q) (target q ∷ targets s a l) (targets s a l)

-- The pairs that a pair leans on: two for "or" and "and", one per move of the state with the action for diamond and box.
abbrev pub leanings_by : Model → State → Term → List ℕ
leanings_by m s (constant c) = []
leanings_by m s (proposition c q) = []
leanings_by m s (join k x y) = pair m.sizes s x ∷ pair m.sizes s y ∷ []
leanings_by m s (step k a x) = map (λ t. pair m.sizes (state t) x) (targets s a m.moves)

unfoldable pub leanings : Model → ℕ → List ℕ
leanings m p = cond (ltb p (pairs_of m.sizes)) (leanings_by m (state_of m.sizes p) (term_at m p)) []

-- What the equation of a pair gives, where the pairs have the values v.
abbrev pub gives_by : Model → Values → State → Term → Bool
gives_by m v s (constant c) = c
gives_by m v s (proposition c q) = is c (holds m.labels s q)
gives_by m v s (join false x y) = v (pair m.sizes s x) || v (pair m.sizes s y)
gives_by m v s (join true x y) = v (pair m.sizes s x) && v (pair m.sizes s y)
gives_by m v s (step false a x) = any (λ t. v (pair m.sizes (state t) x)) (targets s a m.moves)
gives_by m v s (step true a x) = all (λ t. v (pair m.sizes (state t) x)) (targets s a m.moves)

unfoldable pub gives : Model → Values → ℕ → Bool
gives m v p = gives_by m v (state_of m.sizes p) (term_at m p)

-- v solves the equations of block i.
abbrev pub Solves : Model → ℕ → Values → Type 0
Solves m i v = (p : ℕ) → block_of m p ≡ i → v p ≡ gives m v p

-- u and v have the same values in the blocks before i.
abbrev pub Agree : Model → ℕ → Values → Values → Type 0
Agree m i u v = (p : ℕ) → block_of m p < i → u p ≡ v p

-- The values of a model. Blocks in order: with earlier blocks fixed, a least block has the smallest assignment to its
-- pairs that solves its equations, a greatest block the largest.
pub record Solution (m : Model) (v : Values) : Type 0 where
  pub solves : (i : ℕ) → i < blocks_of m → Solves m i v
  pub smallest : (i : ℕ) → i < blocks_of m → greatest m i ≡ false → (u : Values) → Agree m i u v → Solves m i u
      → (p : ℕ) → block_of m p ≡ i → v p ≡ true → u p ≡ true
  pub largest : (i : ℕ) → i < blocks_of m → greatest m i ≡ true → (u : Values) → Agree m i u v → Solves m i u
      → (p : ℕ) → block_of m p ≡ i → u p ≡ true → v p ≡ true

-- Settling block i from the values v, where the pairs of s have turned already. For a greatest block: a true pair whose
-- equation gives false. For a least block: a false pair whose equation gives true.
unfoldable pub settles : Model → ℕ → Values → (ℕ → Bool) → ℕ → Bool
settles m i v s p =
    let b = greatest m i in
    eqb (block_of m p) i && (is b (v p) && is (not b) (gives m (put (not b) v s) p))

-- The pairs of block i that settle from the values v: turned one after the other until none is left.
abbrev pub settled_set : Model → ℕ → Values → List Bool
settled_set m i v = smallest (pairs_of m.sizes) (settles m i v)

-- Block i at its starting value: all true for a greatest block, all false for a least one.
abbrev pub fresh : Model → ℕ → Values → Values
fresh m i v p = cond (eqb (block_of m p) i) (greatest m i) (v p)

-- The values found, block by block: each block starts fresh and settles.
unfoldable pub solve_to : Model → ℕ → List Bool
solve_to m zero = []
solve_to m (suc i) =
    let n = pairs_of m.sizes in
    let v = table n (fresh m i (at (solve_to m i))) in
    table n (put (not (greatest m i)) (at v) (at (settled_set m i (at v))))

unfoldable pub solve : Model → List Bool
solve m = solve_to m (blocks_of m)
