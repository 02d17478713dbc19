-- What the places of a row say while its block settles. Definitions only.
use Rattle.std.specs.Prelude.{◌≡◌, Bool, true, not, cond, ◌&&◌, ◌||◌, List, ℕ, ◌-◌, ◌<◌, length, get_or, eqb}
use Rattle.lists.specs.Lists.{is, any}
use Rattle.systems.specs.machine.Machine.{asks}
use Rattle.rules.specs.Moves.{target}
use Rattle.rules.specs.Values.{state, own, gives, leanings}
use Rattle.rules.specs.Rooms.{pairs_of}
use Rattle.rules.specs.Calls.{value_at}
use Rattle.laws.specs.model.ModelSystem.{frame}
use Rattle.engine_table.specs.Table.{Table, model_of, Drawn, ReadsAs, word_at, own_in, pair_in}
use Rattle.engine_rows.specs.Rooms.{Bits}

-- The number v where it is decided, and else the other one of 0 and 1.
abbrev pub told : ℕ → Bool → ℕ
told v decided = cond decided v (1 - v)

-- One of two rows has c at the state s. That decides an "or" (1) or an "and" (0).
abbrev pub one_has : List ℕ → List ℕ → ℕ → ℕ → Bool
one_has f h c s = eqb (get_or f s 0) c || eqb (get_or h s 0) c

-- A move of the state s with the action a leads to a state at which the row has c. That decides a diamond (1) or a box (0).
abbrev pub leads_one : List ℕ → ℕ → List ℕ → ℕ → ℕ → Bool
leads_one moves a row c s = any (λ q. own (state s) (record { 0 = a }) q && eqb (get_or row (target q) 0) c) moves

-- What a row is told from: a table, values, the variable y of the row with its equation's numbers, and n places.
pub record Asked (t : Table) (values : List ℕ) (y o a b i k n : ℕ) : Type 0 where
  pub drawn : Drawn t
  pub reads : ReadsAs (word_at t y) o a b i k
  pub below : y < t.sizes.variables
  pub pairs : length values ≡ pairs_of t.sizes
  pub bits : Bits values
  pub places : n ≡ t.sizes.states

-- The places of the row of y are 1 where its equation gives what its block's own value is not.
pub record Fails (t : Table) (values : List ℕ) (y : ℕ) (bad : List ℕ) : Type 0 where
  pub long : length bad ≡ t.sizes.states
  pub bits : Bits bad
  pub tells : (s : ℕ) → s < t.sizes.states → eqb (get_or bad s 0) 1 ≡ is (not (own_in t y)) (gives (model_of t) (value_at values) (pair_in t.sizes y s))

-- Must the pair of y at the state s turn while its block settles?
abbrev pub settle_test : Table → List ℕ → ℕ → ℕ → Bool
settle_test t values y s = asks (frame (model_of t)) (leanings (model_of t)) true (value_at values) (pair_in t.sizes y s)
