-- Sets of numbers as tables of truth values, and the smallest set that a rule asks for. Definitions only.
use Rattle.std.specs.Prelude.{Bool, false, List, [], ◌∷◌, ℕ, zero, suc, get_or}

-- The truth values of f at i, i + 1, .., n of them.
abbrev pub tab : ℕ → ℕ → (ℕ → Bool) → List Bool
tab i zero f = []
tab i (suc n) f = f i ∷ tab (suc i) n f

-- The truth values of f at 0, .., n - 1, found once and kept.
abbrev pub table : ℕ → (ℕ → Bool) → List Bool
table n f = tab 0 n f

-- Is p in the set that the table holds? What lies past the table is not.
abbrev pub at : List Bool → ℕ → Bool
at l p = get_or l p false

-- Which numbers a set asks for next.
abbrev pub Rule : Type 0
Rule = (ℕ → Bool) → ℕ → Bool

-- What the rule asks for after k rounds, from the empty set.
abbrev pub rounds : ℕ → Rule → ℕ → List Bool
rounds n rule zero = []
rounds n rule (suc k) = let l = rounds n rule k in table n (rule (at l))

-- The smallest set of numbers below n that holds all that the rule asks for: n + 1 rounds suffice.
unfoldable pub smallest : ℕ → Rule → List Bool
smallest n rule = rounds n rule (suc n)
