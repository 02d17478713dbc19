-- What a move says to who looks for one of a part that leads to a pair with a value. The moves of a state with an action are a part, and
-- its number is 64 times the state, and the action: that of each of its moves, divided by 1,024. Definitions only.
use Rattle.std.specs.Prelude.{Bool, cond, List, Option, Some, None, ℕ, ◌-◌, ◌<◌, length, get_or, eqb, ltb}
use Rattle.lists.specs.Lists.{any}
use Rattle.rules.specs.Moves.{source, action, target}
use Rattle.rules.specs.declared.Sizes.{Sizes}
use Rattle.words.specs.Words.{own_of}
use Rattle.engine_table.specs.Table.{pair_in}
use Rattle.engine_table.specs.Part.{own_moves}

-- Each move leads to a state.
abbrev pub Targets : Sizes → List ℕ → Type 0
Targets z moves = (j : ℕ) → j < length moves → target (get_or moves j 0) < z.states

-- Does the move q lead to a pair of x that has the value `from`?
abbrev pub reaches : Sizes → List ℕ → ℕ → ℕ → ℕ → Bool
reaches z values from x q = eqb (get_or values (pair_in z x (target q)) 0) from

-- Does a move with the source and the action of the move at j pass the test?
abbrev pub some_own : (ℕ → Bool) → List ℕ → ℕ → Bool
some_own f moves j = any f (own_moves (source (get_or moves j 0)) (action (get_or moves j 0)) moves)

-- What a move says: nothing if it is not of the part, else whether it passes the test.
unfoldable pub says : (ℕ → Bool) → ℕ → ℕ → Option Bool
says f part q = cond (eqb (own_of q) part) (Some (f q)) None

-- What the move at a place says; nothing past the last.
unfoldable pub says_at : (ℕ → Bool) → List ℕ → ℕ → ℕ → Option Bool
unfolding says
says_at f moves part i = cond (ltb i (length moves)) (says f part (get_or moves i 0)) None

-- What the move before a place says; nothing before the first.
unfoldable pub says_before : (ℕ → Bool) → List ℕ → ℕ → ℕ → Option Bool
unfolding says
says_before f moves part i = cond (eqb i 0) None (says f part (get_or moves (i - 1) 0))
