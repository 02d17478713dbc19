-- How a change and a waiting pair lie in one number; moves and equations lie as the rules say (`pack`, `word`). Definitions only.
use Rattle.std.specs.Prelude.{Bool, List, map, ℕ, ◌+◌, ◌*◌, ◌/◌, ◌%◌, eqb}
use Rattle.lists.specs.Lists.{bit}
use Rattle.rules.specs.Moves.{pack, wrap}
use Rattle.rules.specs.Batch.{Change}
use Rattle.rules.specs.declared.Move.{Move}

-- A move as one number.
abbrev pub pack_of : Move → ℕ
pack_of m = pack m.source.0 m.action.0 m.target.0

-- Source and action of a move together.
abbrev pub own_of : ℕ → ℕ
own_of q = q / 1024

-- A change as one number: twice the move, and 1 more for an insert.
abbrev pub change_of : ℕ → Change
change_of w = record { insert = eqb (w % 2) 1; move = w / 2 }

abbrev pub changes_of : List ℕ → List Change
changes_of l = map change_of l

-- The number of a change, as far as it fits 32 bits. The changes of a batch that is judged good do.
abbrev pub code_of : ℕ → Bool → ℕ
code_of q insert = wrap (2 * q + bit insert)

-- A pair that waits, as one number: 1,024 times the variable, and the state.
abbrev pub waiting_of : ℕ → ℕ → ℕ
waiting_of x s = 1024 * x + s

-- The variable and the state of a pair that waits.
abbrev pub variable_in : ℕ → ℕ
variable_in w = w / 1024

abbrev pub state_in : ℕ → ℕ
state_in w = w % 1024
