-- The index of a table's moves: a head for each action and target, then a link for each move. Definitions only.
use Rattle.std.specs.Prelude.{List, ℕ, ◌+◌, ◌*◌, ◌≤◌, length}
use Rattle.rules.specs.Moves.{action, target}
use Rattle.rules.specs.declared.Sizes.{Sizes}
use Rattle.engine_table.specs.Table.{Table}
use Rattle.engine_index.specs.ChainLaws.{Chained}

-- The number by which a move is chained: its target, among those of its action.
abbrev pub key_of : Sizes → ℕ → ℕ
key_of z w = action w * z.states + target w

-- How many heads there are.
abbrev pub heads_of : Sizes → ℕ
heads_of z = z.actions * z.states

-- The room holds the chains of the table's moves.
pub record Indexed (t : Table) (index : List ℕ) : Type 0 where
  pub long : heads_of t.sizes + length t.moves ≤ length index
  pub chained : Chained (key_of t.sizes) 0 (heads_of t.sizes) t.moves (length t.moves) index
