-- The most of each thing, and which sizes are inside the limits. Definitions only.
use Rattle.std.specs.Prelude.{Bool, ◌&&◌, ℕ, leb}
use Rattle.rules.specs.declared.Sizes.{Sizes}

abbrev pub most_states : ℕ
most_states = 256

abbrev pub most_actions : ℕ
most_actions = 16

abbrev pub most_propositions : ℕ
most_propositions = 32

abbrev pub most_variables : ℕ
most_variables = 32

abbrev pub most_blocks : ℕ
most_blocks = 8

abbrev pub most_moves : ℕ
most_moves = 1024

abbrev pub most_changes : ℕ
most_changes = 64

abbrev between : ℕ → ℕ → ℕ → Bool
between low high n = leb low n && leb n high

-- Each size lies between its least and its most. Blocks may be 0: then equations have signs of their own.
unfoldable pub sizes_ok : Sizes → Bool
sizes_ok z =
    between 1 most_states z.states && between 1 most_actions z.actions && leb z.propositions most_propositions
    && between 1 most_variables z.variables && leb z.blocks most_blocks
