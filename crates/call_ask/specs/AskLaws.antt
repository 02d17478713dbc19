-- The question about one pair, in the words of the code. Definitions only.
use Rattle.std.specs.Prelude.{Bool, ◌&&◌, ltb}
use Rattle.rules.specs.declared.State.{State}
use Rattle.rules.specs.declared.Variable.{Variable}
use Rattle.rules.specs.declared.Sizes.{Sizes}

-- 4: the state and the variable lie below their counts.
abbrev pub numbers_ok : Sizes → State → Variable → Bool
numbers_ok z here x = ltb here.0 z.states && ltb x.0 z.variables
