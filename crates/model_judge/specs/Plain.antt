-- Reading a model without its chains: what each record does where nothing is asked after an equation with a sign, and where
-- such equations are not kept. Definitions only.
use Rattle.std.specs.Prelude.{List, [], ℕ}
use Rattle.rules.specs.Load.{Sofar, State, before, inside, step_by, put, last}
use Rattle.rules.specs.Model.{Model}
use Rattle.rules.specs.declared.Equation.{Equation}
use Rattle.rules.specs.Records.{Rec, Turn, next, Outcome, run, parts}
use Rattle.rules.specs.Rooms.{Lengths}

-- What has been read so far, with these equations with signs.
abbrev pub with_signs : List Equation → Sofar → Sofar
with_signs es x =
    record { sizes = x.sizes; live = x.live; labels = x.labels; blocks = x.blocks; signs = es; moves = x.moves }

abbrev pub without : Sofar → Sofar
without x = with_signs [] x

abbrev pub unasked : Sofar → Turn State
unasked x = next (inside (without x))

unfoldable pub plain : Lengths → State → Rec → Turn State
plain l st r = step_by unasked l st r

-- What the bytes spell where no chain is asked and no component is put in.
unfoldable pub read_plain : Lengths → List ℕ → Outcome Model
read_plain l s = run (plain l) put last before (parts s)
