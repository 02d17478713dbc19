-- A session as numbers in a room, an answer as one number, a report as numbers in a room. Definitions only.
use Rattle.std.specs.Prelude.{List, [], ◌∷◌, ◌++◌, ℕ, ◌+◌, ◌*◌, ◌%◌, min, ℤ, pos, get_or, drop}
use Rattle.lists.specs.Lists.{fill}
use Rattle.rules.specs.Records.{Outcome, refused, accepted}
use Rattle.rules.specs.declared.Session.{Session}
use Rattle.rules.specs.declared.Report.{Report}

-- The session that eight numbers stand for: states, actions, propositions, variables, blocks, moves, stamp, and whether it is
-- live. A number too large for its field is the field's greatest, which is outside every limit.
abbrev pub session_in : List ℕ → Session
session_in room = record {
  sizes = record {
    states = min (get_or room 0 0) 65535;
    actions = min (get_or room 1 0) 255;
    propositions = min (get_or room 2 0) 255;
    variables = min (get_or room 3 0) 255;
    blocks = min (get_or room 4 0) 255;
  };
  live = min (get_or room 7 0) 255;
  moves = get_or room 5 0;
  stamp = get_or room 6 0;
}

-- The eight numbers of a session.
abbrev pub session_numbers : Session → List ℕ
session_numbers s =
    s.sizes.states ∷ s.sizes.actions ∷ s.sizes.propositions ∷ s.sizes.variables ∷ s.sizes.blocks ∷ s.moves ∷ s.stamp ∷ s.live ∷ []

-- The three numbers of a report: shift visits, settle visits, net change.
abbrev pub report_numbers : Report → List ℤ
report_numbers r = pos r.visits.shift ∷ pos r.visits.settle ∷ r.net ∷ []

-- Two numbers in one: the low 32 bits and the high 32 bits.
abbrev pub packed : ℕ → ℕ → ℕ
packed low high = low + 4294967296 * (high % 4294967296)

-- An outcome as one number: a refusal's number below its place, or 0 below what is told of an acceptance.
abbrev pub told : {A : Type 0} → (A → ℕ) → Outcome A → ℕ
told f (refused n p) = packed n p
told f (accepted a) = packed 0 (f a)

-- The room of a session after an outcome: the eight numbers in front where there is a session, else as it was.
abbrev pub session_after : List ℕ → Outcome Session → List ℕ
session_after room (refused n p) = room
session_after room (accepted s) = fill (session_numbers s) room

-- The session that a report holds.
abbrev pub moved_to : Outcome Report → Outcome Session
moved_to (refused n p) = refused n p
moved_to (accepted r) = accepted r.session

-- The room of a report after an outcome: the three numbers in front where there is a report, else as it was.
abbrev pub report_after : List ℤ → Outcome Report → List ℤ
report_after room (refused n p) = room
report_after room (accepted r) = report_numbers r ++ drop 3 room
