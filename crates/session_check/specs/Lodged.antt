-- The rooms that a session lies in, as the rules have them. Definitions only.
use Rattle.rules.specs.Rooms.{Rooms, rooms_of}
use Rattle.session_check.specs.declared.SessionRooms.{SessionRooms}

-- The rooms lent, field by field; there are none to work in.
abbrev pub rooms_in : SessionRooms → Rooms
rooms_in r = rooms_of r.labels.now r.equations.now r.values.now r.marks.now r.moves.now
