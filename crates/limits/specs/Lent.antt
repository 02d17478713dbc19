-- The lengths of the rooms lent, as the rules have them, and how large a count of places can be. Definitions only.
use Rattle.std.specs.Prelude.{ℕ, ◌*◌}
use Rattle.rules.specs.Rooms.{Lengths}
use Rattle.limits.specs.declared.Lent.{Lent}

-- The lengths, field by field.
abbrev pub lengths_by : Lent → Lengths
lengths_by l =
    record { labels = l.labels; equations = l.equations; values = l.values; marks = l.marks; moves = l.moves; index = l.index; queue = l.queue }

-- A byte times a number of two bytes lies below this.
abbrev pub products_end : ℕ
products_end = 256 * 65536
