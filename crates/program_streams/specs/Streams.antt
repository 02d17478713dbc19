-- Standard input and standard output: what a reading says, and how a run ends. Definitions only.
use Rattle.std.specs.Prelude.{◌≡◌, List, ℕ, ◌+◌, ◌≤◌, ◌<◌, min, ℤ, pos, negsuc, length, take, Result, Ok, Err}
use Rattle.lists.specs.Lists.{fill}
use Rattle.program.specs.Program.{printed}
use Rattle.program_streams.specs.declared.Unread.{Unread}
use Rattle.program_streams.specs.declared.Unfinished.{Unfinished}
use Rattle.program_streams.specs.declared.Unfinished.TheVariants as U

-- The answer of a read as C's read gives it: how many bytes, or a negative number where it failed.
abbrev pub answer_of : {E : Type 0} → Result ℕ E → ℤ
answer_of (Ok k) = pos k
answer_of (Err e) = negsuc 0

-- What C's read says by its answer, in a room for n bytes: it failed where that is negative, and else it is a count of bytes.
abbrev pub reading_of : ℤ → ℕ → Result ℕ Unread
reading_of (pos k) n = Ok (min k n)
reading_of (negsuc k) n = Err (record {})

-- The bytes read from a place on lie in the room.
abbrev pub Within : ℕ → Result ℕ Unread → List ℕ → Type 0
Within at (Err e) room = Unit {0}
Within at (Ok k) room = at + k ≤ length room

-- The end says how much of the output was taken: written where it was all, unwritten where it was less.
abbrev pub Told : List ℕ → Result ℕ Unfinished → Type 0
Told said (Err U.Unread) = ⊥
Told said (Err (U.Unwritten k)) = k < length said
Told said (Ok k) = k ≡ length said

-- How a run ends. Where the reading failed, the end says so and the output's room is as it was. Where it has n bytes, the front
-- of that room is what they print, the rest is as it was, and the end says how much of it was taken.
abbrev pub Answered : Result ℕ Unread → List ℕ → List ℕ → Result ℕ Unfinished → List ℕ → Type 0
Answered (Err e) input before r after = (r ≡ Err U.Unread) × (after ≡ before)
Answered (Ok n) input before r after = Told (printed (take n input)) r × (after ≡ fill (printed (take n input)) before)
