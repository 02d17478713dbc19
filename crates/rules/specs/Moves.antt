-- A move as one number, and the stamp of a table of moves. Definitions only.
use Rattle.std.specs.Prelude.{ℕ, ◌+◌, ◌*◌, ◌/◌, ◌%◌, List}
use Rattle.lists.specs.Lists.{sum_of}

-- Ascending as numbers is ascending by source, action, target.
abbrev pub pack : ℕ → ℕ → ℕ → ℕ
pack s a t = 65536 * s + 1024 * a + t

abbrev pub source : ℕ → ℕ
source q = q / 65536

abbrev pub action : ℕ → ℕ
action q = q % 65536 / 1024

abbrev pub target : ℕ → ℕ
target q = q % 1024

-- Numbers wrap at 2 to the 32nd.
abbrev pub wrap : ℕ → ℕ
wrap n = n % 4294967296

-- What one move adds to the stamp.
abbrev pub weight : ℕ → ℕ
weight q = 65537 * source q + 4099 * action q + 257 * target q + 1

-- The stamp of a table: the sum over all moves, wrapping.
unfoldable pub stamp_of : List ℕ → ℕ
stamp_of ms = wrap (sum_of weight ms)
