-- A batch read turn by turn: what a turn is handed, and what holds of it and of the room from record to record. Definitions only.
use Rattle.std.specs.Prelude.{◌≡◌, List, [], ℕ, suc, ◌-◌, ◌≤◌, ◌<◌, length, set}
use Rattle.std.proofs.lemmas.List.Edits.{sets}
use Rattle.rules.specs.Batch.{read_batch}
use Rattle.rules.specs.Records.{parts}
use Rattle.rules.specs.declared.Sizes.{Sizes}
use Rattle.bytes_read.specs.PartsAt.{parts_at}
use Rattle.bytes_read.specs.Places.{Read, record_at}
use Rattle.std.specs.declared.ops.ControlFlow.TheVariants.{Continue, Break}
use Rattle.batch_read.specs.Reading.{ChangeTurn, summary, batch_says, from, codes_from, codes_of, Turned, ReadInto}

-- The room after the change of a turn is put down behind those of the turn before it.
abbrev pub put_change : ChangeTurn → ChangeTurn → List ℕ → List ℕ
put_change (Break a) u room = room
put_change (Continue h) (Break a) room = room
put_change (Continue h) (Continue g) room = set room h.count g.change

-- After the stamp, what is read from there on says what the whole says, and has the whole's changes.
pub record Stamped (z : Sizes) (s : List ℕ) (p n k : ℕ) : Type 0 where
  pub none : n ≡ 0
  pub begun : 0 < k
  pub inside : k ≤ length s
  pub same : from z s p 0 k ≡ summary (read_batch z s)
  pub codes : codes_from z 0 (parts_at s k) ≡ codes_of z (parts s)

abbrev pub Began : Sizes → List ℕ → ChangeTurn → Type 0
Began z s (Break a) = (batch_says a ≡ summary (read_batch z s)) × ([] ≡ codes_of z (parts s))
Began z s (Continue h) = Stamped z s h.stamp h.count h.at

-- The first turn, from what was read at the front of some bytes.
abbrev pub Begins : Sizes → Read → ChangeTurn → Type 0
Begins z read u = (s : List ℕ) → read ≡ record_at s 0 → Began z s u

-- The turn after another, from what was read at that one's place of some bytes of a length.
abbrev pub Follows : Sizes → Read → ChangeTurn → ℕ → ChangeTurn → Type 0
Follows z read (Break a) len u = u ≡ Break a
Follows z read (Continue h) len u = (s : List ℕ) → read ≡ record_at s h.at → len ≡ length s → Turned z s h.stamp h.count h.at u

-- Between two turns, in a room that was t: what is read from there on says what the whole says, and its changes put down
-- from there on leave what all of them leave.
pub record Onward (z : Sizes) (s t : List ℕ) (p n k : ℕ) (room : List ℕ) : Type 0 where
  pub begun : 0 < k
  pub inside : k ≤ length s
  pub same : from z s p n k ≡ summary (read_batch z s)
  pub holds : sets room n (codes_from z n (parts_at s k)) ≡ sets t 0 (codes_of z (parts s))

abbrev pub Going : Sizes → List ℕ → List ℕ → ChangeTurn → List ℕ → Type 0
Going z s t (Break a) room = ReadInto z s t a room
Going z s t (Continue h) room = Onward z s t h.stamp h.count h.at room

-- How far it is to the end of the bytes.
abbrev pub left : List ℕ → ChangeTurn → ℕ
left s (Break a) = 0
left s (Continue h) = suc (length s - h.at)
