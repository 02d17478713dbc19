-- Changes that stand one after another in the bytes of a batch, put down in one go. Definitions only.
use Rattle.std.specs.Prelude.{◌≡◌, ◌⊎◌, true, List, ℕ, ◌+◌, ◌≤◌, ◌<◌, eqb, length, get_or, set}
use Rattle.rules.specs.Limits.{most_changes}
use Rattle.rules.specs.Model.{move_ok}
use Rattle.rules.specs.declared.Sizes.{Sizes}
use Rattle.words.specs.Words.{pack_of, code_of}
use Rattle.bytes_read.specs.Places.{move_at}
use Rattle.batch_read.specs.declared.ChangeRun.{ChangeRun}
use Rattle.batch_read.specs.Reading.{ChangeTurn, go}
use Rattle.std.specs.declared.ops.ControlFlow.TheVariants.{Continue, Break}

-- A good change stands next: whole, not the 65th, an insert or a delete, and in range.
pub record GoodChange (s : List ℕ) (z : Sizes) (x : ChangeRun) : Type 0 where
  pub inside_bytes : x.at + 6 ≤ length s
  pub few : x.count < most_changes
  pub kind : (get_or s x.at 0 ≡ 8) ⊎ (get_or s x.at 0 ≡ 9)
  pub fits : move_ok z (move_at s (x.at + 1)).source.0 (move_at s (x.at + 1)).action.0 (move_at s (x.at + 1)).target.0 ≡ true

-- Past it.
abbrev pub with_change : ChangeRun → ChangeRun
with_change x = record { count = x.count + 1; at = x.at + 6 }

-- It as one number.
abbrev pub next_code : List ℕ → ChangeRun → ℕ
next_code s x = code_of (pack_of (move_at s (x.at + 1))) (eqb (get_or s x.at 0) 8)

-- The room after it is put down behind those so far.
abbrev pub change_put : List ℕ → ChangeRun → List ℕ → List ℕ
change_put s x room = set room x.count (next_code s x)

-- From one place to another there are good changes and nothing else, and each is put down.
pub data ChangesPut (s : List ℕ) (z : Sizes) (x : ChangeRun) (room : List ℕ) : ChangeRun → List ℕ → Type 0 where
  none : ChangesPut s z x room x room
  more : (y : ChangeRun) (had : List ℕ) → ChangesPut s z x room y had → GoodChange s z y → ChangesPut s z x room (with_change y) (change_put s y had)

-- Where the next record of a turn stands is no place past the end of the bytes.
abbrev pub Within : List ℕ → ChangeTurn → Type 0
Within s (Break a) = Unit {0}
Within s (Continue h) = h.at ≤ length s

-- A turn moved on, and the room with it: as they were where the reading is over, else past some good changes.
abbrev pub Forwarded : Sizes → List ℕ → ChangeTurn → List ℕ → ChangeTurn → List ℕ → Type 0
Forwarded z s (Break a) had u room = (u ≡ Break a) × (room ≡ had)
Forwarded z s (Continue h) had u room = (y : ChangeRun) × (u ≡ go h.stamp y.count h.change y.at) × ChangesPut s z (record { count = h.count; at = h.at }) had y room
