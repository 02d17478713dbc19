-- A reading turn by turn: what a turn is handed, and what holds of it from record to record. Definitions only.
use Rattle.std.specs.Prelude.{◌≡◌, true, List, ℕ, suc, ◌-◌, ◌≤◌, ◌<◌, length}
use Rattle.rules.specs.Load.{before, inside}
use Rattle.rules.specs.Model.{signed}
use Rattle.rules.specs.Rooms.{Lengths}
use Rattle.bytes_read.specs.Places.{record_at, Read}
use Rattle.model_judge.specs.Progress.{sofar_of, KeptIn}
use Rattle.rules.specs.declared.Equation.{Equation}
use Rattle.model_judge.specs.Asking.{whole, signs_to, SpelledSofar}
use Rattle.model_judge.specs.Plain.{with_signs}
use Rattle.model_judge.specs.Turning.{read_says, Turned, OneTurn}
use Rattle.model_judge.specs.declared.progress.Progress.{Progress}
use Rattle.std.specs.declared.ops.ControlFlow.TheVariants.{Continue, Break}

-- Where the next record stands; 0 where the reading is over.
abbrev pub place_of : OneTurn → ℕ
place_of (Break a) = 0
place_of (Continue h) = h.at

-- The first turn, from what was read at the front of some bytes.
abbrev pub Begins : Lengths → Read → OneTurn → Type 0
Begins l read u = (s : List ℕ) → read ≡ record_at s 0 → Turned l s before 0 u

-- The turn after another, from what was read at that one's place of some bytes of a length.
abbrev pub Follows : Lengths → Read → OneTurn → ℕ → OneTurn → Type 0
Follows l read (Break a) len u = u ≡ Break a
Follows l read (Continue h) len u = (s : List ℕ) → read ≡ record_at s h.at → len ≡ length s → Turned l s (inside (sofar_of h.so_far)) h.at u

-- Between two turns: what has been read is inside the limits, and the place lies in the bytes past the first record.
pub record Inside (s : List ℕ) (x : Progress) (n : ℕ) : Type 0 where
  pub kept : KeptIn x
  pub begun : 0 < n
  pub inside_bytes : n ≤ length s

abbrev pub InsideTurn : List ℕ → OneTurn → Type 0
InsideTurn s (Break a) = Unit {0}
InsideTurn s (Continue h) = Inside s h.so_far h.at

-- What is read from there on, after the equations with signs that stand before, says what the whole says.
pub record Onward (l : Lengths) (s : List ℕ) (x : Progress) (n : ℕ) : Type 0 where
  pub here : Inside s x n
  pub spelled : SpelledSofar s x n
  pub signs : List Equation
  pub held : signed x.sizes ≡ true → x.blocks.equations < x.sizes.variables → signs ≡ signs_to s n x.blocks.equations
  pub same : whole l s before 0 ≡ whole l s (inside (with_signs signs (sofar_of x))) n

abbrev pub Going : Lengths → List ℕ → OneTurn → Type 0
Going l s (Break a) = read_says a ≡ whole l s before 0
Going l s (Continue h) = Onward l s h.so_far h.at

-- How far it is to the end of the bytes.
abbrev pub left : List ℕ → OneTurn → ℕ
left s (Break a) = 0
left s (Continue h) = suc (length s - h.at)
