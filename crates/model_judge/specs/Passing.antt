-- Several records passed in one go, each as by a turn of its own. Definitions only.
use Rattle.std.specs.Prelude.{◌≡◌, List, ℕ, ◌+◌, ◌-◌, get_or}
use Rattle.rules.specs.Load.{inside}
use Rattle.rules.specs.Records.{numbers_of}
use Rattle.rules.specs.Rooms.{Lengths}
use Rattle.rules.specs.declared.Record.{Record}
use Rattle.rules.specs.declared.Record.TheVariants as R
use Rattle.model_runs.specs.declared.LabelRun.{LabelRun}
use Rattle.model_runs.specs.declared.EquationRun.{EquationRun}
use Rattle.model_runs.specs.declared.MoveRun.{MoveRun}
use Rattle.model_judge.specs.Kept.{Keeps}
use Rattle.model_judge.specs.Progress.{sofar_of}
use Rattle.model_judge.specs.Turning.{Goes, OneTurn, go}
use Rattle.model_judge.specs.declared.progress.Progress.{Progress}
use Rattle.std.specs.declared.ops.ControlFlow.TheVariants.{Continue, Break}

-- From one place to another each record goes on, and none is an equation with a sign: nothing is asked on the way.
pub data Passed (l : Lengths) (s : List ℕ) (x : Progress) (n : ℕ) : Progress → ℕ → Type 0 where
  here : Passed l s x n x n
  on : (y z : Progress) (k j : ℕ) (r : Record) → Passed l s x n y k → ((numbers_of r).kind ≡ 11 → ⊥) → Goes l s (inside (sofar_of y)) k r z j → Passed l s x n z j

-- A turn moved on: as it was where the reading is over, else past some records.
abbrev pub Forwarded : Lengths → List ℕ → OneTurn → OneTurn → Type 0
Forwarded l s (Break a) u = u ≡ Break a
Forwarded l s (Continue h) u = (y : Progress) × (k : ℕ) × (u ≡ go h.last y k) × Passed l s h.so_far h.at y k

-- The record of an equation that stands at a place.
abbrev pub equation_at : List ℕ → ℕ → Record
equation_at s n = R.Equation (get_or s (n + 1) 0) (get_or s (n + 2) 0) (get_or s (n + 3) 0)

-- The first variable after the block.
abbrev pub block_end : Progress → ℕ
block_end x = x.blocks.equations + x.blocks.due

-- Where labels, equations and moves are read, of what has been read so far; that the numbers with them are inside the limits; and
-- what has been read with them.
abbrev pub label_run : Progress → ℕ → LabelRun
label_run x n = record { labels = x.labels; at = n }

abbrev pub LabelsKept : Progress → LabelRun → Type 0
LabelsKept x y = Keeps x.sizes x.live y.labels x.blocks x.moves

abbrev pub with_labels : (x : Progress) (y : LabelRun) → LabelsKept x y → Progress
with_labels x y p = record x { labels = y.labels; kept = p }

abbrev pub equation_run : Progress → ℕ → EquationRun
equation_run x n = record { due = x.blocks.due; at = n }

abbrev pub EquationsKept : Progress → EquationRun → Type 0
EquationsKept x y = Keeps x.sizes x.live x.labels (record x.blocks { due = y.due; equations = block_end x - y.due }) x.moves

abbrev pub with_equations : (x : Progress) (y : EquationRun) → EquationsKept x y → Progress
with_equations x y p = record x { blocks = record x.blocks { due = y.due; equations = block_end x - y.due }; kept = p }

abbrev pub move_run : Progress → ℕ → MoveRun
move_run x n = record { moves = x.moves; at = n }

abbrev pub MovesKept : Progress → MoveRun → Type 0
MovesKept x y = Keeps x.sizes x.live x.labels x.blocks y.moves

abbrev pub with_moves : (x : Progress) (y : MoveRun) → MovesKept x y → Progress
with_moves x y p = record x { moves = y.moves; kept = p }
