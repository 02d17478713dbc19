-- What the code holds of a model half read, as the rules have it. Definitions only.
use Rattle.std.specs.Prelude.{◌≡◌, Bool, true, ℕ, ◌<◌, Result, Ok, Err, Option, Some, None}
use Rattle.rules.specs.Answers.{number_of}
use Rattle.rules.specs.Load.{Sofar, State, inside, block_fits, moves_due, all_moving}
use Rattle.rules.specs.Model.{signed}
use Rattle.rules.specs.Records.{Turn, no, next, over}
use Rattle.rules.specs.declared.Refusal.{Refusal}
use Rattle.model_judge.specs.declared.progress.Progress.{Progress}
use Rattle.model_judge.specs.Kept.{sofar_by}
pub use Rattle.model_judge.specs.Kept.{Kept}

-- What has been read so far, of what the code holds.
abbrev pub sofar_of : Progress → Sofar
sofar_of x = sofar_by x.sizes x.live x.labels x.blocks x.moves

-- What one record does: one after which the model goes on, the end, and any.
abbrev pub next_says : Result Progress Refusal → Turn State
next_says (Err e) = no (number_of e)
next_says (Ok y) = next (inside (sofar_of y))

abbrev pub end_says : Result (Unit {0}) Refusal → Turn State
end_says (Err e) = no (number_of e)
end_says (Ok u) = over

abbrev pub judged_says : Result (Option Progress) Refusal → Turn State
judged_says (Err e) = no (number_of e)
judged_says (Ok (Some y)) = next (inside (sofar_of y))
judged_says (Ok None) = over

-- What has been read is inside the limits.
abbrev pub KeptIn : Progress → Type 0
KeptIn x = Kept (sofar_of x)

-- Labels are due; a block; an equation with a sign.
abbrev pub LabelsDue : Progress → Type 0
LabelsDue x = (x.blocks.count ≡ 0) × (x.blocks.equations ≡ 0)

abbrev pub BlockDue : Progress → Type 0
BlockDue x = (x.blocks.due ≡ 0) × (x.blocks.count < x.sizes.blocks)

abbrev pub SignDue : Progress → Type 0
SignDue x = (signed x.sizes ≡ true) × (x.blocks.equations < x.sizes.variables)

-- Moves are due: all equations have been read.
abbrev pub moves_due_in : Progress → Bool
moves_due_in x = moves_due (sofar_of x)

abbrev pub MovesDue : Progress → Type 0
MovesDue x = moves_due_in x ≡ true

-- A block of n variables fits; each state of a live model has a move.
abbrev pub block_fits_in : Progress → ℕ → Bool
block_fits_in x n = block_fits (sofar_of x) n

abbrev pub all_moving_in : Progress → Bool
all_moving_in x = all_moving (sofar_of x)
