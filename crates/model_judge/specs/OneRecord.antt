-- What one record does to what the code holds of a model half read, before any chain is asked. Definitions only.
use Rattle.std.specs.Prelude.{ℕ}
use Rattle.rules.specs.Load.{State, inside, go, label_demands, block_demands, equation_demands, signed_demands, move_demands, live_demands, end_demands, signed_of, after_label, after_block, after_equation, after_signed, after_move, after_live}
use Rattle.rules.specs.Records.{Turn, over, demand, numbers_of}
use Rattle.rules.specs.Rooms.{Lengths}
use Rattle.rules.specs.declared.Move.{Move}
use Rattle.rules.specs.declared.Record.{Record}
use Rattle.rules.specs.declared.State as Of
use Rattle.words.specs.Words.{pack_of}
use Rattle.model_judge.specs.Plain.{plain, without}
use Rattle.model_judge.specs.Progress.{sofar_of}
use Rattle.model_judge.specs.declared.progress.Progress.{Progress}

-- A label of a state with the set v.
abbrev pub label_step : Progress → Of.State → ℕ → Turn State
label_step x s v = go (label_demands (sofar_of x) s.0 v) (after_label (sofar_of x) s.0)

-- A block of kind k with n variables.
abbrev pub block_step : Progress → ℕ → ℕ → Turn State
block_step x k n = go (block_demands (sofar_of x) k n) (after_block (sofar_of x) k n)

-- An equation of a block: operator o and operands a and b.
abbrev pub equation_step : Progress → ℕ → ℕ → ℕ → Turn State
equation_step x o a b = go (equation_demands (sofar_of x) o a b) (after_equation (sofar_of x))

-- An equation with the sign k.
abbrev pub signed_step : Progress → ℕ → ℕ → ℕ → ℕ → Turn State
signed_step x k o a b = go (signed_demands (sofar_of x) (signed_of k o a b)) (without (after_signed (sofar_of x) (signed_of k o a b)))

-- A move, where the rooms have these lengths.
abbrev pub move_step : Lengths → Progress → Move → Turn State
move_step l x m = go (move_demands l (sofar_of x) m.source.0 m.action.0 m.target.0) (after_move (sofar_of x) (pack_of m))

-- The record of a live model, and the end.
abbrev pub live_step : Progress → Turn State
live_step x = go (live_demands (sofar_of x)) (after_live (sofar_of x))

abbrev pub end_step : Progress → Turn State
end_step x = demand (end_demands (sofar_of x)) over

-- Any record.
abbrev pub record_step : Lengths → Progress → Record → Turn State
record_step l x r = plain l (inside (sofar_of x)) (numbers_of r)
