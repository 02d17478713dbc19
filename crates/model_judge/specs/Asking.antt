-- The chains, asked after the last equation with a sign. The equations are read back from the bytes: their records follow one
-- another, 5 bytes each, and end where the last one does. Definitions only.
use Rattle.std.specs.Prelude.{◌≡◌, Bool, true, cond, ◌&&◌, List, [], ◌∷◌, ℕ, zero, suc, ◌+◌, ◌-◌, ◌*◌, ◌≤◌, ◌<◌, eqb, ltb, length, get_or}
use Rattle.lists.specs.Lists.{lowest}
use Rattle.rules.specs.Load.{State, signed_of, inside, step, put, last}
use Rattle.rules.specs.Limits.{most_variables}
use Rattle.rules.specs.Model.{Model, signed, guilty}
use Rattle.rules.specs.declared.Equation.{Equation}
use Rattle.rules.specs.Records.{Outcome, run, numbers_of}
use Rattle.rules.specs.Rooms.{Lengths}
use Rattle.rules.specs.declared.Record.{Record}
use Rattle.rules.specs.declared.Refusal.TheVariants as Why
use Rattle.bytes_read.specs.PartsAt.{parts_at}
use Rattle.bytes_read.specs.Places.{record_at, Read}
use Rattle.model_judge.specs.Progress.{sofar_of, KeptIn}
use Rattle.model_judge.specs.Passing.{Forwarded}
use Rattle.model_judge.specs.Turning.{summary_after, moves_of, Turned, OneTurn, stop}
use Rattle.model_judge.specs.declared.progress.Progress.{Progress}
use Rattle.model_judge.specs.declared.Summary.{Summary}
use Rattle.model_judge.specs.declared.HalfRead.{HalfRead}
use Rattle.std.specs.declared.ops.ControlFlow.TheVariants.{Continue, Break}

-- What reading on in a state from a place comes to, chains and all.
unfoldable pub whole_on : Lengths → List ℕ → State → ℕ → Outcome Model
whole_on l s st at = run (step l) put last st (parts_at s at)

abbrev pub whole : Lengths → List ℕ → State → ℕ → Outcome Summary
whole l s st at = summary_after (moves_of st) (whole_on l s st at)

-- The equation with a sign whose record stands at a place, and those of k records from a place on.
abbrev pub sign_at : List ℕ → ℕ → Equation
sign_at s p = signed_of (get_or s (p + 1) 0) (get_or s (p + 2) 0) (get_or s (p + 3) 0) (get_or s (p + 4) 0)

abbrev pub signs_from : List ℕ → ℕ → ℕ → List Equation
signs_from s p zero = []
signs_from s p (suc k) = sign_at s p ∷ signs_from s (p + 5) k

-- The equations of the k records that end at a place.
abbrev pub signs_to : List ℕ → ℕ → ℕ → List Equation
signs_to s n k = signs_from s (n - 5 * k) k

-- k records of equations with signs end at a place, each with a sign of 0 or 1.
pub record Spelled (s : List ℕ) (n k : ℕ) : Type 0 where
  pub room : 5 * k ≤ n
  pub signs : (i : ℕ) → i < k → get_or s (n - 5 * k + 5 * i + 1) 0 ≤ 1

-- Chains are asked after the last equation with a sign.
abbrev pub is_signed : Record → Bool
is_signed r = eqb (numbers_of r).kind 11

abbrev pub asks_after : Record → Progress → Bool
asks_after r y = is_signed r && eqb y.blocks.equations y.sizes.variables

-- The lowest of the k equations that end at a place which lies on a closed chain that holds both signs; k where none does.
abbrev pub lowest_to : List ℕ → ℕ → ℕ → ℕ
lowest_to s n k = lowest k (guilty (signs_to s n k))

-- The turn after the question: a refusal at the record of the lowest guilty equation, or the turn as it was.
abbrev pub answered_turn : List ℕ → HalfRead → OneTurn
answered_turn s h =
    let k = h.so_far.sizes.variables in
    cond (ltb (lowest_to s h.at k) k) (stop Why.Tangled (h.at - 5 * (k - lowest_to s h.at k))) (Continue h)

abbrev pub asked_turn : List ℕ → OneTurn → OneTurn
asked_turn s (Break a) = Break a
asked_turn s (Continue h) = cond (asks_after h.last h.so_far) (answered_turn s h) (Continue h)

-- What the question is handed: where it is asked, the records stand in the bytes.
abbrev pub Askable : List ℕ → OneTurn → Type 0
Askable s (Break a) = Unit {0}
Askable s (Continue h) =
    (h.so_far.sizes.variables ≤ most_variables) × (h.at ≤ length s) × (asks_after h.last h.so_far ≡ true → Spelled s h.at h.so_far.sizes.variables)

-- In a model with signs, the records of the equations read so far end at the place of the next, up to the last of them.
abbrev pub SpelledSofar : List ℕ → Progress → ℕ → Type 0
SpelledSofar s x n = signed x.sizes ≡ true → x.blocks.equations < x.sizes.variables → Spelled s n x.blocks.equations

-- What one turn with its question is handed: what was read at the place of the turn before.
pub record Reading (s : List ℕ) (read : Read) (x : Progress) (n : ℕ) : Type 0 where
  pub kept : KeptIn x
  pub read_there : read ≡ record_at s n
  pub spelled : SpelledSofar s x n

abbrev pub Ready : List ℕ → Read → OneTurn → Type 0
Ready s read (Break a) = Unit {0}
Ready s read (Continue h) = Reading s read h.so_far h.at

-- What it answers: the turn of the reading without chains, with its question, moved on past labels or moves that follow.
abbrev pub Asked : Lengths → List ℕ → OneTurn → OneTurn → Type 0
Asked l s (Break a) u = u ≡ Break a
Asked l s (Continue h) u = (v : OneTurn) × Turned l s (inside (sofar_of h.so_far)) h.at v × Forwarded l s (asked_turn s v) u
