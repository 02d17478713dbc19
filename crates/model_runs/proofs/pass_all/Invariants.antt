-- `model_runs::pass_all` meets its contract. The loop's invariant: so many moves lie behind, whatever they are, and where all of them are
-- good, good moves lead from the start to here. Assumes nothing.
use Rattle.std.proofs.Common.{◌≡◌, true, ℕ, ◌+◌, ◌*◌, ◌≤◌}
use Rattle.model_runs.specs.Runs.{Moved}
use Rattle.model_runs.proofs.pass_all.Given as goal

abbrev pub invariant-loop : goal.invariant-loop
invariant-loop l = (l.y.at ≡ l.initial.y.at + 6 * l.counter) × (l.y.moves.count ≡ l.initial.y.moves.count + l.counter)
    × ((room : ℕ) → l.initial.y.moves.count + l.n ≤ room → l.good ≡ true → Moved l.bytes l.z room l.initial.y l.y)
