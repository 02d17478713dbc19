-- The loop keeps that the states below t have been gone through, whatever test the closure makes. Assumes nothing.
use Rattle.std.proofs.Common.{◌≡◌, Bool, ℕ, ◌<◌}
use Rattle.engine_index.specs.Targets.{Reached}
use Rattle.engine_index.proofs.chains.set_leading.Given as goal

abbrev pub invariant-loop-t : goal.invariant-loop-t
invariant-loop-t g l = (test : ℕ → Bool) → ((t : ℕ) (r : Bool) → t < l.chains.states → goal.F-post g l.passes t r → r ≡ test t)
    → Reached l.chains.moves.now l.fn.a.0 test l.v l.initial.bad l.t l.bad
