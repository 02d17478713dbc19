-- By the byte of the phase. Assumes nothing.
use mathlib.Core.Path.{ap, ◌∙◌}
use Prim.Native.Nat.{ℕ, ◌+◌}
use native.Mathlib.Omega.{arith}
use lib.Dec.{ltb}
use Rattle.words.specs.WordLaws.{byte_small}
use Rattle.engine_turn.specs.MarkBytes.{free-byte}
use Rattle.engine_turn.proofs.is_free.Goals as goal

pub overflow_add-result : goal.overflow_add-result
overflow_add-result c = let k = byte_small c.args.settling in record { fits = omega arith }

pub returns : goal.returns
returns c = ap (λ (b : ℕ). ltb c.args.mark (1 + b)) c.from-settles.ensures ∙ free-byte c.args.settling c.args.mark
