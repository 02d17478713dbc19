-- By the byte of the phase. Assumes nothing.
use mathlib.Core.Path.{ap, ◌∙◌}
use Prim.Native.Nat.{ℕ, ◌+◌, ◌*◌, ◌-◌}
use native.Mathlib.Omega.{arith}
use Rattle.words.specs.WordLaws.{byte_small}
use Rattle.engine_turn.specs.MarkBytes.{free-small, next-byte}
use Rattle.engine_turn.proofs.next_mark.Goals as goal

pub overflow_mul-result : goal.overflow_mul-result
overflow_mul-result c = let k = byte_small c.args.settling in record { fits = omega arith }

pub overflow_add-result : goal.overflow_add-result
overflow_add-result c = let k = byte_small c.args.settling in record { fits = omega arith }

pub overflow_sub-result : goal.overflow_sub-result
overflow_sub-result c = let k = free-small c.args.settling c.args.mark c.requires in omega arith

pub returns : goal.returns
returns c = ap (λ (b : ℕ). 1 + 2 * b - c.args.mark) c.from-settles.ensures ∙ next-byte c.args.settling c.args.mark c.requires
