-- The equations from this one on are left to write. Assumes nothing.
use Rattle.std.proofs.Common.{map, true}
use Rattle.rules.specs.Session.{unword}
use Rattle.model_write.specs.Spelled.{Writing, equation_bytes}
use Rattle.model_write.proofs.write_signs.Given as goal

abbrev pub invariant-loop-w : goal.invariant-loop-w
invariant-loop-w l = Writing l.initial.out l.start (equation_bytes true 0 (map unword l.equations) 0) l.out l.at (equation_bytes true 0 (map unword l.equations) l.w-index)
