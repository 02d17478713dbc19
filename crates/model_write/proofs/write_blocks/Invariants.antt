-- The equations from this one on, after b blocks, are left to write. Assumes nothing.
use Rattle.std.proofs.Common.{map, false}
use Rattle.rules.specs.Session.{unword}
use Rattle.model_write.specs.Spelled.{Writing, equation_bytes}
use Rattle.model_write.proofs.write_blocks.Given as goal

abbrev pub invariant-loop-i : goal.invariant-loop-i
invariant-loop-i l = Writing l.initial.out l.start (equation_bytes false 0 (map unword l.equations) 0) l.out l.at (equation_bytes false l.b (map unword l.equations) l.i)
