-- The loop's invariant: what was found so far, and what is asked of the equations from i on, is what is asked of all. Assumes nothing.
use Rattle.std.proofs.Common.{◌≡◌, ◌&&◌, map, drop}
use Rattle.rules.specs.Model.{equations_ok}
use Rattle.rules.specs.Session.{unword}
use Rattle.session_check.proofs.equations_ok.Given as goal

abbrev pub invariant-loop-i : goal.invariant-loop-i
invariant-loop-i l = (l.ok && equations_ok l.sizes l.i l.begun.blocks l.begun.kind (drop l.i (map unword l.equations))) ≡ equations_ok l.sizes 0 0 0 (map unword l.equations)
