-- The kind is the own value; the other is one less it. Assumes nothing.
use mathlib.Core.Path.{sym, ap, ◌∙◌}
use mathlib.Core.Bool.{Bool}
use lib.Dec.{eqb}
use Rattle.lists.specs.Lists.{bit}
use Rattle.engine_phase.specs.PutRow.{turns_from}
use Rattle.engine_turn.specs.TurnRuns.{bit-of}
use Rattle.engine_phase.specs.LookRow.{other_byte}
use Rattle.engine_phase.proofs.turns_from.Goals as goal

pub returns-then-settling : goal.returns-then-settling
returns-then-settling c = bit-of c.args.kind c.requires ∙ ap (λ (b : Bool). bit (turns_from b (eqb c.args.kind 1))) (sym c.if-settling.true)

pub returns : goal.returns
returns c = other_byte c.args.kind c.requires ∙ ap (λ (b : Bool). bit (turns_from b (eqb c.args.kind 1))) (sym c.if-settling.false)
