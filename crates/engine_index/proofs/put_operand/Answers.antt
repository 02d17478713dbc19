-- The slot becomes the head of its chain, or is left out. Assumes nothing.
use mathlib.Core.Path.{sym, ap, ◌∙◌, subst}
use native.Mathlib.Omega.{arith}
use Rattle.rules.specs.declared.Equation.{Equation}
use Rattle.engine_index.specs.Operands.{NamedUpTo}
use Rattle.engine_index.specs.OperandLaws.{names-other, names-none, word_low, slot-put, slot-left}
use Rattle.engine_index.proofs.put_operand.Goals as goal

pub put_first-requires-clause-slot_bound : goal.put_first-requires-clause-slot_bound
put_first-requires-clause-slot_bound c = let i = c.requires.slot.inside in
    let f = c.requires.naming.few in
    let w = word_low c.args.sizes c.args.equations.now c.requires.slot c.requires.naming c.slot_word.result c.slot_word.ensures in
    (omega arith, w)

pub returns-then-there-here : goal.returns-then-there-here
returns-then-there-here c = let a = c.args in
    let e = sym (ap (λ (e : Equation). e.block) c.equation_in-there.ensures) ∙ c.if-there-here.true ∙ ap (λ (e : Equation). e.block) c.equation_in-here.ensures in
    let p = slot-put a.sizes a.equations.now c.requires.slot c.requires.naming c.slot_word.result a.operand.now c.if-has.true e c.slot_word.ensures c.requires.named_up_to in
    subst (NamedUpTo a.sizes a.equations.now _) (sym c.put_first.ensures) p

pub returns-else-there-here : goal.returns-else-there-here
returns-else-there-here c = let a = c.args in
    let e = names-other a.equations.now c.requires.slot c.if-has.true (λ f. c.if-there-here.false (ap (λ (e : Equation). e.block) c.equation_in-there.ensures ∙ f ∙ sym (ap (λ (e : Equation). e.block) c.equation_in-here.ensures))) in
    slot-left a.sizes a.equations.now c.requires.slot c.requires.naming a.operand.now e c.requires.named_up_to

pub returns-else-has : goal.returns-else-has
returns-else-has c = let a = c.args in
    slot-left a.sizes a.equations.now c.requires.slot c.requires.naming a.operand.now (names-none a.equations.now c.requires.slot c.if-has.false) c.requires.named_up_to
