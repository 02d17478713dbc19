-- A row of another block is passed, and one of the block is looked at. Assumes nothing.
use mathlib.Core.Path.{◌≡◌, refl, sym, ap, ◌∙◌, subst}
use Prim.Native.Nat.{ℕ, ◌*◌}
use native.Mathlib.Omega.{arith}
use Rattle.rules.specs.declared.Equation.{Equation}
use Rattle.words.specs.Words.{changes_of}
use Rattle.engine_index.specs.At.{at_labels}
use Rattle.engine_table.specs.Limits.{limits}
use Rattle.engine_phase.specs.Course.{On}
use Rattle.engine_phase.specs.Phase.{leads-on, leads-pass, job_in}
use Rattle.engine_phase.proofs.look_rows.Goals as goal

pub loop-y-init : goal.loop-y-init
loop-y-init c = let a = c.args in (
  (refl, (refl, refl)),
  (
    (λ i h. absurd (omega arith)),
    λ vs v o. subst (λ (k : ℕ). On (at_labels a.known.now a.labels.now) (changes_of a.changes.now) vs (job_in a.known.now.sizes a.block a.settling k a.values.now a.marks.now a.queue.now 0 0 v.0 v.1)) (let e : 0 ≡ 0 * a.known.now.sizes.states = omega arith in e) o,
  ),
)

pub look_row-tail-requires : goal.look_row-tail-requires
look_row-tail-requires c = let inv = c.loop-y.invariant in
    record {
      drawn = c.requires.drawn;
      changes_value = c.requires.changes_value;
      y_lt_variables = (omega (arith, c.loop-y-test.true, c.requires.drawn.long_equations), (c.requires.block_bound.0, (inv.0.1.1 ∙ c.requires.block_bound.1.0, omega (arith, inv.0.1.0, c.requires.block_bound.1.1))));
      packed = (inv.1.0, sym (ap (λ (e : Equation). e.block) c.equation_in-e.ensures) ∙ c.if-e-block.false);
      somewhere = leads-on inv.1.1 c.requires.somewhere;
    }

pub loop-y-preserved-then-e-block : goal.loop-y-preserved-then-e-block
loop-y-preserved-then-e-block c = let a = c.args in
    let inv = c.loop-y.invariant in
    let l = c.loop-y in (
      inv.0,
      (
        inv.1.0,
        λ vs v o. leads-pass c.requires.drawn (changes_of a.changes.now) a.block a.settling c.requires.block_bound.0 l.y (omega (arith, c.loop-y-test.true, c.requires.drawn.long_equations)) a.values.now l.marks l.queue l.tail
            (λ e. c.if-e-block.true (ap (λ (e : Equation). e.block) c.equation_in-e.ensures ∙ e)) vs v (inv.1.1 vs v o),
      ),
    )

pub loop-y-preserved : goal.loop-y-preserved
loop-y-preserved c = let inv = c.loop-y.invariant in (
  (c.look_row-tail.auto.marks ∙ inv.0.0, (c.look_row-tail.auto.queue ∙ inv.0.1.0, c.look_row-tail.auto.bad ∙ inv.0.1.1)),
  (c.look_row-tail.ensures.0, λ vs v o. c.look_row-tail.ensures.1 vs v (inv.1.1 vs v o)),
)

pub overflow_cast-x : goal.overflow_cast-x
overflow_cast-x c = let few = (limits c.requires.drawn).1.1.0 in record { fits = omega (arith, c.loop-y-test.true, c.requires.drawn.long_equations) }
