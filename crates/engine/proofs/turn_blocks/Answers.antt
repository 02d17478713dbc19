use mathlib.Core.Path.{refl, sym, ◌∙◌, subst}
use mathlib.Core.Bool.{false}
use mathlib.Core.List.{List, map}
use Prim.Native.Nat.{ℕ}
use native.Mathlib.Omega.{arith}
use lib.ListN.{length-map}
use Rattle.rules.specs.Rooms.{pairs_of}
use Rattle.words.specs.Words.{changes_of}
use Rattle.engine_index.specs.At.{at_labels}
use Rattle.engine_table.specs.Table.{waiter}
use Rattle.engine_phase.specs.Course.{On, on-begins, on-ends, on-few}
use Rattle.engine_phase.specs.Phase.{job_in}
use Rattle.engine_phase.specs.Levels.{level-of, levelled-on}
use Rattle.engine.proofs.turn_blocks.Goals as goal

pub loop-i-init : goal.loop-i-init
loop-i-init c = let a = c.args in
    let t = at_labels a.known.now a.labels.now in
    let room = c.requires.bad_len.1 in (
      (omega arith, (refl, (refl, (refl, refl)))),
      (
        subst (λ (ms : List ℕ). On t (changes_of a.changes.now) a.values.now (job_in a.known.now.sizes 0 false 0 a.values.now ms a.queue.now 0 0 0 0)) (sym c.requires.started.1)
            (on-begins c.requires.started.0 (map (waiter a.known.now.sizes) a.queue.now) (let e = length-map a.queue.now (waiter a.known.now.sizes) in omega arith)),
        let l = c.requires.started.0.long in omega arith,
      ),
    )

pub phase-shifted-requires : goal.phase-shifted-requires
phase-shifted-requires c = let l = c.loop-i in
    let inv = l.invariant in
    let taken = c.loop-i-test.true in
    let count = c.count_blocks-blocks.ensures in
    record {
      drawn = c.requires.drawn;
      named = c.requires.named;
      block_bound = (omega arith, (inv.0.1.1.1.1 ∙ c.requires.bad_len.0, omega (arith, inv.0.1.1.1.0, c.requires.bad_len.1)));
      somewhere = record { start = c.args.values.now; index = l.settles; on = inv.1.0 };
      level = level-of c.args.known.now.sizes l.level c.args.values.now l.values inv.1.1;
    }

pub phase-settled-requires : goal.phase-settled-requires
phase-settled-requires c = let l = c.loop-i in
    let inv = l.invariant in
    let taken = c.loop-i-test.true in
    let count = c.count_blocks-blocks.ensures in
    record {
      drawn = c.requires.drawn;
      named = c.requires.named;
      block_bound = (omega arith, (c.phase-shifted.auto.bad ∙ inv.0.1.1.1.1 ∙ c.requires.bad_len.0, omega (arith, c.phase-shifted.auto.queue, inv.0.1.1.1.0, c.requires.bad_len.1)));
      somewhere = record { start = c.args.values.now; index = c.phase-shifted.result.visits; on = c.phase-shifted.ensures.0 c.args.values.now l.settles inv.1.0 };
      level = level-of c.args.known.now.sizes c.phase-shifted.result.level c.args.values.now c.phase-shifted.new.values
          (levelled-on c.args.known.now.sizes (pairs_of c.args.known.now.sizes) l.level c.phase-shifted.result.level c.args.values.now l.values c.phase-shifted.new.values inv.1.1 c.phase-shifted.ensures.1);
    }

pub loop-i-preserved : goal.loop-i-preserved
loop-i-preserved c = let l = c.loop-i in
    let inv = l.invariant in
    let taken = c.loop-i-test.true in
    let count = c.count_blocks-blocks.ensures in
    let a = c.args in (
      (omega arith, (c.phase-settled.auto.values ∙ c.phase-shifted.auto.values ∙ inv.0.1.0, (c.phase-settled.auto.marks ∙ c.phase-shifted.auto.marks ∙ inv.0.1.1.0, (c.phase-settled.auto.queue ∙ c.phase-shifted.auto.queue ∙ inv.0.1.1.1.0, c.phase-settled.auto.bad ∙ c.phase-shifted.auto.bad ∙ inv.0.1.1.1.1)))),
      (
        c.phase-settled.ensures.0 a.values.now c.phase-shifted.result.visits (c.phase-shifted.ensures.0 a.values.now l.settles inv.1.0),
        levelled-on a.known.now.sizes (pairs_of a.known.now.sizes) c.phase-shifted.result.level c.phase-settled.result.level a.values.now c.phase-shifted.new.values c.phase-settled.new.values
            (levelled-on a.known.now.sizes (pairs_of a.known.now.sizes) l.level c.phase-shifted.result.level a.values.now l.values c.phase-shifted.new.values inv.1.1 c.phase-shifted.ensures.1) c.phase-settled.ensures.1,
      ),
    )

pub overflow_cast-shift : goal.overflow_cast-shift
overflow_cast-shift c = let l = c.loop-i in
    let inv = l.invariant in
    let few = on-few c.requires.drawn (job_in c.args.known.now.sizes l.i false 0 l.values l.marks l.queue 0 0 l.shifts l.settles) inv.1.0 in
    record { fits = omega (arith, few.0) }

pub overflow_cast-settle : goal.overflow_cast-settle
overflow_cast-settle c = let l = c.loop-i in
    let inv = l.invariant in
    let few = on-few c.requires.drawn (job_in c.args.known.now.sizes l.i false 0 l.values l.marks l.queue 0 0 l.shifts l.settles) inv.1.0 in
    record { fits = omega (arith, few.1) }

pub returns : goal.returns
returns c = let l = c.loop-i in
    let inv = l.invariant in
    let count = c.count_blocks-blocks.ensures in
    let over = c.loop-i-test.false in
    let ended = on-ends (job_in c.args.known.now.sizes l.i false 0 l.values l.marks l.queue 0 0 l.shifts l.settles) inv.1.0 (omega arith) refl refl in
    (record { values_are = ended.values; marks_are = ended.marks; shift_is = ended.shift; settle_is = ended.settle }, inv.1.1)
