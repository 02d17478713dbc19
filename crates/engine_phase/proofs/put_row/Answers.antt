-- The row's pairs that turn are told, marked and queued, or none is. Assumes nothing.
use mathlib.Core.Path.{◌≡◌, refl, ap, ◌∙◌}
use native.Mathlib.Nat.{mul-le-mul_right}
use native.Mathlib.Omega.{arith}
use Prim.Native.Nat.{ℕ, ◌+◌, ◌-◌, ◌*◌}
use lib.ListN.{length, take, drop}
use Rattle.lists.specs.Lists.{bit, listed}
use Rattle.lists.specs.Tests.{not-out}
use Rattle.engine_rows.specs.RowLoops.{turn_at}
use Rattle.lists.specs.TableLaws.{listed-length}
use Rattle.engine_phase.specs.PutRow.{put-bits, put-none, put-hits, put-left}
use Rattle.std.specs.Prelude.{not}
use Rattle.engine_phase.proofs.put_row.Goals as goal

pub overflow_mul-at : goal.overflow_mul-at
overflow_mul-at c = let a = c.args in
    let inside = mul-le-mul_right a.sizes.states c.requires.y_lt_variables.0 in
    record { fits = omega arith }

pub overflow_add-end : goal.overflow_add-end
overflow_add-end c = let a = c.args in
    let inside = mul-le-mul_right a.sizes.states c.requires.y_lt_variables.0 in
    record { fits = omega arith }

pub slice_bounds-row_turns-end : goal.slice_bounds-row_turns-end
slice_bounds-row_turns-end c = let a = c.args in
    let inside = mul-le-mul_right a.sizes.states c.requires.y_lt_variables.0 in
    omega arith

pub returns-then-not-row_turns : goal.returns-then-not-row_turns
returns-then-not-row_turns c = let a = c.args in
    let same : a.y.0 * a.sizes.states + a.sizes.states - a.y.0 * a.sizes.states ≡ a.sizes.states = omega arith in
    put-none a.sizes a.y.0 a.values.now a.bad.now _ a.from _ a.sizes.states refl c.requires.values_len.1.1 (omega (arith, c.requires.y_lt_variables)) _ same c.row_turns.ensures.0 a.marks.now a.queue.now a.tail c.requires.packed.0 a.settling
    (c.row_turns.ensures.1 (not-out c.row_turns.result (ap not c.if-not-row_turns.true)))

pub slice_bounds-row_marks-end : goal.slice_bounds-row_marks-end
slice_bounds-row_marks-end c = let a = c.args in
    let inside = mul-le-mul_right a.sizes.states c.requires.y_lt_variables.0 in
    omega arith

pub row_queue-requires : goal.row_queue-requires
row_queue-requires c = let a = c.args in
    let same : a.y.0 * a.sizes.states + a.sizes.states - a.y.0 * a.sizes.states ≡ a.sizes.states = omega arith in
    let made : c.row_turns.new.bad ≡ listed 0 (length a.bad.now) (λ (s : ℕ). bit (turn_at (take (a.y.0 * a.sizes.states + a.sizes.states - a.y.0 * a.sizes.states) (drop (a.y.0 * a.sizes.states) a.values.now)) a.from a.bad.now s)) = c.row_turns.ensures.0 in
    let hits = put-hits a.sizes a.y.0 a.values.now a.bad.now _ a.from _ a.sizes.states refl c.requires.values_len.1.1 (omega (arith, c.requires.y_lt_variables)) _ same made in
    let long = ap length made ∙ listed-length 0 (length a.bad.now) _ in
    record {
      bits = put-bits a.sizes a.y.0 a.values.now a.bad.now _ a.from _ a.sizes.states refl c.requires.values_len.1.1 (omega (arith, c.requires.y_lt_variables)) _ same made;
      y_lt_most_variables = (omega (arith, c.requires.y_lt_variables), omega (arith, c.requires.y_lt_variables, c.requires.values_len.1.1));
      bad_in_bounds = omega (arith, c.requires.packed.1);
    }

pub returns : goal.returns
returns c = let a = c.args in
    let same : a.y.0 * a.sizes.states + a.sizes.states - a.y.0 * a.sizes.states ≡ a.sizes.states = omega arith in
    let made : c.row_turns.new.bad ≡ listed 0 (length a.bad.now) (λ (s : ℕ). bit (turn_at (take (a.y.0 * a.sizes.states + a.sizes.states - a.y.0 * a.sizes.states) (drop (a.y.0 * a.sizes.states) a.values.now)) a.from a.bad.now s)) = c.row_turns.ensures.0 in
    let inside = mul-le-mul_right a.sizes.states c.requires.y_lt_variables.0 in
    let hits = put-hits a.sizes a.y.0 a.values.now a.bad.now _ a.from _ a.sizes.states refl c.requires.values_len.1.1 (omega (arith, c.requires.y_lt_variables)) _ same made in
    put-left a.sizes a.y.0 a.values.now a.bad.now _ a.from _ a.sizes.states refl c.requires.values_len.1.1 (omega (arith, c.requires.y_lt_variables)) _ same made a.marks.now a.queue.now a.tail c.requires.packed.0 a.settling
    c.requires.y_lt_variables.0 (omega arith) (omega (arith, c.requires.values_len.1.0)) _ _ _ _ c.row_marks.ensures refl (omega (arith, c.requires.packed.1)) c.row_queue.auto.queue c.row_queue.ensures.0 c.row_queue.ensures.1
