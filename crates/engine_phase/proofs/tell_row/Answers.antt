-- By the phase, one of two rows tells. Assumes nothing.
use Rattle.words.specs.Words.{changes_of}
use Rattle.engine_index.specs.At.{at_labels}
use Rattle.engine_phase.specs.LookRow.{tells-settle, tells-shift}
use Rattle.engine_phase.proofs.tell_row.Goals as goal

pub settle_row-requires : goal.settle_row-requires
settle_row-requires c = let lengths = c.requires.y_lt_variables in
    let small = c.requires.bits in
    record {
      drawn = c.requires.drawn;
      y_lt_variables = (lengths.0, (lengths.1.0, lengths.1.1.1));
      bits = small.0;
    }

pub returns-then-settling : goal.returns-then-settling
returns-then-settling c = let a = c.args in
    tells-settle (at_labels a.known.now a.labels.now) (changes_of a.changes.now) a.values.now a.marks.now _ a.y.0 a.known.now.sizes.states _ a.settling c.if-settling.true c.settle_row.ensures

pub shift_row-requires : goal.shift_row-requires
shift_row-requires c = let lengths = c.requires.y_lt_variables in
    let small = c.requires.bits in
    record {
      changes_value = c.requires.changes_value;
      y_lt_variables = lengths;
      bits = small.0;
    }

pub returns : goal.returns
returns c = let a = c.args in
    tells-shift (at_labels a.known.now a.labels.now) (changes_of a.changes.now) a.values.now a.marks.now _ a.y.0 a.known.now.sizes.states _ a.settling c.if-settling.false (c.shift_row.ensures a.labels.now c.requires.drawn (c.requires.told c.if-settling.false))
