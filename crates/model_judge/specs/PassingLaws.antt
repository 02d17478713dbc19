-- Labels, equations and moves that stand one after another are passed, each by a turn of its own. Assumes nothing.
use Rattle.std.specs.Prelude.{◌≡◌, refl, not, List, ℕ, suc, ◌+◌, ◌-◌, ◌≤◌, ◌<◌, min, length, get_or, Some}
use Rattle.std.proofs.Common.{sym, subst, ap, ◌∙◌, arith}
use Rattle.lists.specs.Tests.{and_in, leb-is, ltb-is}
use Rattle.rules.specs.Limits.{most_moves}
use Rattle.rules.specs.Load.{State, inside, label_demands, equation_demands, move_demands, moving_with, after_label, after_equation, after_move}
use Rattle.rules.specs.Records.{Turn, next, numbers_of, widths}
use Rattle.rules.specs.Rooms.{Lengths}
use Rattle.rules.specs.declared.Record.{Record}
use Rattle.rules.specs.declared.Record.TheVariants as R
use Rattle.bytes_read.specs.PartsAt.{stands_at}
use Rattle.bytes_read.specs.Places.{le16, le32, move_at, body_len, record_of, record_at}
use Rattle.model_runs.specs.Runs.{GoodLabel, with_label, Labelled, GoodEquation, with_equation, Equated, GoodMove, with_move, Moved}
use Rattle.words.specs.Words.{pack_of}
use Rattle.model_runs.specs.Runs as Run
use Rattle.model_runs.specs.declared.LabelRun.{LabelRun}
use Rattle.model_runs.specs.declared.EquationRun.{EquationRun}
use Rattle.model_runs.specs.declared.MoveRun.{MoveRun}
use Rattle.model_judge.specs.Demands.{meets, source-back}
use Rattle.model_judge.specs.Due.{label-due, equation-due}
use Rattle.model_judge.specs.Going.{Inside}
use Rattle.model_judge.specs.Passing.{Passed, here, on, Forwarded, LabelsKept, EquationsKept, MovesKept, label_run, with_labels, block_end, equation_at, equation_run, with_equations, move_run, with_moves}
use Rattle.model_judge.specs.Kept.{Keeps, kept-prop}
use Rattle.model_judge.specs.Plain.{plain}
use Rattle.model_judge.specs.Progress.{sofar_of, KeptIn, LabelsDue, MovesDue}
use Rattle.model_judge.specs.RecordTurns.{step_kept, turned-next}
use Rattle.model_judge.specs.Turning.{Goes, OneTurn, go}
use Rattle.model_judge.specs.declared.progress.Progress.{Progress}

-- The record of a good label, of a good equation, and of a good move.
label-stands : (s : List ℕ) (n : ℕ) → n + 7 ≤ length s → get_or s n 0 ≡ 2 → record_at s n ≡ Some (R.Label (record { 0 = le16 s (n + 1) }) (le32 s (n + 3)), n + 7)
unfolding body_len widths record_of
label-stands s n h e =
    let a : n + 1 + 6 ≡ n + 7 = omega arith in
    let b : n + 1 + 2 ≡ n + 3 = omega arith in
    stands_at s n 2 6 e refl (omega arith) (omega arith) ∙ rw (a, b) refl

equation-stands : (s : List ℕ) (n : ℕ) → n + 4 ≤ length s → get_or s n 0 ≡ 4 → record_at s n ≡ Some (equation_at s n, n + 4)
unfolding body_len widths record_of
equation-stands s n h e =
    let a : n + 1 + 3 ≡ n + 4 = omega arith in
    let b : n + 1 + 1 ≡ n + 2 = omega arith in
    let c : n + 1 + 2 ≡ n + 3 = omega arith in
    stands_at s n 4 3 e refl (omega arith) (omega arith) ∙ rw (a, b, c) refl

move-stands : (s : List ℕ) (n : ℕ) → n + 6 ≤ length s → get_or s n 0 ≡ 5 → record_at s n ≡ Some (R.Move (move_at s (n + 1)), n + 6)
unfolding body_len widths record_of
move-stands s n h e =
    let a : n + 1 + 5 ≡ n + 6 = omega arith in
    stands_at s n 5 5 e refl (omega arith) (omega arith) ∙ rw a refl

-- One good label goes on, where labels are due.
pub label-goes : (l : Lengths) (s : List ℕ) (x : Progress) (n : ℕ) → LabelsDue x → GoodLabel s x.sizes (label_run x n)
    → (p : LabelsKept x (with_label s (label_run x n))) × Goes l s (inside (sofar_of x)) n (R.Label (record { 0 = le16 s (n + 1) }) (le32 s (n + 3))) (with_labels x (with_label s (label_run x n)) p) (n + 7)
unfolding plain
label-goes l s x n due g =
    let p = le16 s (n + 1) in
    let v = le32 s (n + 3) in
    let st : plain l (inside (sofar_of x)) (numbers_of (R.Label (record { 0 = p }) v)) ≡ next (inside (after_label (sofar_of x) p)) =
    sym (meets (label_demands (sofar_of x) p v) (next (inside (after_label (sofar_of x) p)))
    (label-due (sofar_of x) due, (ap not (and_in (and_in ((ltb-is p x.sizes.states).1 g.state) ((ltb-is 0 v).1 g.some)) g.low), (ap not ((leb-is x.labels p).1 g.order), tt)))) in
    let k = step_kept l (sofar_of x) (after_label (sofar_of x) p) (R.Label (record { 0 = p }) v) x.kept st in
    (k, turned-next l s (inside (sofar_of x)) n (n + 7) (R.Label (record { 0 = p }) v) (label-stands s n g.inside_bytes g.kind) (with_labels x (with_label s (label_run x n)) k) st k)

-- With fewer equations due, all that is kept is kept.
pub equations-kept : (x : Progress) (y : EquationRun) → y.due ≤ x.blocks.due → EquationsKept x y
equations-kept x y h =
    let k = x.kept in
    record {
      states = k.states;
      some_state = k.some_state;
      actions = k.actions;
      variables = k.variables;
      some = k.some;
      few_blocks = k.few_blocks;
      labels = k.labels;
      passed = omega arith;
      count = k.count;
      kind = k.kind;
      equations = omega arith;
      begun = omega arith;
      read = omega arith;
      remain = omega arith;
      moves = k.moves;
    }

-- Good equations lead on in the bytes, and fewer are due after them.
pub equated-on : (s : List ℕ) (x : Progress) (n : ℕ) (y : EquationRun) → Equated s x.sizes (block_end x) (equation_run x n) y → n ≤ length s → (y.due ≤ x.blocks.due) × (n ≤ y.at) × (y.at ≤ length s)
equated-on s x n y Run.none h = (omega arith, omega arith, h)
equated-on s x n y (Run.more z p g) h = let a = equated-on s x n z p h in let b = g.inside_bytes in (omega arith, omega arith, b)

-- After good equations the reading stands between two turns, as it did before them.
pub equations-inside : (s : List ℕ) (x : Progress) (n : ℕ) (y : EquationRun) (p : EquationsKept x y) → Inside s x n → Equated s x.sizes (block_end x) (equation_run x n) y → (y.due ≤ x.blocks.due) × (n ≤ y.at) × Inside s (with_equations x y p) y.at
equations-inside s x n y p i q =
    let a = equated-on s x n y q i.inside_bytes in
    let b = i.begun in
    (a.0, a.1, record { kept = p; begun = omega arith; inside_bytes = a.2 })

-- One good equation, where it is due.
pub equation-goes : (l : Lengths) (s : List ℕ) (x : Progress) (y : EquationRun) (p : EquationsKept x y) (q : EquationsKept x (with_equation y)) → y.due ≤ x.blocks.due → GoodEquation s x.sizes (block_end x) y
    → Goes l s (inside (sofar_of (with_equations x y p))) y.at (equation_at s y.at) (with_equations x (with_equation y) q) (y.at + 4)
unfolding plain
equation-goes l s x y p q less g =
    let w = with_equations x y p in
    let v = with_equations x (with_equation y) q in
    let n = y.at in
    let some = g.due in
    let count : suc (block_end x - y.due) ≡ block_end x - (y.due - 1) = omega arith in
    let ends : block_end x ≡ block_end x - y.due + y.due = omega arith in
    let st : plain l (inside (sofar_of w)) (numbers_of (equation_at s n)) ≡ next (inside (sofar_of v)) =
    sym (meets (equation_demands (sofar_of w) (get_or s (n + 1) 0) (get_or s (n + 2) 0) (get_or s (n + 3) 0)) (next (inside (after_equation (sofar_of w))))
    (equation-due (sofar_of w) g.due, (ap not g.fits, (ap not (rw ends at g.names), tt)))) ∙ rw count refl in
    turned-next l s (inside (sofar_of w)) n (n + 4) (equation_at s n) (equation-stands s n g.inside_bytes g.kind) v st q

-- One good move, where moves are due and there is room.
pub move-goes : (l : Lengths) (s : List ℕ) (x : Progress) (n : ℕ) → MovesDue x → x.moves.count < min most_moves l.moves → GoodMove s x.sizes (move_run x n)
    → (p : MovesKept x (with_move s (move_run x n))) × Goes l s (inside (sofar_of x)) n (R.Move (move_at s (n + 1))) (with_moves x (with_move s (move_run x n)) p) (n + 6)
unfolding plain
move-goes l s x n due room g =
    let m = move_at s (n + 1) in
    let q = pack_of m in
    let says : ℕ → Turn State = λ j. next (inside (record {
      sizes = x.sizes;
      live = x.live;
      labels = x.labels;
      blocks = (sofar_of x).blocks;
      signs = (sofar_of x).signs;
      moves = record { count = suc x.moves.count; least = suc q; moving = moving_with x.moves.moving j };
    })) in
    let st : plain l (inside (sofar_of x)) (numbers_of (R.Move m)) ≡ says m.source.0 =
    sym (meets (move_demands l (sofar_of x) m.source.0 m.action.0 m.target.0) (next (inside (after_move (sofar_of x) q)))
    (ap not due, (ap not g.fits, (ap not ((leb-is x.moves.least q).1 g.order), (ap not ((ltb-is x.moves.count (min most_moves l.moves)).1 room), tt)))))
    ∙ ap says (source-back (sofar_of x) m.source.0 m.action.0 m.target.0 x.kept g.fits) in
    let k : MovesKept x (with_move s (move_run x n)) = step_kept l (sofar_of x) _ (R.Move m) x.kept st in
    (k, turned-next l s (inside (sofar_of x)) n (n + 6) (R.Move m) (move-stands s n g.inside_bytes g.kind) (with_moves x (with_move s (move_run x n)) k) st k)

-- All of them.
pub labels-passed : (l : Lengths) (s : List ℕ) (x : Progress) (n : ℕ) (y : LabelRun) → LabelsDue x → Labelled s x.sizes (label_run x n) y
    → (p : LabelsKept x y) × Passed l s x n (with_labels x y p) y.at
labels-passed l s x n y due Run.none = (x.kept, here)
labels-passed l s x n y due (Run.more z h g) =
    let p = labels-passed l s x n z due h in
    let w = label-goes l s (with_labels x z p.0) z.at due g in
    (w.0, on (with_labels x z p.0) (with_labels x (with_label s z) w.0) z.at (z.at + 7) (R.Label (record { 0 = le16 s (z.at + 1) }) (le32 s (z.at + 3))) p.1 (λ e. omega arith) w.1)

-- A block of which no equation was read is as it was.
none-equated : (l : Lengths) (s : List ℕ) (x : Progress) (n k : ℕ) → x.blocks.equations ≡ k → (p : Keeps x.sizes x.live x.labels (record x.blocks { equations = k }) x.moves)
    → Passed l s x n (record x { blocks = record x.blocks { equations = k }; kept = p }) n
none-equated l s x n k e =
    subst (λ (k : ℕ). (p : Keeps x.sizes x.live x.labels (record x.blocks { equations = k }) x.moves) → Passed l s x n (record x { blocks = record x.blocks { equations = k }; kept = p }) n) e
    (λ p. subst (λ (q : KeptIn x). Passed l s x n (record x { kept = q }) n) (kept-prop (sofar_of x) x.kept p) here)

pub equations-passed : (l : Lengths) (s : List ℕ) (x : Progress) (n : ℕ) (y : EquationRun) (p : EquationsKept x y) → Inside s x n → Equated s x.sizes (block_end x) (equation_run x n) y → Passed l s x n (with_equations x y p) y.at
equations-passed l s x n y p i Run.none = none-equated l s x n (block_end x - x.blocks.due) (omega arith) p
equations-passed l s x n y p i (Run.more z h g) =
    let a = (equated-on s x n z h i.inside_bytes).0 in
    let q = equations-kept x z a in
    on (with_equations x z q) (with_equations x (with_equation z) p) z.at (z.at + 4) (equation_at s z.at) (equations-passed l s x n z q i h) (λ e. omega arith) (equation-goes l s x z q p a g)

pub moves-passed : (l : Lengths) (s : List ℕ) (x : Progress) (n : ℕ) (y : MoveRun) → MovesDue x → Moved s x.sizes (min most_moves l.moves) (move_run x n) y
    → (p : MovesKept x y) × Passed l s x n (with_moves x y p) y.at
moves-passed l s x n y due Run.none = (x.kept, here)
moves-passed l s x n y due (Run.more z h g) =
    let p = moves-passed l s x n z due h in
    let w = move-goes l s (with_moves x z p.0) z.at due g.0 g.1 in
    (w.0, on (with_moves x z p.0) (with_moves x (with_move s z) w.0) z.at (z.at + 6) (R.Move (move_at s (z.at + 1))) p.1 (λ e. omega arith) w.1)

-- Records passed after others are passed with them.
passed-more : (l : Lengths) (s : List ℕ) (x y : Progress) (n k : ℕ) (z : Progress) (j : ℕ) → Passed l s x n y k → Passed l s y k z j → Passed l s x n z j
passed-more l s x y n k z j p here = p
passed-more l s x y n k z j p (on v w i m r q f g) = on v w i m r (passed-more l s x y n k v i p q) f g

-- A turn moved on from where records were passed is moved on past both.
pub forwarded-more : (l : Lengths) (s : List ℕ) (r : Record) (x y : Progress) (n k : ℕ) (u : OneTurn) → Passed l s x n y k → Forwarded l s (go r y k) u → Forwarded l s (go r x n) u
forwarded-more l s r x y n k u p f = (f.0, f.1, f.2, passed-more l s x y n k f.0 f.1 p f.3)
