-- `model_judge::on_move` meets its contract. Assumes nothing.
use mathlib.Core.Path.{◌≡◌, sym, ap, ◌∙◌}
use mathlib.Core.Bool.{Bool, false, not}
use mathlib.Core.List.{List}
use Prim.Native.Nat.{ℕ, suc}
use native.Mathlib.Numerals.{add-one}
use borrow.Author.Tests.{not-false}
use Rattle.lists.specs.Tests.{leb-is, leb_no}
use Rattle.rules.specs.Model.{move_ok}
use Rattle.rules.specs.Limits.{most_moves}
use Rattle.rules.specs.Moves.{source}
use Rattle.rules.specs.Records.{Turn, next}
use Rattle.rules.specs.Load.{State, inside, move_demands, moving_with, after_move}
use Rattle.words.specs.Words.{pack_of}
use Rattle.limits.specs.Lent.{lengths_by}
use Rattle.model_judge.specs.Progress.{sofar_of}
use Rattle.model_judge.specs.Demands.{fails, meets, below_both, source-back}
use Rattle.model_judge.proofs.on_move.Goals.{Start}
use Rattle.model_judge.proofs.on_move.Goals as goal

-- The demands on the move, its number, and what is read with it.
abbrev demands : Start → List (ℕ × Bool)
demands s =
    let a = s.args in move_demands (lengths_by a.l) (sofar_of a.x) a.m.source.0 a.m.action.0 a.m.target.0

abbrev number : Start → ℕ
number s = pack_of s.args.m

abbrev read-with : Start → Turn State
read-with s = next (inside (after_move (sofar_of s.args.x) (number s)))

pub returns-then-not-move_ok : goal.returns-then-not-move_ok
returns-then-not-move_ok c = fails 1 (demands (goal.at.returns-then-not-move_ok c).Start) (read-with (goal.at.returns-then-not-move_ok c).Start) (ap not c.requires.moves_due, rw c.move_ok.ensures at (ap not c.if-not-move_ok.true))

pub returns-then-not-x-q : goal.returns-then-not-x-q
returns-then-not-x-q c = fails 2 (demands (goal.at.returns-then-not-x-q c).Start) (read-with (goal.at.returns-then-not-x-q c).Start)
    (ap not c.requires.moves_due, (rw c.move_ok.ensures at (ap not c.if-not-move_ok.false), rw c.packed-q.ensures.0 at (ap not (leb_no _ _ c.if-not-x-q.true))))

pub returns-then-not-count-l : goal.returns-then-not-count-l
returns-then-not-count-l c = let a = c.args in
    fails 3 (demands (goal.at.returns-then-not-count-l c).Start) (read-with (goal.at.returns-then-not-count-l c).Start) (
      ap not c.requires.moves_due,
      (
        rw c.move_ok.ensures at (ap not c.if-not-move_ok.false),
        (rw c.packed-q.ensures.0 at (ap not ((leb-is _ _).1 c.if-not-x-q.false)), rw (below_both a.x.moves.count most_moves a.l.moves) at (ap not c.if-not-count-l.true)),
      ),
    )

pub returns : goal.returns
returns c = let a = c.args in
    let fine = move_ok a.x.sizes a.m.source.0 a.m.action.0 a.m.target.0 in
    let ok : not fine ≡ false = rw c.move_ok.ensures at (ap not c.if-not-move_ok.false) in
    let from : source (number (goal.at.returns c).Start) ≡ a.m.source.0 = source-back (sofar_of a.x) _ _ _ c.args.x.kept (not-false fine ok) in
    let x = sofar_of a.x in
    let says : ℕ → Turn State = λ k. next (inside (record {
      sizes = x.sizes;
      live = x.live;
      labels = x.labels;
      blocks = x.blocks;
      signs = x.signs;
      moves = record { count = suc x.moves.count; least = suc (number (goal.at.returns c).Start); moving = k };
    })) in
    rw (c.packed-q.ensures.0, add-one, add-one)
    (ap says (c.moving_with-moving.ensures ∙ ap (moving_with x.moves.moving) (sym from))
    ∙ meets (demands (goal.at.returns c).Start) (read-with (goal.at.returns c).Start)
    (ap not c.requires.moves_due, (ok, (rw c.packed-q.ensures.0 at (ap not ((leb-is _ _).1 c.if-not-x-q.false)), (rw (below_both a.x.moves.count most_moves a.l.moves) at (ap not c.if-not-count-l.false), tt)))))
