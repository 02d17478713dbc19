-- The notes are the places of the deleted moves; struck there, closed up and cleared, the room is what the deletes make of it
-- one by one. Assumes nothing.
use mathlib.Core.Path.{sym, ap, ◌∙◌}
use mathlib.Core.List.{List}
use Prim.Native.Nat.{ℕ}
use lib.ListN.{take, drop, length, replicate, length-map, length-drop}
use Rattle.std.proofs.lemmas.Slice.{between_to_end}
use Rattle.std.proofs.lemmas.List.{drop-drop}
use Rattle.std.proofs.Common.{rules}
use mathlib.Core.Path.{◌≡◌}
use Prim.Native.Nat.{◌+◌, ◌-◌}
use lib.Seq.{length-take-le}
use Rattle.words.specs.Words.{change_of, changes_of}
use Rattle.batch_apply.specs.Striking.{struck_at, closing, cleared_in}
use Rattle.batch_apply.specs.Notes.{all_noted}
use Rattle.batch_apply.specs.OnePass.{one-pass}
use native.Mathlib.Omega.{arith}
use Rattle.batch_apply.proofs.delete_at_once.Goals as goal

pub slice_bounds-note_all-end-2 : goal.slice_bounds-note_all-end-2
slice_bounds-note_all-end-2 c = sym (length-take-le c.args.n c.args.moves.now c.requires.start.fits)

pub note_all-from-requires : goal.note_all-from-requires
note_all-from-requires c = let a = c.args in
    let r = c.requires in
    let k = length-take-le a.n a.moves.now r.start.fits in
    let s = length-map a.changes.now change_of in
    record {
      moves_value = (r.start.ascend, omega (arith, r.most));
      changes_in_bounds = omega (arith, r.short);
    }

pub returns : goal.returns
unfolding cleared_in
returns c = let a = c.args in
    let cs = changes_of a.changes.now in
    let s = c.requires.short in
    let fits = c.requires.start.fits in
    let noted = all_noted (take a.n a.moves.now) cs _ _ (omega arith) c.note_all-from.ensures.notes in
    let all = between_to_end c.note_all-from.new.places c.note_all-from.result 64 (omega (arith, c.note_all-from.auto.places)) in
    let struck = c.strike.ensures ∙ ap (λ (x : List ℕ). struck_at x a.moves.now) (all ∙ noted) in
    let closed = c.close_up-left.ensures.closed ∙ ap (closing a.n 0 0) struck in
    let left = c.close_up-left.result in
    let ms = c.close_up-left.new.moves in
    let e : left + (a.n - left) ≡ a.n = omega (arith, c.close_up-left.ensures.few) in
    let part : length (take (a.n - left) (drop left ms)) ≡ a.n - left =
    length-take-le (a.n - left) (drop left ms) (omega (arith, length-drop left ms, c.close_up-left.auto.moves, c.strike.auto.moves)) in
    let zeros : c.fill.new.self ≡ replicate (a.n - left) 0 = c.fill.ensures.after (λ y h. search rules) ∙ ap (λ (k : ℕ). replicate k 0) part in
    let rest : drop (a.n - left) (drop left ms) ≡ drop a.n ms = drop-drop (a.n - left) left ms ∙ ap (λ (j : ℕ). drop j ms) e in
    rw (zeros, rest) (one-pass cs a.n a.moves.now c.requires _ closed)
