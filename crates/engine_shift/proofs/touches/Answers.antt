-- What is found of the change, put together. Assumes nothing.
use Rattle.std.proofs.Common.{ℕ, Bool, ◌/◌, sym, ap, ◌∙◌, zero-add}
use Rattle.std.specs.Prelude.{◌&&◌, ◌||◌}
use Rattle.rules.specs.Moves.{target}
use Rattle.engine_shift.specs.Seeds.{of_kind, was_not, touches}
use Rattle.engine_shift.proofs.touches.Goals as goal

pub returns : goal.returns
unfolding touches
returns c = let a = c.args in
    let r = a.row in
    let g = a.kind.gaining in
    ap (λ (x : Bool). x && (g || c.was_not.result)) c.of_kind.ensures
    ∙ ap (λ (x : Bool). of_kind g a.kind.action.0 a.w && (g || x))
    (c.was_not.ensures
    ∙ ap (λ (n : ℕ). was_not r.values.now r.marks.now r.earlier a.b n) (c.target_of-t.ensures ∙ ap target c.move_of.ensures ∙ sym (zero-add (target (a.w / 2)))))
