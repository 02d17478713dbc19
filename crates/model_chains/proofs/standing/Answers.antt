use Rattle.std.proofs.Common.{ℕ, true, false, ap, sym, ◌∙◌, add-zero, arith, ◌+◌, ◌≤◌, ◌^◌}
use Rattle.lists.specs.Masks.{mask_lt}
use lib.Pow.{pow_mono}
use Rattle.model_chains.specs.Numbering.{stands_by, standing-more}
use Rattle.model_chains.proofs.standing.Goals as goal
use Rattle.model_chains.proofs.standing.Goals.{then-stands, else-stands}

pub overflow_add-set : goal.overflow_add-set
overflow_add-set c =
    let m = mask_lt c.loop-x.x (stands_by c.args.reach.now) in
    let h : 2 ^ c.loop-x.x ≤ 2 ^ 31 = pow_mono {i = c.loop-x.x} {j = 31} (omega arith) in
    let e = c.loop-x.invariant in
    omega arith

pub loop-x-preserved : goal.loop-x-preserved
loop-x-preserved c =
    let l = c.args.reach.now in
    let x = c.loop-x.x in
    let set = c.loop-x.set in
    elim c.if-stands.branch [
      | then-stands w ↦ w.set-is ∙ ap (λ (k : ℕ). set + k) w.only-set.ensures ∙ standing-more l x set true c.loop-x.invariant (sym w.if-stands.true ∙ c.stands.ensures)
      | else-stands w ↦ w.set-is ∙ sym (add-zero set) ∙ standing-more l x set false c.loop-x.invariant (sym w.if-stands.false ∙ c.stands.ensures)
    ]
