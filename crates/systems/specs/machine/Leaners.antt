-- Who leans on a pair: what any list with the right counts holds, and one such list.
-- Assumes nothing.
use Rattle.std.specs.Prelude.{◌≡◌, refl, Bool, true, false, ◌&&◌, cond, List, ℕ, ◌<◌, eqb}
use Rattle.std.proofs.Common.{sym, ap, ◌∙◌, subst, inl, inr, arith}
use Rattle.std.proofs.Math.Decide.{ℕ_discrete}
use Rattle.lists.specs.Lists.{count}
use Rattle.lists.specs.Tests.{◌∈◌, tell, and_in, and_left, and_right, and-true, and_no, eqb-out, eqb-in, eqb_same, eqb_no, cond_yes, cond_no}
use Rattle.lists.specs.Counts.{count-in, count-out, count-ext, count_none, times, times-in, times-out}
use Rattle.systems.specs.solution.System.{Frame, Leans}
use Rattle.systems.specs.machine.Machine.{Finds}

module _ {F : Frame} {M : Leans} {on : ℕ → List ℕ} (finds : Finds F M on) (q p : ℕ) (lt : F.block q < F.blocks) where
  -- A pair of q's block that leans on q is listed.
  pub found_in : q ∈ M p → F.block p ≡ F.block q → p ∈ on q
  found_in m e =
      let k = finds.counted q p lt in
      let h = count-in (λ r. eqb r q && eqb (F.block r) (F.block p)) m (and_in (eqb_same q) (eqb-in (F.block q) (F.block p) (sym e))) in
      times-out p (on q) (omega arith)

  -- A pair that is listed is one of q's block that leans on q.
  pub found-out : p ∈ on q → (F.block p ≡ F.block q) × q ∈ M p
  found-out m =
      let k = finds.counted q p lt in
      let h = times-in p m in
      let c = count-out (λ r. eqb r q && eqb (F.block r) (F.block p)) (M p) (omega arith) in
      let r = c.0 in
      let e = eqb-out r q (and_left (eqb r q) (eqb (F.block r) (F.block p)) c.2) in (
        sym (eqb-out (F.block r) (F.block p) (and_right (eqb r q) (eqb (F.block r) (F.block p)) c.2)) ∙ ap F.block e,
        subst (λ (y : ℕ). y ∈ M p) e c.1,
      )

-- The entries of a list that are q, and in p's block: all that are q if p is in q's block, and none if not.
pub has-count : (F : Frame) (q p : ℕ) (l : List ℕ)
    → count (λ r. eqb r q && eqb (F.block r) (F.block p)) l ≡ cond (eqb (F.block p) (F.block q)) (times q l) 0
has-count F q p l =
    elim (ℕ_discrete (F.block p) (F.block q)) [
      | yes e ↦
          count-ext here (λ r. eqb r q) l (λ r. one r true (λ z. eqb-in (F.block r) (F.block p) (ap F.block z ∙ sym e)) ∙ and-true (eqb r q))
          ∙ sym (cond_yes (times q l) 0 (eqb-in (F.block p) (F.block q) e))
      | no e ↦
          count_none here l (λ r. one r false (λ z. (eqb_no (F.block r) (F.block p)).1 (λ w. e (sym w ∙ ap F.block z))) ∙ and_no (eqb r q) refl)
          ∙ sym (cond_no (times q l) 0 ((eqb_no (F.block p) (F.block q)).1 e))
    ]
  where
    here : ℕ → Bool
    here r = eqb r q && eqb (F.block r) (F.block p)

    one : (r : ℕ) (b : Bool) → (r ≡ q → eqb (F.block r) (F.block p) ≡ b) → here r ≡ (eqb r q && b)
    one r b f =
        elim (tell true (eqb r q)) [
          | inl e ↦ ap (λ (y : Bool). eqb r q && y) (f (eqb-out r q e))
          | inr e ↦ ap (λ (y : Bool). y && eqb (F.block r) (F.block p)) e ∙ sym (ap (λ (y : Bool). y && b) e)
        ]
