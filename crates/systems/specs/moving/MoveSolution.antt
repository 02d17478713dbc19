-- Moved by the rule, the solution of the old system becomes the solution of the new one: after the shift a block has the
-- block's own value wherever any assignment that supports itself has it, and settling finds the largest of these.
-- Assumes nothing.
use Rattle.std.specs.Prelude.{◌≡◌, ◌⊎◌, Bool, ◌&&◌, eqb}
use Rattle.std.proofs.Math.Path.{refl, sym, subst}
use Rattle.std.proofs.Common.{ap, ◌∙◌, eq-or-lt_of_le, le_of_suc-le-suc, not-suc-le-zero, le_refl, arith}
use Rattle.std.proofs.Math.Logic.{inl, inr}
use Rattle.std.proofs.Math.Bool.{true, false, not}
use Prim.Native.Nat.{ℕ, zero, suc, ◌≤◌, ◌<◌}
use Rattle.lists.specs.Marks.{put}
use Rattle.lists.specs.Lists.{is, elem}
use Rattle.lists.specs.Tests.{◌∈◌, tell, clash, not-out, is-out, is-in, and_in, and_left, and_right, eqb-in, eqb-off, elem_out}
use Rattle.systems.specs.solution.System.{Frame, Leans, Values, Fits, ev, eval, Agree, Solution, solve, shifted, move_to, lifted, move}
use Rattle.systems.specs.solution.Operands.{all-out, all_in, one_in, one_out, ev-mono}
use Rattle.systems.specs.solution.Put.{put_in, put-off, put-keep}
use Rattle.systems.specs.solution.Top.{Supported, Above, Top, operand-block, top-agree}
use Rattle.systems.specs.moving.SettleRule.{settled-keep}
use Rattle.systems.specs.moving.ShiftRule.{gains, loses, Why, seed, lean, risen, shifted_in_lem, shifted-keep}
use Rattle.systems.specs.solution.SolveSolution.{settle-top, tops-solution, solve-solution, unique, solution-tops}

-- Where the old values were largest in block i of the old system: an assignment u that supports itself in the new one has
-- the block's own value at no pair but those that had it and those that shift.
module _ {F : Frame} {L M : Leans} (fits : Fits F L) (fits' : Fits F M) {i : ℕ} (lt : i < F.blocks) (old v : Values)
    (top : Top F L i old) (same : (p : ℕ) → F.block p ≡ i → v p ≡ old p)
    (u : Values) (a : Agree F i u (put (F.great i) v (shifted F L M i old v))) (self : Supported F M i u) where
  -- The block's own value.
  b : Bool
  b = F.great i

  -- The pairs that shift.
  s : ℕ → Bool
  s = shifted F L M i old v

  -- The pairs that have b in u, and do not shift.
  new : ℕ → Bool
  new q = eqb (F.block q) i && (is b (u q) && not (s q))

  new_in : (q : ℕ) → F.block q ≡ i → u q ≡ b → s q ≡ false → new q ≡ true
  unfolding b s new
  new_in q e h k = and_in (eqb-in (F.block q) i e) (and_in (is-in b (u q) h) (ap not k))

  -- A pair that does not shift has no reason to.
  still : (r : ℕ) → s r ≡ false → F.block r ≡ i → old r ≡ not b → Why F L M i old v s r → ⊥
  unfolding b s
  still r k e o w = clash true (s r) (shifted_in_lem fits M lt old v r (record { here = e; was = o; why = w })) k

  module _ (r : ℕ) (here : F.block r ≡ i) (was : old r ≡ not b) (h : u r ≡ b) (k : s r ≡ false) where
    -- An operand of a new pair that has b in u had b, or is new.
    operand : (q : ℕ) → q ∈ M r → u q ≡ b → put b old new q ≡ b
    unfolding b s
    operand q m x =
        elim (operand-block fits' here m) [
          | inl c ↦ elim (tell false (s q)) [
            | inl y ↦ put_in b old new q (new_in q c x y)
            | inr y ↦ absurd (still r k here was (lean q m y))
          ]
          | inr c ↦ elim (tell b (old q)) [
            | inl y ↦ put-keep b old new q y
            | inr y ↦ absurd (still r k here was (risen q m (record { before = c; was = y; now = sym (a q c ∙ shifted-keep fits M lt old v q (λ z. omega arith)) ∙ x })))
          ]
        ]

    new-supported : eval F L (put b old new) r ≡ b
    unfolding b s
    new-supported = go (tell b (F.kind r))
      where
        given : ev (F.kind r) u (M r) ≡ b
        given = self r here h

        go : (F.kind r ≡ b) ⊎ (F.kind r ≡ not b) → ev (F.kind r) (put b old new) (L r) ≡ b
        go (inl e) =
            rw e (all_in b (put b old new) (L r) (λ q m. elim (tell b (old q)) [
              | inl y ↦ put-keep b old new q y
              | inr y ↦ elim (tell true (elem q (M r))) [
                | inl z ↦ operand q (elem_out q (M r) z) (all-out b u (elem_out q (M r) z) (rw e at given))
                | inr z ↦ absurd (still r k here was (seed (loses q e m z y)))
              ]
            ]))
        go (inr e) =
            let t = one_out b u (M r) (rw e at given) in
            rw e (elim (tell true (elem t.0 (L r))) [
              | inl z ↦ one_in b (put b old new) (elem_out t.0 (L r) z) (operand t.0 t.1 t.2)
              | inr z ↦ absurd (still r k here was (seed (gains t.0 e t.1 z)))
            ])

  -- The old values and the new pairs together support themselves in the old system.
  both-supported : Supported F L i (put b old new)
  unfolding b s new
  both-supported r here h =
      elim (tell b (old r)) [
        | inl o ↦ ev-mono (F.kind r) b old (put b old new) (L r) (λ q m y. put-keep b old new q y) (top.supported r here o)
        | inr o ↦ elim (tell true (new r)) [
          | inr n ↦ absurd (clash b (old r) (sym (put-off b old new r n) ∙ h) o)
          | inl n ↦
              let n' = and_right (eqb (F.block r) i) (is b (u r) && not (s r)) n in
              new-supported r here o (is-out b (u r) (and_left (is b (u r)) (not (s r)) n')) (not-out (s r) (and_right (is b (u r)) (not (s r)) n'))
        ]
      ]

  new-off : Agree F i (put b old new) old
  unfolding new
  new-off q l = put-off b old new q (ap (λ (x : Bool). x && (is b (u q) && not (s q))) (eqb-off (F.block q) i l))

  -- After the shift the block has its own value wherever u has it.
  shift-above : Above F i u (put (F.great i) v (shifted F L M i old v))
  unfolding b s
  shift-above p e h =
      elim (tell true (s p)) [
        | inl k ↦ put_in b v s p k
        | inr k ↦ put-off b v s p k ∙ same p e ∙ top.largest (put b old new) new-off both-supported p e (put_in b old new p (new_in p e h k))
      ]

module _ {F : Frame} {L M : Leans} (fits : Fits F L) (fits' : Fits F M) (old : Values) where
  -- One block more leaves the values of other blocks.
  move_to-keep : (i : ℕ) → i < F.blocks → (p : ℕ) → (F.block p ≡ i → ⊥) → move_to F L M old (suc i) p ≡ move_to F L M old i p
  unfolding move_to
  move_to-keep i h p n = settled-keep fits' h (lifted F L M old i) p n ∙ shifted-keep fits M h old (move_to F L M old i) p n

  -- The blocks from i on are as they were.
  pub move_to-later : (i : ℕ) → i ≤ F.blocks → (p : ℕ) → i ≤ F.block p → move_to F L M old i p ≡ old p
  unfolding move_to
  move_to-later zero h p l = refl
  move_to-later (suc i) h p l = move_to-keep i h p (λ z. omega arith) ∙ move_to-later i (omega arith) p (omega arith)

  -- A block that has been moved stays as it is.
  pub move_to-done : (j i : ℕ) → i ≤ j → j ≤ F.blocks → (p : ℕ) → F.block p < i → move_to F L M old j p ≡ move_to F L M old i p
  move_to-done zero i h k p l = absurd (omega arith)
  move_to-done (suc j) i h k p l =
      elim (eq-or-lt_of_le h) [
        | inl e ↦ ap (λ (n : ℕ). move_to F L M old n p) (sym e)
        | inr e ↦ move_to-keep j k p (λ z. omega arith) ∙ move_to-done j i (le_of_suc-le-suc e) (omega arith) p l
      ]

module _ {F : Frame} {L M : Leans} (fits : Fits F L) (fits' : Fits F M) (old : Values)
    (above : (i : ℕ) → i < F.blocks → (u : Values) → Agree F i u (lifted F L M old i) → Supported F M i u → Above F i u (lifted F L M old i)) where
  -- Where after each shift the block has its own value wherever an assignment that supports itself has it, the blocks
  -- that have been moved are largest.
  move_to-top : (i : ℕ) → i ≤ F.blocks → (j : ℕ) → j < i → Top F M j (move_to F L M old i)
  unfolding move_to
  move_to-top zero h j l = absurd (not-suc-le-zero l)
  move_to-top (suc i) h j l =
      elim (eq-or-lt_of_le (le_of_suc-le-suc l)) [
        | inl e ↦ subst (λ (k : ℕ). Top F M k (move_to F L M old (suc i))) (sym e) (settle-top fits' h (lifted F L M old i) (above i h))
        | inr e ↦ top-agree fits' (move_to F L M old (suc i)) (λ p k. move_to-keep fits fits' old i h p (λ x. omega arith)) (move_to-top i (omega arith) j e)
      ]

  -- The values so moved are the solution.
  pub moved-solution : Solution F M (move F L M old)
  unfolding move
  moved-solution = tops-solution F M fits' (move_to F L M old F.blocks) (move_to-top F.blocks (le_refl F.blocks))

module _ (F : Frame) (L M : Leans) (fits : Fits F L) (fits' : Fits F M) (old : Values) (sol : Solution F L old) where
  -- The old solution, moved, is the new solution.
  pub move-solution : Solution F M (move F L M old)
  move-solution =
      moved-solution fits fits' old (λ i h. shift-above fits fits' h old (move_to F L M old i) (solution-tops F L fits old sol i h)
      (λ p c. move_to-later fits fits' old i (omega arith) p (omega arith)))

  -- The old solution, moved, is what `solve` finds for the new system.
  pub move-solve : (p : ℕ) → F.block p < F.blocks → move F L M old p ≡ solve F M p
  move-solve = unique F M fits' (move F L M old) (solve F M) move-solution (solve-solution F M fits') F.blocks (le_refl F.blocks)
