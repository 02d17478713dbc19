-- What is known in the midst of a phase: which pairs have been marked, the values and marks of those that have and have
-- not; and that the values before the update can always be told from the values and the marks.
-- Assumes nothing.
use Rattle.std.specs.Prelude.{◌≡◌, Bool, List, ℕ, ◌≤◌, ◌<◌}
use Rattle.std.proofs.Math.Path.{refl, sym, ap}
use Rattle.std.proofs.Common.{◌∙◌, le_refl, arith}
use Rattle.std.proofs.Math.Logic.{inl, inr}
use Rattle.std.proofs.Math.Bool.{true, false, not}
use Rattle.std.proofs.Math.Decide.{dec_lt}
use Rattle.lists.specs.Marks.{mark_of}
use Rattle.lists.specs.Tests.{tell, no_way, ltb-in, ltb_no, cond_yes, cond_no}
use Rattle.lists.specs.Sets.{Sub, sub-no}
use Rattle.lists.specs.SmallestLaws.{Monotone, smallest-rule}
use Rattle.systems.specs.solution.System.{Values, shifted, move_to, move}
use Rattle.systems.specs.moving.Marks.{shift_of, settle_of, mark}
use Rattle.systems.specs.solution.Put.{put_in, put-off}
use Rattle.systems.specs.moving.SettleRule.{Drops, drops-out, drops-monotone}
use Rattle.systems.specs.moving.ShiftRule.{Shifts, shifts-out, shifts-monotone}
use Rattle.systems.specs.moving.MoveSolution.{move_to-later, move_to-done}
use Rattle.systems.specs.moving.MarkTurns.{shift-was, settle-was, move-still}
use Rattle.systems.specs.machine.Worklist.{Waiting}
use Rattle.systems.specs.machine.Machine.{own, past_of, past, next_mark}
use Rattle.systems.specs.machine.Phases.{Update, base, target, rule, turning, marks_to, marks_of, Doing}

module _ (u : Update) where
  open u use {F, L, M, old, fits, fits'}

  -- The more have turned, the more turn.
  pub rule-monotone : (ph : Bool) {i : ℕ} → i < F.blocks → Monotone F.pairs (rule u ph i)
  unfolding rule
  rule-monotone false {i} lt = shifts-monotone fits M lt old (move_to F L M old i)
  rule-monotone true {i} lt = drops-monotone fits' lt (base u true i)

  -- The rule asks for pairs of the block only.
  pub rule-here : (ph : Bool) (i : ℕ) (s : ℕ → Bool) (p : ℕ) → rule u ph i s p ≡ true → F.block p ≡ i
  unfolding rule
  rule-here false i s p e = (shifts-out F L M i old (move_to F L M old i) s p e).here
  rule-here true i s p e = (drops-out F M i (base u true i) s p e).here

  module _ {i : ℕ} (lt : i < F.blocks) (p : ℕ) where
    turning-rule : (ph : Bool) → turning u ph i p ≡ true → rule u ph i (turning u ph i) p ≡ true
    unfolding turning
    turning-rule ph e = smallest-rule (rule-monotone ph lt) p e

    -- A pair that turns is a pair of the block.
    pub turning-here : (ph : Bool) → turning u ph i p ≡ true → F.block p ≡ i
    turning-here ph e = rule-here ph i (turning u ph i) p (turning-rule ph e)

    -- A pair of another block does not turn.
    pub turning-off : (ph : Bool) → (F.block p ≡ i → ⊥) → turning u ph i p ≡ false
    turning-off ph n = no_way (turning u ph i p) (λ e. n (turning-here ph e))

    -- What is known of a pair that shifts.
    pub turning-shifts : turning u false i p ≡ true → Shifts F L M i old (move_to F L M old i) (turning u false i) p
    unfolding rule
    turning-shifts e = shifts-out F L M i old (move_to F L M old i) (turning u false i) p (turning-rule false e)

    -- What is known of a pair that settles.
    pub turning-drops : turning u true i p ≡ true → Drops F M i (base u true i) (turning u true i) p
    unfolding rule
    turning-drops e = drops-out F M i (base u true i) (turning u true i) p (turning-rule true e)

    -- A pair of the block has its old value until the block is moved.
    pub old-here : F.block p ≡ i → move_to F L M old i p ≡ old p
    old-here e = move_to-later fits fits' old i (omega arith) p (omega arith)

    -- Settling starts from the values before the shift at the other pairs.
    pub base-still : turning u false i p ≡ false → base u true i p ≡ move_to F L M old i p
    unfolding base turning rule shifted
    base-still e = let v = move_to F L M old i in put-off (F.great i) v (shifted F L M i old v) p e

  -- A pair of a block that has been moved has its mark.
  pub marks-before : (i p : ℕ) → F.block p < i → marks_to u i p ≡ mark F L M old p
  unfolding marks_to
  marks-before i p h = cond_yes (mark F L M old p) 0 (ltb-in (F.block p) i h)

  -- A pair of a later block has none.
  pub marks-later : (i p : ℕ) → i ≤ F.block p → marks_to u i p ≡ 0
  unfolding marks_to
  marks-later i p h = cond_no (mark F L M old p) 0 ((ltb_no (F.block p) i).1 h)

  past-done : (p : ℕ) → F.block p < F.blocks → past_of (own F p) (move F L M old p) (mark F L M old p) ≡ old p
  unfolding mark
  past-done p lt = go (shift_of F L M old p) (settle_of F L M old p) refl refl
    where
      go : (s t : Bool) → shift_of F L M old p ≡ s → settle_of F L M old p ≡ t → past_of (own F p) (move F L M old p) (mark_of s t) ≡ old p
      go true true e f = sym (shift-was F L M fits fits' old p lt e)
      go true false e f = sym (shift-was F L M fits fits' old p lt e)
      go false true e f = sym (settle-was F L M fits fits' old p lt e f)
      go false false e f = move-still F L M fits fits' old p lt f e

  -- Between two blocks the old values can be told.
  pub past-between : (i : ℕ) → i ≤ F.blocks → (p : ℕ) → past_of (own F p) (move_to F L M old i p) (marks_to u i p) ≡ old p
  unfolding move
  past-between i le p =
      let v = move_to F L M old i p in
      elim (dec_lt (F.block p) i) [
        | yes h ↦
            ap (past_of (own F p) v) (marks-before i p h)
            ∙ ap (λ (x : Bool). past_of (own F p) x (mark F L M old p)) (sym (move_to-done fits fits' old F.blocks i le (le_refl F.blocks) p h))
            ∙ past-done p (omega arith)
        | no h ↦ ap (past_of (own F p) v) (marks-later i p (omega arith)) ∙ move_to-later fits fits' old i le p (omega arith)
      ]

module _ {u : Update} {ph : Bool} {i : ℕ} {x t : ℕ → Bool} {rest : List ℕ} {v : Values} {w : Waiting} (d : Doing u ph i x t rest v w) where
  open u use {F}

  -- A pair that has been marked turns.
  pub marked-turns : Sub x (turning u ph i)
  unfolding turning
  marked-turns = d.work.stage.asked

  -- A pair that has been marked is a pair of the block.
  pub marked-here : (p : ℕ) → x p ≡ true → F.block p ≡ i
  marked-here p e = turning-here u d.lt p ph (marked-turns p e)

  -- A pair that has not been marked has not turned.
  pub unmarked-still : (p : ℕ) → x p ≡ false → t p ≡ false
  unmarked-still = sub-no d.work.stage.within

  -- A pair that has turned has the value that pairs turn to.
  pub turned-val : (p : ℕ) → t p ≡ true → v p ≡ target u ph i
  turned-val p e = d.vals p ∙ put_in (target u ph i) (base u ph i) t p e

  -- A pair that has not turned has the value that the phase started from.
  pub still-val : (p : ℕ) → t p ≡ false → v p ≡ base u ph i p
  still-val p e = d.vals p ∙ put-off (target u ph i) (base u ph i) t p e

  -- A pair that has been marked has its next mark.
  pub marked-mark : (p : ℕ) → x p ≡ true → w.marks p ≡ next_mark ph (marks_of u ph i p)
  marked-mark p e = d.work.stage.marked p ∙ cond_yes (next_mark ph (marks_of u ph i p)) (marks_of u ph i p) e

  -- A pair that has not been marked has the mark that the phase found.
  pub unmarked-mark : (p : ℕ) → x p ≡ false → w.marks p ≡ marks_of u ph i p
  unmarked-mark p e = d.work.stage.marked p ∙ cond_no (next_mark ph (marks_of u ph i p)) (marks_of u ph i p) e

module _ {u : Update} {i : ℕ} {x t : ℕ → Bool} {rest : List ℕ} {v : Values} {w : Waiting} where
  open u use {F, L, M, old, fits, fits'}

  -- At every point the value before the update can be told.
  pub past-doing : (ph : Bool) → Doing u ph i x t rest v w → (p : ℕ) → past F v w.marks p ≡ old p
  unfolding base marks_of
  past-doing false d p =
      elim (tell true (x p)) [
        | inl e ↦
            let s = turning-shifts u d.lt p (marked-turns d p e) in
            ap (past_of (own F p) (v p)) (marked-mark d p e) ∙ ap (λ (j : ℕ). not (F.great j)) s.here ∙ sym s.was
        | inr e ↦
            ap (past_of (own F p) (v p)) (unmarked-mark d p e) ∙ ap (λ (b : Bool). past_of (own F p) b (marks_to u i p)) (still-val d p (unmarked-still d p e))
            ∙ past-between u i (let h = d.lt in omega arith) p
      ]
  past-doing true d p =
      elim (tell true (turning u false i p)) [
        | inl s ↦
            let o = turning-shifts u d.lt p s in
            let same : not (own F p) ≡ old p = ap (λ (j : ℕ). not (F.great j)) o.here ∙ sym o.was in
            elim (tell true (x p)) [
              | inl e ↦ ap (past_of (own F p) (v p)) (marked-mark d p e ∙ ap (next_mark true) (cond_yes 1 (marks_to u i p) s)) ∙ same
              | inr e ↦ ap (past_of (own F p) (v p)) (unmarked-mark d p e ∙ cond_yes 1 (marks_to u i p) s) ∙ same
            ]
        | inr s ↦ elim (tell true (x p)) [
          | inl e ↦
              let h = marked-here d p e in
              ap (past_of (own F p) (v p))
              (marked-mark d p e ∙ ap (next_mark true) (cond_no 1 (marks_to u i p) s ∙ marks-later u i p (omega arith)))
              ∙ ap F.great h
              ∙ sym (sym (old-here u d.lt p h) ∙ sym (base-still u d.lt p s) ∙ (turning-drops u d.lt p (marked-turns d p e)).own)
          | inr e ↦
              ap (past_of (own F p) (v p)) (unmarked-mark d p e ∙ cond_no 1 (marks_to u i p) s)
              ∙ ap (λ (b : Bool). past_of (own F p) b (marks_to u i p)) (still-val d p (unmarked-still d p e) ∙ base-still u d.lt p s)
              ∙ past-between u i (let h = d.lt in omega arith) p
        ]
      ]
