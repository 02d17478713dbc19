-- The marks tell which values turned: what a pair had before and has after the move, by whether it shifted and whether it
-- settled.
-- Assumes nothing.
use Rattle.std.specs.Prelude.{◌≡◌, Bool, ℕ, zero, suc, ◌<◌}
use Rattle.std.proofs.Math.Path.{refl, sym, ap}
use Rattle.std.proofs.Common.{◌∙◌, le_refl, arith}
use Rattle.std.proofs.Math.Bool.{true, false, not}
use Rattle.lists.specs.Marks.{mark_of}
use Rattle.lists.specs.Tests.{not-not}
use Rattle.systems.specs.solution.System.{Frame, Leans, Values, Fits, settled, shifted, move_to, lifted, move}
use Rattle.systems.specs.moving.Marks.{shift_of, settle_of, mark}
use Rattle.systems.specs.solution.Put.{put_in, put-off}
use Rattle.systems.specs.moving.SettleRule.{settled-out}
use Rattle.systems.specs.moving.ShiftRule.{shifted-out}
use Rattle.systems.specs.moving.MoveSolution.{move_to-later, move_to-done}

-- x turned round, where r says so.
abbrev pub flip : Bool → Bool → Bool
flip true x = not x
flip false x = x

-- A mark of 1 or 3.
abbrev pub odd : ℕ → Bool
odd zero = false
odd (suc n) = not (odd n)

module _ (F : Frame) (L M : Leans) (fits : Fits F L) (fits' : Fits F M) (old : Values) (p : ℕ) (lt : F.block p < F.blocks) where
  -- The block of p.
  i : ℕ
  i = F.block p

  -- The values before it is moved.
  v : Values
  v = move_to F L M old i

  -- The values from which it settles.
  w : Values
  w = lifted F L M old i

  -- A pair that shifts had the other value.
  pub shift-was : shift_of F L M old p ≡ true → old p ≡ not (F.great (F.block p))
  unfolding shift_of i v
  shift-was e = (shifted-out fits M lt old v p e).was

  -- A pair that settles and does not shift had the block's own value.
  pub settle-was : shift_of F L M old p ≡ false → settle_of F L M old p ≡ true → old p ≡ F.great (F.block p)
  unfolding shift_of settle_of i v w
  settle-was e f =
      sym (move_to-later fits fits' old i (omega arith) p (le_refl i)) ∙ sym (put-off (F.great i) v (shifted F L M i old v) p e)
      ∙ (settled-out fits' lt w p f).own

  move-own : move F L M old p ≡ move_to F L M old (suc (F.block p)) p
  unfolding move i
  move-own = move_to-done fits fits' old F.blocks (suc i) lt (le_refl F.blocks) p (le_refl (suc i))

  -- A pair that shifts and does not settle has the block's own value.
  pub move-shifted : settle_of F L M old p ≡ false → shift_of F L M old p ≡ true → move F L M old p ≡ F.great (F.block p)
  unfolding move_to shift_of settle_of i v w
  move-shifted f e = move-own ∙ put-off (not (F.great i)) w (settled F M i w) p f ∙ put_in (F.great i) v (shifted F L M i old v) p e

  -- A pair that settles has the other value.
  pub move-settled : settle_of F L M old p ≡ true → move F L M old p ≡ not (F.great (F.block p))
  unfolding move_to shift_of settle_of i v w
  move-settled f = move-own ∙ put_in (not (F.great i)) w (settled F M i w) p f

  -- A pair that neither shifts nor settles has its old value.
  pub move-still : settle_of F L M old p ≡ false → shift_of F L M old p ≡ false → move F L M old p ≡ old p
  unfolding move_to shift_of settle_of i v w
  move-still f e =
      move-own ∙ put-off (not (F.great i)) w (settled F M i w) p f ∙ put-off (F.great i) v (shifted F L M i old v) p e
      ∙ move_to-later fits fits' old i (omega arith) p (le_refl i)

  -- A pair has turned exactly where its mark is 1 or 3.
  pub mark-turns : move F L M old p ≡ flip (odd (mark F L M old p)) (old p)
  unfolding mark i
  mark-turns = go (shift_of F L M old p) (settle_of F L M old p) refl refl
    where
      go : (s t : Bool) → shift_of F L M old p ≡ s → settle_of F L M old p ≡ t → move F L M old p ≡ flip (odd (mark_of s t)) (old p)
      go true true e f = move-settled f ∙ sym (shift-was e)
      go true false e f = move-shifted f e ∙ sym (not-not (F.great i)) ∙ ap not (sym (shift-was e))
      go false true e f = move-settled f ∙ ap not (sym (settle-was e f))
      go false false e f = move-still f e
