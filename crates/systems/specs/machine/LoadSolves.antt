-- A load is the same machine: all pairs start at the own value of their block, and no leaning changes. What it ends in is
-- the solution.
-- Assumes nothing.
use Rattle.std.specs.Prelude.{◌≡◌, List, ℕ, ◌≤◌, ◌<◌, length, get_or}
use Rattle.std.proofs.Common.{sym, ap, ◌∙◌, subst, le_refl, arith}
use Rattle.std.proofs.Math.Path.{fun_ext}
use Rattle.lists.specs.Lists.{bit}
use Rattle.systems.specs.solution.System.{Frame, Leans, Values, Fits, Full, Solution, solve, shifted, move_to, move}
use Rattle.systems.specs.solution.Put.{put-keep}
use Rattle.systems.specs.solution.SolveSolution.{solve-solution, unique}
use Rattle.systems.specs.moving.MoveSolution.{move_to-later, moved-solution}
use Rattle.systems.specs.machine.Machine.{own, Finds}
use Rattle.systems.specs.machine.MachineMoves.{unit_count}
use Rattle.systems.specs.lists.ListMachine.{val_of, Test, Agrees, run_l, start_l}
use Rattle.systems.specs.lists.ListsMove.{lists-move}

module _ (F : Frame) (M : Leans) (fits : Fits F M) where
  -- The blocks' own values, moved with no leaning changed, are the solution.
  pub load-solution : Solution F M (move F M M (own F))
  load-solution =
      moved-solution fits fits (own F) (λ i h u a s p e k.
      let v = move_to F M M (own F) i in
      put-keep (F.great i) v (shifted F M M i (own F) v) p (move_to-later fits fits (own F) i (omega arith) p (omega arith) ∙ ap F.great e))

  -- The blocks' own values, moved so, are what `solve` finds.
  pub load-solve : (p : ℕ) → F.block p < F.blocks → move F M M (own F) p ≡ solve F M p
  load-solve = unique F M fits (move F M M (own F)) (solve F M) load-solution (solve-solution F M fits) F.blocks (le_refl F.blocks)

  -- The machine on lists, from the blocks' own values, ends in the solution.
  pub lists-solve : (on : ℕ → List ℕ) → Finds F M on → Full F → (vs queue : List ℕ) → length vs ≡ F.pairs
      → ((p : ℕ) → get_or vs p 0 ≤ 1) → F.pairs ≤ length queue → (test : Test) → Agrees F M M (val_of vs) test → ((p : ℕ) → val_of vs p ≡ own F p)
      → (n : ℕ) → unit_count F M M (own F) ≤ n → (p : ℕ) → p < F.pairs → get_or (run_l F M test on n (start_l F vs queue)).vals p 0 ≡ bit (solve F M p)
  lists-solve on finds full vs queue long bits room test agrees is n h p l =
      let e : ◌≡◌ {A = Values} (val_of vs) (own F) = fun_ext is in
      let k : unit_count F M M (val_of vs) ≤ n = subst (λ (v : Values). unit_count F M M v ≤ n) (sym e) h in
      (lists-move F M M on fits fits finds full vs queue long bits room test agrees n k).values p l
      ∙ ap (λ (v : Values). bit (move F M M v p)) e ∙ ap bit (load-solve p (full p l))
