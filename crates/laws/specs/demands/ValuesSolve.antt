-- The values that are found for a model are its values, and it has no others: block by block the smallest or the largest
-- assignment that solves the equations. Least and greatest by one proof, that of the model's system. Assumes nothing.
use Rattle.std.proofs.Math.Path.{◌≡◌, refl, sym, ap, ap₂, fun_ext}
use Rattle.std.proofs.Common.{◌∙◌, subst, inl, inr, le_refl, arith}
use Rattle.std.proofs.Math.Bool.{Bool, false}
use Rattle.std.specs.Prelude.{true, not, ◌&&◌, eqb}
use mathlib.Core.List.Memᴰ
use mathlib.Core.List.{List, [], ◌∷◌}
use Prim.Native.Nat.{ℕ, zero, suc, ◌≤◌, ◌<◌}
use Rattle.lists.specs.Marks.{put}
use Rattle.lists.specs.Lists.{is}
use Rattle.lists.specs.Smallest.{Rule, table, at, smallest}
use Rattle.lists.specs.Tests.{◌∈◌, tell, clash, eqb-out, eqb_no}
use Rattle.lists.specs.TableLaws.{table_is, table-past}
use Rattle.systems.specs.solution.System.{ev, drops, settled}
use Rattle.systems.specs.solution.System as S
use Rattle.systems.specs.solution.SolveSolution.{solve-solution, solution-largest, solution-smallest, unique}
use Rattle.rules.specs.Model.{Model, blocks_of}
use Rattle.rules.specs.Rooms.{pairs_of}
use Rattle.rules.specs.Values.{Values, block_of, greatest, leanings, gives, Solves, Agree, Solution, settles, fresh, solve_to, solve}
use Rattle.laws.specs.model.ModelSystem.{frame, gives-eval, block-past, block_inside, Sound, pairs-full, model-fits}

-- What the rule asks for lies below its end.
pub smallest-past : (n : ℕ) (rule : Rule) (p : ℕ) → n ≤ p → at (smallest n rule) p ≡ false
unfolding smallest
smallest-past n rule p h = table-past n _ p h

-- A pair past the count is in no block.
pub no_block : (m : Model) (i p : ℕ) → i < blocks_of m → pairs_of m.sizes ≤ p → eqb (block_of m p) i ≡ false
no_block m i p h k = (eqb_no (block_of m p) i).1 (λ e. let b = block-past m p k in omega arith)

module _ (m : Model) where
  -- Settling asks for the same pairs in the model and in its system.
  pub settles-drops : (i : ℕ) → i < blocks_of m → (v : Values) → ◌≡◌ {A = Rule} (settles m i v) (drops (frame m) (leanings m) i v)
  unfolding settles drops
  settles-drops i lt v = fun_ext (λ s. fun_ext (λ p. same s p))
    where
      b : Bool
      b = greatest m i

      same : (s : ℕ → Bool) (p : ℕ) → settles m i v s p ≡ drops (frame m) (leanings m) i v s p
      same s p =
          elim (tell true (eqb (block_of m p) i)) [
            | inl e ↦
                let h = block_inside m p (let k = eqb-out (block_of m p) i e in omega arith) in
                ap (λ (x : Bool). eqb (block_of m p) i && (is (greatest m i) (v p) && is (not (greatest m i)) x)) (gives-eval m (put (not (greatest m i)) v s) p h)
            | inr e ↦ rw e refl
          ]

  solve-past : (i p : ℕ) → pairs_of m.sizes ≤ p → at (solve_to m i) p ≡ false
  unfolding solve_to
  solve-past zero p h = refl
  solve-past (suc i) p h = table-past (pairs_of m.sizes) _ p h

  -- A table of the values of the first blocks is those values.
  solve-to : (i : ℕ) → i ≤ blocks_of m → ◌≡◌ {A = Values} (at (solve_to m i)) (S.solve_to (frame m) (leanings m) i)
  unfolding solve_to S.solve_to settled
  solve-to zero h = refl
  solve-to (suc i) h =
      let n = pairs_of m.sizes in
      let b = greatest m i in
      let v : Values = fresh m i (at (solve_to m i)) in
      let ih = solve-to i (omega arith) in
      let none : (p : ℕ) → n ≤ p → v p ≡ false = λ p k. rw (no_block m i p h k) (solve-past i p k) in
      let f : ◌≡◌ {A = Values} (at (table n v)) v = fun_ext (table_is n v none) in
      let g : ◌≡◌ {A = Values} v (S.fresh (frame m) i (S.solve_to (frame m) (leanings m) i)) = ap (λ (w : Values). fresh m i w) ih in
      let s : Rule = settles m i (at (table n v)) in
      let w : Values = put (not b) (at (table n v)) (at (smallest n s)) in
      let past : (p : ℕ) → n ≤ p → w p ≡ false = λ p k. rw (smallest-past n s p k) (table-past n v p k) in
      fun_ext (table_is n w past)
      ∙ ap (λ (u : Values). put (not b) u (at (smallest n (settles m i u)))) (f ∙ g)
      ∙ ap (λ (r : Rule). put (not b) (S.fresh (frame m) i (S.solve_to (frame m) (leanings m) i)) (at (smallest n r)))
      (settles-drops i h (S.fresh (frame m) i (S.solve_to (frame m) (leanings m) i)))

  pub solve-same : ◌≡◌ {A = Values} (at (solve m)) (S.solve (frame m) (leanings m))
  unfolding solve S.solve
  solve-same = solve-to (blocks_of m) (le_refl (blocks_of m))

  -- Past the pairs there is nothing.
  pub solve-none : (p : ℕ) → pairs_of m.sizes ≤ p → at (solve m) p ≡ false
  unfolding solve
  solve-none p h = solve-past (blocks_of m) p h

  -- A solution of the system is one of the model, and the other way round.
  pub solution-in : (v : Values) → S.Solution (frame m) (leanings m) v → Solution m v
  solution-in v s = record {
    solves = λ i h p e. s.solves i h p e ∙ sym (gives-eval m v p (block_inside m p (omega arith)));
    smallest = λ i h g u a k p e t. solution-smallest (frame m) (leanings m) v s i h u a (solves-in i h u k) p e g t;
    largest = λ i h g u a k p e t. solution-largest (frame m) (leanings m) v s i h u a (solves-in i h u k) p e g t;
  }
    where
      solves-in : (i : ℕ) → i < blocks_of m → (u : Values) → Solves m i u → S.Solves (frame m) (leanings m) i u
      solves-in i h u k p e = k p e ∙ gives-eval m u p (block_inside m p (omega arith))

  pub solution-out : (v : Values) → Solution m v → S.Solution (frame m) (leanings m) v
  solution-out v s = record {
    solves = λ i h p e. s.solves i h p e ∙ gives-eval m v p (block_inside m p (omega arith));
    extreme = λ i h u a k p e t. elim (tell true (greatest m i)) [
      | inl g ↦ s.largest i h g u a (solves-out i h u k) p e (t ∙ g) ∙ sym g
      | inr g ↦ elim (tell false (v p)) [
        | inl x ↦ x ∙ sym g
        | inr x ↦ absurd (clash true (u p) (s.smallest i h g u a (solves-out i h u k) p e x) (t ∙ g))
      ]
    ];
  }
    where
      solves-out : (i : ℕ) → i < blocks_of m → (u : Values) → S.Solves (frame m) (leanings m) i u → Solves m i u
      solves-out i h u k p e = k p e ∙ sym (gives-eval m u p (block_inside m p (omega arith)))

  module _ (ok : Sound m) where
    -- The values found are a solution.
    pub solve-solves : Solution m (at (solve m))
    solve-solves = subst (Solution m) (sym solve-same) (solution-in _ (solve-solution (frame m) (leanings m) (model-fits m ok)))

    -- Only the values of the pairs matter.
    gives-agree : (v w : Values) → ((p : ℕ) → p < pairs_of m.sizes → v p ≡ w p) → (p : ℕ) → p < pairs_of m.sizes → gives m v p ≡ gives m w p
    unfolding ev
    gives-agree v w e p h =
        gives-eval m v p h
        ∙ ev-agree ((frame m).kind p) (leanings m p) (λ q k. e q (block_inside m q (let a = (model-fits m ok).earlier p q k in let b = pairs-full m ok p h in omega arith)))
        ∙ sym (gives-eval m w p h)
      where
        ev-agree : (k : Bool) (l : List ℕ) → ((q : ℕ) → q ∈ l → v q ≡ w q) → ev k v l ≡ ev k w l
        ev-agree k [] f = refl
        ev-agree k (q ∷ l) f = ap₂ (S.op k) (f q (Memᴰ.head refl)) (ev-agree k l (λ r n. f r (Memᴰ.tail n)))

    pub solution-agree : (v w : Values) → ((p : ℕ) → p < pairs_of m.sizes → v p ≡ w p) → Solution m v → Solution m w
    solution-agree v w e s = record {
      solves = λ i h p k. let l = block_inside m p (omega arith) in sym (e p l) ∙ s.solves i h p k ∙ gives-agree v w e p l;
      smallest = λ i h g u a k p b t. s.smallest i h g u (agree i h u a) k p b (e p (block_inside m p (omega arith)) ∙ t);
      largest = λ i h g u a k p b t. sym (e p (block_inside m p (omega arith))) ∙ s.largest i h g u (agree i h u a) k p b t;
    }
      where
        agree : (i : ℕ) → i < blocks_of m → (u : Values) → Agree m i u w → Agree m i u v
        agree i h u a p k = a p k ∙ sym (e p (block_inside m p (omega arith)))

    -- Two solutions agree on every pair.
    pub solution-one : (v w : Values) → Solution m v → Solution m w → (p : ℕ) → p < pairs_of m.sizes → v p ≡ w p
    solution-one v w s t p h =
        unique (frame m) (leanings m) (model-fits m ok) v w (solution-out v s) (solution-out w t) (blocks_of m) (le_refl (blocks_of m)) p
        (pairs-full m ok p h)
