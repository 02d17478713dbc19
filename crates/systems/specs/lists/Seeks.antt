-- Seeking the place of the next look is no unit: what is left to do from the place that is found is what was left from the
-- place before, without the turns that are over.
-- Assumes nothing.
use Rattle.std.specs.Prelude.{◌≡◌, Bool, not, eqb, ltb}
use Rattle.std.proofs.Math.Path.{refl, ap}
use Rattle.std.proofs.Common.{sym, ◌∙◌, subst, inl, inr, le_refl}
use Rattle.std.proofs.Math.Bool.{true, false, cond}
use mathlib.Core.List.{List, [], ◌∷◌, ◌++◌}
use Prim.Native.Nat.{ℕ, zero, suc, ◌+◌, ◌-◌, ◌≤◌, ◌<◌}
use native.Mathlib.Omega.{arith}
use Rattle.lists.specs.Tests.{tell, clash, eqb-out, eqb-in, ltb-out, ltb_no, eqb_no}
use Rattle.systems.specs.solution.System.{Frame}
use Rattle.systems.specs.machine.Machine.{Step, sight, turns, skip, pairs_from, pairs_of, looks_at, todo_from, after}
use Rattle.systems.specs.lists.ListMachine.{todo_at, Place, next_pair, pair_from, next_block, seek, phases}

module _ (F : Frame) where
  from_suc : (i p : ℕ) → p < F.pairs → let l = pairs_from F i (suc p) (F.pairs - suc p) in
      pairs_from F i p (F.pairs - p) ≡ cond (eqb (F.block p) i) (p ∷ l) l
  from_suc i p l = ap (pairs_from F i p) (let e : F.pairs - p ≡ suc (F.pairs - suc p) = omega arith in e)

  from_end : (i p : ℕ) → F.pairs ≤ p → pairs_from F i p (F.pairs - p) ≡ []
  from_end i p l = ap (pairs_from F i p) (let e : F.pairs - p ≡ 0 = omega arith in e)

  all_left : F.pairs ≡ F.pairs - 0
  all_left = omega arith

  -- At a pair of the block, it is looked at next.
  pub seek-here : (i k : ℕ) (ph : Bool) (p : ℕ) → p < F.pairs → F.block p ≡ i → todo_at F i (suc k) ph p ≡ sight ph p ∷ todo_at F i (suc k) ph (suc p)
  unfolding todo_at
  seek-here i k ph p l e =
      let rest = pairs_from F i (suc p) (F.pairs - suc p) in
      ap (λ (y : List ℕ). looks_at ph y ++ (turns ph i ∷ after F ph i k)) (from_suc i p l ∙ ap (λ (b : Bool). cond b (p ∷ rest) rest) (eqb-in (F.block p) i e))

  -- A pair of another block is passed by.
  seek-skip : (i k : ℕ) (ph : Bool) (p : ℕ) → p < F.pairs → (F.block p ≡ i → ⊥) → todo_at F i (suc k) ph p ≡ todo_at F i (suc k) ph (suc p)
  unfolding todo_at
  seek-skip i k ph p l e =
      let rest = pairs_from F i (suc p) (F.pairs - suc p) in
      ap (λ (y : List ℕ). looks_at ph y ++ (turns ph i ∷ after F ph i k)) (from_suc i p l ∙ ap (λ (b : Bool). cond b (p ∷ rest) rest) ((eqb_no (F.block p) i).1 e))

  -- After the last pair, the turns of the phase are due.
  pub seek-turns : (i k : ℕ) (ph : Bool) (p : ℕ) → F.pairs ≤ p → todo_at F i (suc k) ph p ≡ turns ph i ∷ after F ph i k
  unfolding todo_at
  seek-turns i k ph p l = ap (λ (y : List ℕ). looks_at ph y ++ (turns ph i ∷ after F ph i k)) (from_end i p l)

  -- A block that has shifted settles.
  after-shift : (i k : ℕ) → after F false i k ≡ todo_at F i (suc k) true 0
  unfolding todo_at after pairs_of
  after-shift i k = ap (λ (n : ℕ). looks_at true (pairs_from F i 0 n) ++ (turns true i ∷ todo_from F (suc i) k)) all_left

  -- From the first pair on, all of the blocks is left.
  pub seek-start : (i k : ℕ) → todo_from F i k ≡ todo_at F i k false 0
  unfolding todo_at after pairs_of
  seek-start i zero = refl
  seek-start i (suc k) = ap (λ (n : ℕ). looks_at false (pairs_from F i 0 n) ++ (turns false i ∷ after F false i k)) all_left

  -- A block that has settled is followed by the next block.
  after-settle : (i k : ℕ) → after F true i k ≡ todo_at F (suc i) k false 0
  unfolding after
  after-settle i k = seek-start (suc i) k

  -- The place s has been found from the pair p of a phase of block i, where k blocks were left and no pair waits: the same is
  -- left to do, without turns that are over, and there is a pair of the block at it, unless all blocks are done.
  pub record Sought (i k : ℕ) (ph : Bool) (p : ℕ) (s : Place) : Type 0 where
    pub same : skip (todo_at F i k ph p) ≡ todo_at F s.block (F.blocks - s.block) s.settling s.place
    pub range : s.block ≤ F.blocks
    pub ended : s.block ≡ F.blocks → s.settling ≡ false
    pub low : s.place ≤ F.pairs
    pub here : s.block < F.blocks → (s.place < F.pairs) × (F.block s.place ≡ s.block)

  -- Between the place and the next pair of the block there is nothing to do.
  pub next-same : (i k : ℕ) (ph : Bool) (n p : ℕ) → p + n ≡ F.pairs → todo_at F i (suc k) ph p ≡ todo_at F i (suc k) ph (next_pair F i p n)
  next-same i k ph zero p e = refl
  next-same i k ph (suc n) p e =
      let found : Bool → List Step = λ b. todo_at F i (suc k) ph (cond b p (next_pair F i (suc p) n)) in
      elim (tell true (eqb (F.block p) i)) [
        | inl h ↦ ap found (sym h)
        | inr h ↦
            seek-skip i k ph p (omega arith) (λ z. clash true (eqb (F.block p) i) (eqb-in (F.block p) i z) h)
            ∙ next-same i k ph n (suc p) (omega arith) ∙ ap found (sym h)
      ]

  -- The next pair of the block is one, or there is none.
  pub next_here : (i n p : ℕ) → p + n ≡ F.pairs → (next_pair F i p n ≤ F.pairs) × (next_pair F i p n < F.pairs → F.block (next_pair F i p n) ≡ i)
  next_here i zero p e = (omega arith, λ l. absurd (omega arith))
  next_here i (suc n) p e =
      let found : Bool → ℕ = λ b. cond b p (next_pair F i (suc p) n) in
      let Is : Bool → Type 0 = λ b. (found b ≤ F.pairs) × (found b < F.pairs → F.block (found b) ≡ i) in
      elim (tell true (eqb (F.block p) i)) [
        | inl h ↦ subst Is (sym h) (omega arith, λ l. eqb-out (F.block p) i h)
        | inr h ↦ subst Is (sym h) (next_here i n (suc p) (omega arith))
      ]

  -- It is no earlier.
  pub next_up : (i n p : ℕ) → p ≤ next_pair F i p n
  next_up i zero p = le_refl p
  next_up i (suc n) p =
      elim (tell true (eqb (F.block p) i)) [
        | inl h ↦ subst (λ (b : Bool). p ≤ cond b p (next_pair F i (suc p) n)) (sym h) (le_refl p)
        | inr h ↦ subst (λ (b : Bool). p ≤ cond b p (next_pair F i (suc p) n)) (sym h) (let k = next_up i n (suc p) in omega arith)
      ]

  todo-left : (i k : ℕ) (ph : Bool) (p : ℕ) → i + k ≡ F.blocks → todo_at F i k ph p ≡ todo_at F i (F.blocks - i) ph p
  todo-left i k ph p e = ap (λ (y : ℕ). todo_at F i y ph p) (let z : k ≡ F.blocks - i = omega arith in z)

  -- What `seek` finds has been found.
  pub sought : (m i k : ℕ) (ph : Bool) (p : ℕ) → i + k ≡ F.blocks → (k ≡ 0 → ph ≡ false) → p ≤ F.pairs → m ≡ phases k ph → Sought i k ph p (seek F m i ph p)
  unfolding todo_at
  sought zero i zero ph p e z l f = record {
    same = todo-left i 0 ph p e;
    range = omega arith;
    ended = λ h. z refl;
    low = l;
    here = λ h. absurd (omega arith);
  }
  sought zero i (suc k) ph p e z l f = absurd (stuck ph f)
    where
      stuck : (ph : Bool) → 0 ≡ phases (suc k) ph → ⊥
      stuck false f = omega arith
      stuck true f = omega arith
  sought (suc m) i zero ph p e z l f = absurd (none_left ph f)
    where
      none_left : (ph : Bool) → suc m ≡ phases 0 ph → ⊥
      none_left false f = omega arith
      none_left true f = omega arith
  sought (suc m) i (suc k) ph p e z l f =
      go ph (ltb r F.pairs) refl f
      (λ a. sought m i (suc k) true 0 e (λ y. absurd (omega arith)) (omega arith) a)
      (λ a. sought m (suc i) k false 0 (omega arith) (λ y. refl) (omega arith) a)
    where
      r : ℕ
      r = pair_from F i p

      -- What is found in a later phase, if no pair of this one is left.
      pass : (ph : Bool) (j h : ℕ) → ltb r F.pairs ≡ false → after F ph i k ≡ todo_at F j h (not ph) 0
          → Sought j h (not ph) 0 (seek F m (next_block ph i) (not ph) 0)
          → Sought i (suc k) ph p (cond (ltb r F.pairs) (record { block = i; settling = ph; place = r }) (seek F m (next_block ph i) (not ph) 0))
      pass ph j h b t s =
          subst (λ (b : Bool). Sought i (suc k) ph p (cond b (record { block = i; settling = ph; place = r }) (seek F m (next_block ph i) (not ph) 0))) (sym b)
          (record {
            same =
                ap skip (next-same i k ph (F.pairs - p) p (omega arith) ∙ seek-turns i k ph r ((ltb_no r F.pairs).0 b)) ∙ ap skip t ∙ s.same;
            range = s.range;
            ended = s.ended;
            low = s.low;
            here = s.here;
          })

      go : (ph : Bool) (b : Bool) → ltb r F.pairs ≡ b → suc m ≡ phases (suc k) ph
          → (m ≡ phases (suc k) true → Sought i (suc k) true 0 (seek F m i true 0))
          → (m ≡ phases k false → Sought (suc i) k false 0 (seek F m (suc i) false 0))
          → Sought i (suc k) ph p (cond (ltb r F.pairs) (record { block = i; settling = ph; place = r }) (seek F m (next_block ph i) (not ph) 0))
      go ph true h f u w =
          let a = ltb-out r F.pairs h in
          let c = next_here i (F.pairs - p) p (omega arith) in
          let d = seek-here i k ph r a (c.1 a) in
          subst (λ (b : Bool). Sought i (suc k) ph p (cond b (record { block = i; settling = ph; place = r }) (seek F m (next_block ph i) (not ph) 0))) (sym h)
          (record {
            same = ap skip (next-same i k ph (F.pairs - p) p (omega arith) ∙ d) ∙ sym d ∙ todo-left i (suc k) ph r e;
            range = omega arith;
            ended = λ y. absurd (omega arith);
            low = c.0;
            here = λ y. (a, c.1 a);
          })
      go false false h f u w = pass false i (suc k) h (after-shift i k) (u (omega arith))
      go true false h f u w = pass true (suc i) k h (after-settle i k) (w (omega arith))
