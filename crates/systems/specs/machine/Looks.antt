-- The looks of an update: each pair of a block is looked at in both phases, which is two looks for every pair.
-- Assumes nothing.
use Rattle.std.specs.Prelude.{◌≡◌, refl, Bool, ◌&&◌, cond, List, [], ◌∷◌, ◌++◌, eqb}
use Rattle.std.proofs.Math.Path.{sym, ap}
use Rattle.std.proofs.Common.{◌∙◌, inl, inr, add-zero, add-suc, suc-add, zero-add}
use Rattle.std.proofs.Math.Bool.{true, false}
use mathlib.Core.List.Memᴰ
use Prim.Native.Nat.{ℕ, zero, suc, ◌+◌, ◌≤◌, ◌<◌}
use Rattle.std.proofs.Math.Decide.{ℕ_discrete}
use native.Mathlib.Omega.{arith}
use Rattle.std.proofs.Math.ListN.{length}
use Rattle.lists.specs.Lists.{bit, sum}
use Rattle.lists.specs.Tests.{◌∈◌, clash, and-true, eqb-out, eqb-in}
use Rattle.lists.specs.Sums.{sum-ext, sum_ones, sum-add, sum-swap, sum_one}
use Rattle.systems.specs.solution.System.{Frame, Full}
use Rattle.systems.specs.machine.Machine.{Step, sight, turns, pairs_from, pairs_of, looks_at, todo_from, sights}

-- The looks of two lists put together are those of both.
sights-append : (a b : List Step) → sights (a ++ b) ≡ sights a + sights b
sights-append [] b = omega arith
sights-append (sight ph p ∷ a) b = let h = sights-append a b in omega arith
sights-append (turns ph i ∷ a) b = sights-append a b

-- There is a look for each pair.
sights-at : (ph : Bool) (l : List ℕ) → sights (looks_at ph l) ≡ length l
sights-at ph [] = refl
sights-at ph (p ∷ l) = ap suc (sights-at ph l)

module _ (F : Frame) (i : ℕ) where
  from-here : (n a p : ℕ) → p ∈ pairs_from F i a n → F.block p ≡ i
  from-here zero a p m = absurd (Memᴰ.not-nil m)
  from-here (suc n) a p m = go (eqb (F.block a) i) refl (from-here n (suc a) p) m
    where
      go : (b : Bool) → eqb (F.block a) i ≡ b → (p ∈ pairs_from F i (suc a) n → F.block p ≡ i)
          → p ∈ cond b (a ∷ pairs_from F i (suc a) n) (pairs_from F i (suc a) n) → F.block p ≡ i
      go true e ih k =
          elim (Memᴰ.cases_cons k) [
            | inl z ↦ ap F.block z ∙ eqb-out (F.block a) i e
            | inr z ↦ ih z
          ]
      go false e ih k = ih k

  from_in : (n a p : ℕ) → a ≤ p → p < a + n → F.block p ≡ i → p ∈ pairs_from F i a n
  from_in zero a p h l e = absurd (omega arith)
  from_in (suc n) a p h l e = go (eqb (F.block a) i) refl (λ ne. from_in n (suc a) p (omega arith) (omega arith) e)
    where
      go : (b : Bool) → eqb (F.block a) i ≡ b → ((p ≡ a → ⊥) → p ∈ pairs_from F i (suc a) n)
          → p ∈ cond b (a ∷ pairs_from F i (suc a) n) (pairs_from F i (suc a) n)
      go true f ih =
          elim (ℕ_discrete p a) [
            | yes z ↦ Memᴰ.head z
            | no z ↦ Memᴰ.tail (ih z)
          ]
      go false f ih = ih (λ z. clash true (eqb (F.block a) i) (eqb-in (F.block a) i (ap F.block (sym z) ∙ e)) f)

  -- What is among the pairs of block i is a pair of block i.
  pub pairs-here : (p : ℕ) → p ∈ pairs_of F i → F.block p ≡ i
  unfolding pairs_of
  pairs-here p m = from-here F.pairs 0 p m

  -- Each pair of block i is among them.
  pub pairs-in : (p : ℕ) → p < F.pairs → F.block p ≡ i → p ∈ pairs_of F i
  unfolding pairs_of
  pairs-in p l e = from_in F.pairs 0 p (omega arith) (omega arith) e

module _ (F : Frame) where
  -- The pairs of block i, counted.
  pairs-length : (i n a : ℕ) → length (pairs_from F i a n) + sum a (λ p. bit (eqb (F.block p) i)) ≡ sum (a + n) (λ p. bit (eqb (F.block p) i))
  pairs-length i zero a = let e = ap (λ (k : ℕ). sum k (λ p. bit (eqb (F.block p) i))) (add-zero a) in omega arith
  pairs-length i (suc n) a =
      let l = pairs_from F i (suc a) n in
      let k = pairs-length i n (suc a) in
      let e = ap (λ (k : ℕ). sum k (λ p. bit (eqb (F.block p) i))) (add-suc a n ∙ sym (suc-add a n)) in
      let c : length (cond (eqb (F.block a) i) (a ∷ l) l) ≡ bit (eqb (F.block a) i) + length l = one (eqb (F.block a) i) a l in
      omega arith
    where
      one : (b : Bool) (p : ℕ) (l : List ℕ) → length (cond b (p ∷ l) l) ≡ bit b + length l
      one true p l = omega arith
      one false p l = omega arith

  pairs_of-length : (i : ℕ) → length (pairs_of F i) ≡ sum F.pairs (λ p. bit (eqb (F.block p) i))
  unfolding pairs_of
  pairs_of-length i = let k = pairs-length i F.pairs 0 in let e = ap (λ (k : ℕ). sum k (λ p. bit (eqb (F.block p) i))) (zero-add F.pairs) in omega arith

  -- Two looks for each pair of a block.
  twice : ℕ → ℕ
  twice j = length (pairs_of F j) + length (pairs_of F j)

  todo-length : (n i : ℕ) → sights (todo_from F i n) + sum i twice ≡ sum (i + n) twice
  unfolding twice
  todo-length zero i = let e = ap (λ (k : ℕ). sum k twice) (add-zero i) in omega arith
  todo-length (suc n) i =
      let k = todo-length n (suc i) in
      let e = ap (λ (k : ℕ). sum k twice) (add-suc i n ∙ sym (suc-add i n)) in
      let a = sights-append (looks_at false (pairs_of F i)) (turns false i ∷ (looks_at true (pairs_of F i) ++ (turns true i ∷ todo_from F (suc i) n))) in
      let b = sights-append (looks_at true (pairs_of F i)) (turns true i ∷ todo_from F (suc i) n) in
      let c = sights-at false (pairs_of F i) in
      let d = sights-at true (pairs_of F i) in
      omega arith

  -- There are two looks for each pair.
  pub looks-total : Full F → sights (todo_from F 0 F.blocks) ≡ F.pairs + F.pairs
  unfolding twice
  looks-total full =
      let in_block : ℕ → ℕ → ℕ = λ j p. bit (eqb (F.block p) j) in
      let k = todo-length F.blocks 0 in
      let e = ap (λ (k : ℕ). sum k twice) (zero-add F.blocks) in
      let a = sum-add F.blocks (λ j. length (pairs_of F j)) (λ j. length (pairs_of F j)) in
      let b = sum-ext F.blocks (λ j. length (pairs_of F j)) (λ j. sum F.pairs (in_block j)) (λ j l. pairs_of-length j) in
      let c = sum-swap F.blocks F.pairs in_block in
      let d = sum-ext F.pairs (λ p. sum F.blocks (λ j. in_block j p)) (λ p. 1)
      (λ p l. sum-ext F.blocks (λ j. in_block j p) (λ j. bit (eqb (F.block p) j && true)) (λ j h. ap bit (sym (and-true (eqb (F.block p) j))))
      ∙ sum_one F.blocks (F.block p) true (full p l)) in
      let f = sum_ones F.pairs in
      omega arith
