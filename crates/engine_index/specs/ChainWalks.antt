-- Walking along a chain meets the words that have its number, the last first, and no others. Assumes nothing.
use Rattle.std.specs.Prelude.{◌≡◌, Bool, List, get_or, eqb}
use Rattle.std.proofs.Math.Path.{refl}
use Rattle.std.proofs.Common.{◌∙◌}
use Rattle.std.proofs.Math.Bool.{true, false, cond}
use Prim.Native.Nat.{ℕ, zero, suc, ◌+◌, ◌-◌, ◌≤◌, ◌<◌}
use native.Mathlib.Omega.{arith}
use Rattle.lists.specs.Tests.{clash, eqb-in, eqb-out}
use Rattle.engine_index.specs.Chains.{last_to}
use Rattle.engine_index.specs.ChainLaws.{Chained}

module _ (key : ℕ → ℕ) (ws : List ℕ) (t : ℕ) where
  pub last-le : (k : ℕ) → last_to key ws t k ≤ k
  unfolding last_to
  last-le zero = omega arith
  last-le (suc j) = go (eqb (key (get_or ws j 0)) t) (last-le j)
    where
      go : (b : Bool) → last_to key ws t j ≤ j → cond b (suc j) (last_to key ws t j) ≤ suc j
      go true h = omega arith
      go false h = omega arith

  at-by : (j : ℕ) (b : Bool) → eqb (key (get_or ws j 0)) t ≡ b → cond b (suc j) (last_to key ws t j) ≡ suc j → key (get_or ws j 0) ≡ t
  at-by j true e h = eqb-out _ _ e
  at-by j false e h = let k = last-le j in absurd (omega arith)

  -- The chain stands at a word that has the number.
  pub last-at : (j : ℕ) → last_to key ws t (suc j) ≡ suc j → key (get_or ws j 0) ≡ t
  unfolding last_to
  last-at j h = at-by j (eqb (key (get_or ws j 0)) t) refl h

  again_by : (j : ℕ) (b : Bool) → eqb (key (get_or ws j 0)) t ≡ b → last_to key ws t (last_to key ws t j) ≡ last_to key ws t j
      → last_to key ws t (cond b (suc j) (last_to key ws t j)) ≡ cond b (suc j) (last_to key ws t j)
  unfolding last_to
  again_by j true e h = rw e
  again_by j false e h = h

  -- Where it stands, it stands.
  pub last-again : (k : ℕ) → last_to key ws t (last_to key ws t k) ≡ last_to key ws t k
  unfolding last_to
  last-again zero = refl
  last-again (suc j) = again_by j (eqb (key (get_or ws j 0)) t) refl (last-again j)

  skip_by : {A : Type 0} (f : ℕ → A) (j : ℕ) (b : Bool) → eqb (key (get_or ws j 0)) t ≡ b → ((key (get_or ws j 0) ≡ t → ⊥) → f j ≡ f (suc j))
      → f (last_to key ws t j) ≡ f j → f (cond b (suc j) (last_to key ws t j)) ≡ f (suc j)
  skip_by f j true e s h = refl
  skip_by f j false e s h = h ∙ s (λ k. clash true (eqb (key (get_or ws j 0)) t) (eqb-in _ _ k) e)

  -- What words with other numbers do not change is the same where the chain stands.
  pub last-skips : {A : Type 0} (f : ℕ → A) (n : ℕ) → ((j : ℕ) → j < n → (key (get_or ws j 0) ≡ t → ⊥) → f j ≡ f (suc j))
      → (k : ℕ) → k ≤ n → f (last_to key ws t k) ≡ f k
  unfolding last_to
  last-skips f n s zero h = refl
  last-skips f n s (suc j) h =
      skip_by f j (eqb (key (get_or ws j 0)) t) refl (s j (omega arith)) (last-skips f n s j (omega arith))

-- A step along a chain goes down.
pub step_falls : (key : ℕ → ℕ) (heads links : ℕ) (ws : List ℕ) (n : ℕ) (r : List ℕ) → Chained key heads links ws n r
    → (k next : ℕ) → 0 < k → k ≤ n → next ≡ get_or r (links + (k - 1)) 0 → next < k
step_falls key heads links ws n r c k next h l e =
    let s = c.steps (k - 1) (omega arith) in
    let f = last-le key ws (key (get_or ws (k - 1) 0)) (k - 1) in
    omega arith
